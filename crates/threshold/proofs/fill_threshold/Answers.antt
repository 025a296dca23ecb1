-- `threshold::fill_threshold` meets its contract: the slots before, of and after the whole windows, joined. Assumes nothing.
use mathlib.Core.Path.{◌≡◌, sym, ap, ◌∙◌}
use mathlib.Core.Bool.{true}
use mathlib.Core.List.{List}
use Prim.Native.Nat.{ℕ, ◌+◌, ◌-◌, ◌≤◌, ◌<◌, min, max}
use native.Mathlib.Nat.{le_trans, le_of_eq, le_of_lt}
use native.Mathlib.Omega.{arith}
use lib.ListN.{length, get_or, take, drop, length-drop}
use lib.Seq.{get_or-take, get_or-drop, length-take-le}
use lib.Ieee.{Float, nan}
use Rattle.numbers.specs.Limits.{value_fine}
use Rattle.numbers.specs.Lists.{every, filled}
use Rattle.numbers.proofs.Everys.{every-at}
use Rattle.numbers.proofs.Tabs.{filled_join}
use Rattle.threshold.specs.Threshold.{threshold_at}
use Rattle.threshold.specs.Sliding.{FinePart}
use Rattle.threshold.proofs.fill_threshold.Goals as goal

-- the slots from first up to last have whole windows, and so has the slot before
record Whole (from past n first last : ℕ) : Type 0 where
  pub reach : 11 ≤ first
  pub begin : from ≤ first
  pub more : first < last
  pub end : last ≤ past
  pub inside : first ≤ past
  pub room : last + 10 ≤ n

whole : (from past n first less last : ℕ) → first ≡ max from 11 → less ≡ n - 10 → last ≡ min past less → first < last → Whole from past n first last
whole from past n first less last a b d l =
    record { reach = omega arith; begin = omega arith; more = l; end = omega arith; inside = omega arith; room = omega arith }

-- the part whose values were looked at
fine-part : (flux : List Float) (first last : ℕ) → 11 ≤ first → first < last → last + 10 ≤ length flux
    → every value_fine (take (last + 10 - (first - 10 - 1)) (drop (first - 10 - 1) flux)) ≡ true → FinePart flux (first - 11) (last + 10)
fine-part flux first last a b l e i g h =
    let s : ℕ = first - 10 - 1 in
    let m : ℕ = last + 10 - (first - 10 - 1) in
    let k : ℕ = i - (first - 10 - 1) in
    let q : first - 10 - 1 + (i - (first - 10 - 1)) ≡ i = omega arith in
    let z : i - (first - 10 - 1) < last + 10 - (first - 10 - 1) = omega arith in
    let r : last + 10 - (first - 10 - 1) ≤ length flux - (first - 10 - 1) = omega arith in
    let n : length (take m (drop s flux)) ≡ last + 10 - (first - 10 - 1) = length-take-le m (drop s flux) (simp length-drop r) in
    let at : get_or (take m (drop s flux)) k nan ≡ get_or flux i nan =
    get_or-take m (drop s flux) k nan z ∙ get_or-drop s flux k nan ∙ ap (λ (j : ℕ). get_or flux j nan) q in
    ap value_fine (sym at) ∙ every-at value_fine (take m (drop s flux)) k nan e (le_trans z (le_of_eq (sym n)))

pub fill_slots-requires : goal.fill_slots-requires
fill_slots-requires c =
    let p = c.requires in
    let flux = c.args.flux.now in
    let first = c.max-first.result in
    let last = c.min-last.result in
    let g : Whole c.args.from c.args.past (length flux) first last =
    whole c.args.from c.args.past (length flux) first c.saturating_sub.result last c.max-first.ensures
    c.saturating_sub.ensures c.min-last.ensures c.if-first-last.true in
    (g.begin, le_trans g.inside p.1, le_trans g.inside p.2, p.3)

pub fill_whole-requires : goal.fill_whole-requires
fill_whole-requires c =
    let p = c.requires in
    let flux = c.args.flux.now in
    let first = c.max-first.result in
    let last = c.min-last.result in
    let g : Whole c.args.from c.args.past (length flux) first last =
    whole c.args.from c.args.past (length flux) first c.saturating_sub.result last c.max-first.ensures
    c.saturating_sub.ensures c.min-last.ensures c.if-first-last.true in record { le_from = (g.reach, g.more, g.room, le_trans (le_trans g.end p.2) (le_of_eq (sym c.fill_slots.auto.threshold))); fine_part = fine-part flux first last g.reach g.more g.room (sym c.values_fine.ensures ∙ c.if-values_fine.true) }

pub fill_slots-requires-then-values_fine : goal.fill_slots-requires-then-values_fine
fill_slots-requires-then-values_fine c =
    let p = c.requires in
    let flux = c.args.flux.now in
    let first = c.max-first.result in
    let last = c.min-last.result in
    let g : Whole c.args.from c.args.past (length flux) first last =
    whole c.args.from c.args.past (length flux) first c.saturating_sub.result last c.max-first.ensures
    c.saturating_sub.ensures c.min-last.ensures c.if-first-last.true in (
      g.end,
      p.1,
      le_trans p.2 (le_of_eq (sym (c.fill_whole.auto.threshold ∙ c.fill_slots.auto.threshold))),
      le_trans p.3 (le_of_eq (sym c.fill_slots.auto.work)),
    )

pub returns-then-values_fine : goal.returns-then-values_fine
returns-then-values_fine c =
    let p = c.requires in
    let flux = c.args.flux.now in
    let first = c.max-first.result in
    let last = c.min-last.result in
    let g : Whole c.args.from c.args.past (length flux) first last =
    whole c.args.from c.args.past (length flux) first c.saturating_sub.result last c.max-first.ensures
    c.saturating_sub.ensures c.min-last.ensures c.if-first-last.true in
    let from = c.args.from in
    let past = c.args.past in
    let th = c.args.threshold.now in
    let rule = threshold_at flux in
    let m : last ≤ length th = le_trans g.end p.2 in record {
      threshold_after = c.fill_slots-then-values_fine.ensures.threshold_after
          ∙ ap (λ (l : List Float). filled rule l last past)
          (c.fill_whole.ensures ∙ ap (λ (l : List Float). filled rule l first last) c.fill_slots.ensures.threshold_after
          ∙ filled_join rule th from first last g.begin (le_of_lt g.more) nan m)
          ∙ filled_join rule th from last past (le_trans g.begin (le_of_lt g.more)) g.end nan p.2;
      work_unchanged = c.fill_slots-then-values_fine.ensures.work_unchanged ∙ c.fill_slots.ensures.work_unchanged;
    }
