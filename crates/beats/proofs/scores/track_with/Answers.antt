use mathlib.Core.Path.{◌≡◌, refl, sym, ap, ◌∙◌}
use mathlib.Core.List.{List, ◌++◌}
use Prim.Native.Nat.{ℕ, ◌+◌, ◌≤◌, ◌<◌}
use native.Mathlib.Numerals.{add-one}
use native.Mathlib.Omega.{arith}
use lib.ListN.{length, get_or, set, drop, length-set}
use lib.Ieee.{Float, nan}
use Rattle.numbers.specs.Rounded.{◌⊕◌}
use Rattle.numbers.specs.Lists.{curve, filled, listed}
use Rattle.numbers.proofs.Tabs.{length-tab, filled_none, filled_more, filled-whole, listed-none, listed_more, get_or_listed_in}
use Rattle.lists.specs.declared.Best.{Best}
use Rattle.beat_links.specs.Extensions.{extension}
use Rattle.beat_links.proofs.Extensions.{extension-same}
use Rattle.beats.specs.Envelopes.{scaled_by}
use Rattle.beats.specs.Scores.{scores, link_of, links}
use Rattle.beats.proofs.Links.{length-scores, scores_begin, grown}
use Rattle.beats.proofs.scores.track_with.Goals as goal

-- frame t, where those before it are written
module _ (period : ℕ) (flux : ℕ → Float) (score₀ score : List Float) (t : ℕ) (best : Best) (some : 1 ≤ period)
    (was : score ≡ listed (scores period flux t) score₀) (is : best ≡ extension period score t) where
  before : (u : ℕ) → u < t → get_or score u nan ≡ get_or (scores period flux t) u nan
  before u h = ap (λ (l : List Float). get_or l u nan) was ∙ get_or_listed_in (scores period flux t) score₀ u nan (omega (arith, length-scores period flux t))

  scored : t < length score₀ → set score t (flux t ⊕ best.value) ≡ listed (scores period flux (t + 1)) score₀
  scored h =
      let ss = scores period flux t in
      let n = length-scores period flux t in
      let v = flux t ⊕ (extension period ss t).value in
      let e = is ∙ extension-same period score ss t some before in
      ap (λ (b : Best). set score t (flux t ⊕ b.value)) e
      ∙ ap (λ (l : List Float). set l t v) was
      ∙ ap (λ (k : ℕ). set (listed ss score₀) k v) (sym n)
      ∙ listed_more ss score₀ v nan (omega (arith, n))
      ∙ ap (λ (l : List Float). listed l score₀) (sym (grown period flux t) ∙ ap (scores period flux) (sym (add-one t)))

  linked : (n : ℕ) → t ≤ n → best.at ≡ link_of period (scores period flux n) t
  unfolding link_of
  linked n h =
      ap (λ (b : Best). b.at)
      (is ∙ extension-same period score (scores period flux n) t some (λ u k. before u k ∙ scores_begin period flux t n u h k))

-- all frames are linked
all-linked : (period : ℕ) (flux : ℕ → Float) (n : ℕ) (back₀ : List ℕ)
    → filled (link_of period (scores period flux n)) back₀ 0 n ≡ listed (links period flux n) back₀
unfolding listed links
all-linked period flux n back₀ =
    let rule = link_of period (scores period flux n) in
    filled-whole rule back₀ n ∙ ap (λ (k : ℕ). curve rule n ++ drop k back₀) (sym (length-tab rule 0 n))

pub loop-t-init : goal.loop-t-init
unfolding scores
loop-t-init c = (omega arith, refl, refl, sym (listed-none _), sym (filled_none _ _ 0))

pub loop-t-preserved : goal.loop-t-preserved
unfolding scaled_by
loop-t-preserved c =
    let a = c.args in
    let p = c.requires in
    let env = a.envelope.now in
    let flux = scaled_by a.scale env in
    let t = c.loop-t.t in
    let b = c.extension_at-best.result in
    let rule = link_of a.period (scores a.period flux (length env)) in (
      omega arith,
      simp length-set c.loop-t.invariant.1,
      simp length-set c.loop-t.invariant.2,
      scored a.period flux a.score.now c.loop-t.score t b p.le_period.0 c.loop-t.invariant.3 c.extension_at-best.ensures (omega arith),
      ap (λ (k : List ℕ). set k t b.at) c.loop-t.invariant.4
          ∙ ap (set (filled rule a.back.now 0 t) t)
          (linked a.period flux a.score.now c.loop-t.score t b p.le_period.0 c.loop-t.invariant.3 c.extension_at-best.ensures (length env) (omega arith))
          ∙ filled_more rule a.back.now 0 t (omega arith) 0 (omega arith),
    )

pub returns : goal.returns
returns c =
    let a = c.args in
    let env = a.envelope.now in
    let flux = scaled_by a.scale env in
    let e : c.loop-t.t ≡ length env = omega arith in
    record {
      scores_are = c.loop-t.invariant.3 ∙ ap (λ (n : ℕ). listed (scores a.period flux n) a.score.now) e;
      links_are =
          c.loop-t.invariant.4 ∙ ap (filled (link_of a.period (scores a.period flux (length env))) a.back.now 0) e
          ∙ all-linked a.period flux (length env) a.back.now;
    }
