-- `beats::beat_grid` meets its contract: a refusal and a beatless envelope leave the lent lists as they were, and past both the grid is laid.
-- Assumes nothing.
use mathlib.Core.Path.{◌≡◌, refl, sym, ap, ◌∙◌}
use mathlib.Core.Bool.{true, false, ◌&&◌}
use mathlib.Core.List.{List, []}
use Prim.Native.Nat.{ℕ, zero, suc, ◌≤◌}
use native.Mathlib.Omega.{arith}
use borrow.Author.Tests.{leb-true, eq-eqb, ne_eqb}
use lib.Dec.{leb}
use lib.ListN.{length}
use lib.Ieee.{Float, le}
use Rattle.std.specs.Prelude.{Result, Ok, Err, IsErrAnd}
use Rattle.numbers.specs.Rounded.{◌⊘◌, epsilon, one}
use Rattle.numbers.specs.Refusals.{number}
use Rattle.numbers.specs.declared.Refusal.{Refusal}
use Rattle.numbers.specs.Outcomes.{listing}
use Rattle.numbers.proofs.Outcomes.{number-not_0}
use Rattle.numbers.specs.Limits.{most_rows, most_period, value_fine}
use Rattle.numbers.specs.Lists.{listed, every}
use Rattle.numbers.proofs.Tests.{lowest-zero, and_left, and_right, refused_keeps, passed_does, pick_true, pick-false}
use Rattle.numbers.proofs.Tabs.{listed-none}
use Rattle.roots.specs.Roots.{sqrt_of}
use Rattle.beats.specs.Envelopes.{variance_of, beatless, scale_of, scaled_by, scaled}
use Rattle.beats.specs.Scores.{scores, links}
use Rattle.beats.specs.Grids.{grid_numbers_fine, grid_room_fine, grid_refusal, grid, scores_of, links_of, grid_of, GridPromise}
use Rattle.beats.specs.Inner.{GridLaid}
use Rattle.beats.proofs.beat_grid.Goals as goal

-- what number 0 tells
pub record GridTold (envelope : List Float) (period score back beats : ℕ) : Type 0 where
  pub rows : length envelope ≤ most_rows
  pub periods : period ≤ most_period
  pub scores-room : length envelope ≤ score
  pub links-room : length envelope ≤ back
  pub beats-room : length envelope ≤ beats

told : (envelope : List Float) (period score back beats : ℕ) → grid_refusal envelope period score back beats ≡ 0 → GridTold envelope period score back beats
unfolding grid_refusal grid_numbers_fine grid_room_fine
told envelope period score back beats e =
    let p = lowest-zero (grid_numbers_fine envelope period) true (grid_room_fine envelope score back beats) (every value_fine envelope) e in
    let n = length envelope in
    let r = and_right (leb n score) (leb n back && leb n beats) p.room in
    record {
      rows = leb-true n most_rows (and_left _ (leb period most_period) p.bounds);
      periods = leb-true period most_period (and_right (leb n most_rows) _ p.bounds);
      scores-room = leb-true n score (and_left _ (leb n back && leb n beats) p.room);
      links-room = leb-true n back (and_left _ (leb n beats) r);
      beats-room = leb-true n beats (and_right (leb n back) _ r);
    }

-- which envelopes are beatless
module _ (envelope : List Float) (period : ℕ) where
  empty : length envelope ≡ 0 → beatless envelope period ≡ true
  unfolding beatless
  empty e = rw (eq-eqb (length envelope) 0 e)

  module _ (some : length envelope ≡ 0 → ⊥) where
    still : period ≡ 0 → beatless envelope period ≡ true
    unfolding beatless
    still e = rw (ne_eqb (length envelope) 0 some, eq-eqb period 0 e)

    by-variance : (period ≡ 0 → ⊥) → (v : Float) → v ≡ variance_of envelope → beatless envelope period ≡ le v epsilon
    unfolding beatless
    by-variance h v e = rw (ne_eqb (length envelope) 0 some, ne_eqb period 0 h, e)

module _ (envelope : List Float) (period : ℕ) (score₀ : List Float) (back₀ beats₀ : List ℕ) where
  refused : (r : Result ℕ Refusal) (e : Refusal) → IsErrAnd r (λ (x : Refusal). x ≡ e)
      → number e ≡ grid_refusal envelope period (length score₀) (length back₀) (length beats₀) → GridPromise envelope period score₀ back₀ beats₀ (listing r) score₀ back₀ beats₀
  refused (Ok n) e h k = absurd h
  refused (Err x) e h k =
      let is : number x ≡ grid_refusal envelope period (length score₀) (length back₀) (length beats₀) = ap number h ∙ k in
      let no : grid_refusal envelope period (length score₀) (length back₀) (length beats₀) ≡ 0 → ⊥ = λ z. number-not_0 x (is ∙ z) in
      record {
        number_is = is;
        count_is = sym (refused_keeps _ _ 0 no);
        score_is = sym (refused_keeps _ _ score₀ no);
        back_is = sym (refused_keeps _ _ back₀ no);
        beats_are = sym (refused_keeps _ _ beats₀ no);
      }

  module _ (passed : grid_refusal envelope period (length score₀) (length back₀) (length beats₀) ≡ 0) where
    -- what is answered, by the three lists
    answered : (count : ℕ) (score : List Float) (back beats : List ℕ) → count ≡ length (grid_of envelope period)
        → score ≡ listed (scores_of envelope period) score₀ → back ≡ listed (links_of envelope period) back₀ → beats ≡ listed (grid_of envelope period) beats₀
        → GridPromise envelope period score₀ back₀ beats₀ (record { number = 0; count = count }) score back beats
    answered count score back beats c s k b =
        record {
          number_is = sym passed;
          count_is = c ∙ sym (passed_does _ _ 0 passed);
          score_is = s ∙ sym (passed_does _ _ score₀ passed);
          back_is = k ∙ sym (passed_does _ _ back₀ passed);
          beats_are = b ∙ sym (passed_does _ _ beats₀ passed);
        }

    silent : beatless envelope period ≡ true → GridPromise envelope period score₀ back₀ beats₀ (record { number = 0; count = 0 }) score₀ back₀ beats₀
    unfolding scores_of links_of grid_of
    silent e =
        let scores-none = pick_true (beatless envelope period) [] (scores period (scaled envelope) (length envelope)) e in
        let links-none = pick_true (beatless envelope period) [] (links period (scaled envelope) (length envelope)) e in
        let beats-none = pick_true (beatless envelope period) [] (grid period (scaled envelope) (length envelope)) e in
        answered 0 score₀ back₀ beats₀ (ap length (sym beats-none))
        (sym (ap (λ (l : List Float). listed l score₀) scores-none ∙ listed-none score₀))
        (sym (ap (λ (l : List ℕ). listed l back₀) links-none ∙ listed-none back₀))
        (sym (ap (λ (l : List ℕ). listed l beats₀) beats-none ∙ listed-none beats₀))

    laid : (scale : Float) (count : ℕ) (score : List Float) (back beats : List ℕ) → beatless envelope period ≡ false → scale ≡ scale_of envelope
        → GridLaid period (scaled_by scale envelope) (length envelope) score₀ score back₀ back beats₀ beats count
        → GridPromise envelope period score₀ back₀ beats₀ (record { number = 0; count = count }) score back beats
    unfolding scores_of links_of grid_of
    laid scale count score back beats e s w =
        let n = length envelope in
        let scores_are =
        ap (λ (x : Float). scores period (scaled_by x envelope) n) s ∙ sym (pick-false (beatless envelope period) [] (scores period (scaled envelope) n) e)
        in
        let links_are =
        ap (λ (x : Float). links period (scaled_by x envelope) n) s ∙ sym (pick-false (beatless envelope period) [] (links period (scaled envelope) n) e)
        in
        let grid-is =
        ap (λ (x : Float). grid period (scaled_by x envelope) n) s ∙ sym (pick-false (beatless envelope period) [] (grid period (scaled envelope) n) e)
        in
        answered count score back beats (w.count_is ∙ ap length grid-is)
        (w.tracked.scores_are ∙ ap (λ (l : List Float). listed l score₀) scores_are)
        (w.tracked.links_are ∙ ap (λ (l : List ℕ). listed l back₀) links_are)
        (w.beats_are ∙ ap (λ (l : List ℕ). listed l beats₀) grid-is)

at_least : (n : ℕ) → (n ≡ 0 → ⊥) → 1 ≤ n
at_least zero h = absurd (h refl)
at_least (suc n) h = omega arith

pub returns-in_err-grid_refusal : goal.returns-in_err-grid_refusal
returns-in_err-grid_refusal c = refused _ _ _ _ _ _ _ c.from_residual.ensures.1 c.in_err-grid_refusal.ensures

pub returns-then-envelope-eq0 : goal.returns-then-envelope-eq0
returns-then-envelope-eq0 c = silent _ _ _ _ _ (sym c.in_ok-grid_refusal.ensures) (empty _ _ c.if-envelope-eq0.true)

pub returns-then-period-eq0 : goal.returns-then-period-eq0
returns-then-period-eq0 c = silent _ _ _ _ _ (sym c.in_ok-grid_refusal.ensures) (still _ _ c.if-envelope-eq0.false c.if-period-eq0.true)

pub returns-then-variance : goal.returns-then-variance
returns-then-variance c =
    silent _ _ _ _ _ (sym c.in_ok-grid_refusal.ensures)
    (by-variance _ _ c.if-envelope-eq0.false c.if-period-eq0.false c.variance_of-variance.result
    c.variance_of-variance.ensures ∙ c.if-variance.true)

pub lay_grid-count-requires : goal.lay_grid-count-requires
lay_grid-count-requires c =
    let t = told _ _ _ _ _ (sym c.in_ok-grid_refusal.ensures) in
    let a = c.args in
    let some : 1 ≤ length a.envelope.now = omega (
      arith,
      at_least (length a.envelope.now)
          c.if-envelope-eq0.false,
    ) in
    let some' : 1 ≤ a.period = omega (arith, at_least a.period c.if-period-eq0.false) in
    record { le_period = (some', t.periods, some, t.rows); envelope_in_bounds = (t.scores-room, t.links-room, t.beats-room) }

pub returns : goal.returns
unfolding scale_of
returns c =
    let v = c.variance_of-variance in
    let r = c.sqrt in
    laid _ _ _ _ _ (sym c.in_ok-grid_refusal.ensures) _ _ _ _ _
    (by-variance _ _ c.if-envelope-eq0.false
    c.if-period-eq0.false v.result
    v.ensures ∙ c.if-variance.false)
    (ap (λ (x : Float). one ⊘ x) (r.ensures ∙ ap sqrt_of v.ensures))
    c.lay_grid-count.ensures
