-- `lag_candidates::next_best` meets its contract: each return is one case of the law on one slot more. Where `best` is read it is a slot, as
-- some maximum before stood apart. Assumes nothing.
use mathlib.Core.Path.{◌≡◌, sym, ◌∙◌}
use mathlib.Core.Bool.{true}
use mathlib.Core.List.{[], ◌∷◌}
use Prim.Native.Nat.{◌<◌}
use native.Mathlib.Omega.{arith}
use borrow.Author.Rules.{rules}
use borrow.Author.Tests.{not-true, not-false}
use lib.ListN.{length}
use Rattle.lag_candidates.specs.Candidates.{maximum_at, stands_apart}
use Rattle.lag_candidates.proofs.Rankings.{next_no_maximum, next_fails, next_alone, best_below, next_greater, next_not_greater}
use mathlib.Core.Path.{ap}
use mathlib.Core.Bool.{not}
use Rattle.lag_candidates.proofs.next_best.Goals.{Else-best-weight, Else-not-is_apart, Else-not-is_maximum}
use Rattle.lag_candidates.proofs.next_best.Goals as goal

-- the slot is a maximum
maximum : (c : Else-not-is_maximum) → let a = c.args in maximum_at a.weight.now a.i ≡ true
maximum c = sym c.is_maximum.ensures ∙ not-false _ (ap not c.if-not-is_maximum.false)

-- and stands apart
apart : (c : Else-not-is_apart) → let a = c.args in stands_apart a.min_lag (a.a ∷ a.b ∷ []) a.i ≡ true
apart c = sym c.is_apart.ensures ∙ not-false _ (ap not c.if-not-is_apart.false)

-- some maximum before it did
slot : (c : Else-best-weight) → let a = c.args in a.best < length a.weight.now
slot c =
    let maximum-here : let a = c.args in maximum_at a.weight.now a.i ≡ true = sym c.is_maximum.ensures ∙ not-false _ (ap not c.if-not-is_maximum.false) in
    let apart-here : let a = c.args in stands_apart a.min_lag (a.a ∷ a.b ∷ []) a.i ≡ true = sym c.is_apart.ensures ∙ not-false _ (ap not c.if-not-is_apart.false) in
    let b = best_below _ _ _ _ _ c.requires.i_in_bounds.0 c.requires.i_in_bounds.1 (maximum-here) (apart-here) c.if-best-weight.false in
    omega (arith, b, c.requires.i_in_bounds.0)

pub returns-then-not-is_maximum : goal.returns-then-not-is_maximum
returns-then-not-is_maximum c =
    next_no_maximum _ _ _ _ _ c.requires.i_in_bounds.0 c.requires.i_in_bounds.1 (sym c.is_maximum.ensures ∙ not-true _ (ap not c.if-not-is_maximum.true))

pub returns-then-not-is_apart : goal.returns-then-not-is_apart
returns-then-not-is_apart c =
    next_fails _ _ _ _ _ c.requires.i_in_bounds.0 c.requires.i_in_bounds.1 (maximum (goal.at.returns-then-not-is_apart c).Else-not-is_maximum) (sym c.is_apart.ensures ∙ not-true _ (ap not c.if-not-is_apart.true))

pub returns-then-best-weight : goal.returns-then-best-weight
returns-then-best-weight c =
    next_alone _ _ _ _ _ c.requires.i_in_bounds.0 c.requires.i_in_bounds.1 (maximum (goal.at.returns-then-best-weight c).Else-not-is_maximum) (apart (goal.at.returns-then-best-weight c).Else-not-is_apart) c.if-best-weight.true

pub offset_bounds-weight-best : goal.offset_bounds-weight-best
offset_bounds-weight-best c = let h = slot (goal.at.offset_bounds-weight-best c).Else-best-weight in search rules

pub bounds-weight-best : goal.bounds-weight-best
bounds-weight-best c = slot (goal.at.bounds-weight-best c).Else-best-weight

pub returns-then-weight-best : goal.returns-then-weight-best
returns-then-weight-best c =
    next_greater _ _ _ _ _ c.requires.i_in_bounds.0 c.requires.i_in_bounds.1 (maximum (goal.at.returns-then-weight-best c).Else-not-is_maximum) (apart (goal.at.returns-then-weight-best c).Else-not-is_apart) c.if-best-weight.false c.if-weight-best.true

pub returns : goal.returns
returns c =
    next_not_greater _ _ _ _ _ c.requires.i_in_bounds.0 c.requires.i_in_bounds.1 (maximum (goal.at.returns c).Else-not-is_maximum) (apart (goal.at.returns c).Else-not-is_apart) c.if-best-weight.false c.if-weight-best.false
