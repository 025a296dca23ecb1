-- `sections::boundaries` meets its contract: a number other than 0 returns at once, number 0 says all that the inner call asks (`boundaries_told`),
-- and a curve that is too
-- short has no boundary. Assumes nothing.
use Rattle.std.proofs.Common.{ℕ, ◌-◌, sym, refl, ap, ◌∙◌, arith}
use Rattle.std.proofs.Math.Nat.{max_comm}
use Rattle.sections.specs.Boundaries.{most_boundaries}
use Rattle.sections.proofs.Bounds.{boundaries_told}
use Rattle.sections.proofs.Outcomes.{found_on, found_short, found_long}
use Rattle.sections.proofs.boundaries.Goals as goal

pub returns-in_err-refusal : goal.returns-in_err-refusal
returns-in_err-refusal c = found_on _ _ _ _ _ _ _ c.from_residual.ensures.1 c.in_err-refusal.ensures

pub returns-then-n-lt-LEAST_ROWS : goal.returns-then-n-lt-LEAST_ROWS
returns-then-n-lt-LEAST_ROWS c =
    found_short _ _ _ _ _ _ _ _ (sym c.in_ok-refusal.ensures) c.if-n-lt-LEAST_ROWS.true refl c.min.ensures refl refl

pub find-requires : goal.find-requires
find-requires c =
    let told = boundaries_told _ _ _ _ _ (sym c.in_ok-refusal.ensures) in
    (omega arith, told.slots-fit, told.has_room, told.has_work)

pub returns : goal.returns
unfolding most_boundaries
returns c =
    found_long _ _ _ _ _ _ _ _ _ _ _ _ (sym c.in_ok-refusal.ensures) c.if-n-lt-LEAST_ROWS.false c.section_gap.ensures
    (ap (λ (x : ℕ). x - 1) (c.max-most.ensures ∙ max_comm _ 1)) c.find.ensures
