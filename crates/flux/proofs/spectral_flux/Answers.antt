-- `flux::spectral_flux` meets its contract: a refusal returns at once, and without one the magnitudes are whole and fine, and there is room (`flux-told`).
-- Assumes nothing.
use mathlib.Core.Path.{sym}
use native.Mathlib.Omega.{arith}
use Rattle.numbers.proofs.Outcomes.{written_on, written-done}
use Rattle.flux.proofs.Fluxes.{flux-told}
use Rattle.flux.proofs.spectral_flux.Goals as goal

pub returns-in_err-refusal : goal.returns-in_err-refusal
returns-in_err-refusal c = written_on _ _ _ _ _ c.from_residual.ensures.1 c.in_err-refusal.ensures

pub invariant_of-m : goal.invariant_of-m
invariant_of-m c =
    let told = flux-told _ _ _ (sym c.in_ok-refusal.ensures) in
    record { whole = told.whole; fine = told.fine }

pub fill_flux-requires : goal.fill_flux-requires
fill_flux-requires c = (omega arith, omega arith, (flux-told _ _ _ (sym c.in_ok-refusal.ensures)).has_room)

pub returns : goal.returns
returns c = written-done _ _ _ _ (sym c.in_ok-refusal.ensures) c.fill_flux.ensures
