-- `median::median_of` meets its contract: a refusal returns at once, and nothing was touched; else the answer is the inner call's.
-- Assumes nothing.
use mathlib.Core.Path.{sym}
use Rattle.median.proofs.Told.{told_on, told-value, told_lengths}
use Rattle.median.proofs.median_of.Goals as goal

pub returns-in_err-refusal : goal.returns-in_err-refusal
returns-in_err-refusal c = told_on _ _ _ c.from_residual.ensures.1 c.in_err-refusal.ensures

pub median_in-requires : goal.median_in-requires
median_in-requires c = told_lengths _ _ _ (sym c.in_ok-refusal.ensures)

pub returns : goal.returns
returns c = told-value _ (sym c.in_ok-refusal.ensures) c.median_in.ensures
