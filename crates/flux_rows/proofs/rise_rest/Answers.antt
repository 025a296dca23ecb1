-- `flux_rows::rise_rest` meets its contract, row by row. Assumes nothing.
use native.Mathlib.Omega.{arith}
use Rattle.flux_rows.proofs.rise_rest.Goals as goal

pub rise_at-requires : goal.rise_at-requires
rise_at-requires c = (omega arith, omega arith, omega arith)

pub rise_at-requires-2 : goal.rise_at-requires-2
rise_at-requires-2 c = (omega arith, omega arith, omega arith)

pub rise_at-requires-3 : goal.rise_at-requires-3
rise_at-requires-3 c = (omega arith, omega arith, omega arith)

pub rise_at-requires-4 : goal.rise_at-requires-4
rise_at-requires-4 c = (omega arith, omega arith, omega arith)
