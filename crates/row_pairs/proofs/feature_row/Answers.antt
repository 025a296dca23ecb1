-- `row_pairs::feature_row` meets its contract: sixteen values from i * 16 on. Assumes nothing.
use native.Mathlib.Nat.{add-sub_cancel_left}
use Rattle.numbers.specs.Lists.{row}
use Rattle.row_pairs.proofs.feature_row.Goals as goal

pub returns : goal.returns
unfolding row
returns c = rw add-sub_cancel_left
