-- `texts::put_byte` meets its contract: one byte is stored. Assumes nothing.
use native.Mathlib.Omega.{arith}
use Rattle.texts.proofs.Puts.{put_one}
use Rattle.texts.proofs.put_byte.Goals as goal

pub returns : goal.returns
returns c = put_one _ _ _ (omega arith)
