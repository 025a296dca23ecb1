-- `report_text::put_number` meets its contract: a number below 2 ^ 32 has at most ten digits. Assumes nothing.
use mathlib.Core.Path.{refl}
use native.Mathlib.Omega.{arith}
use Rattle.texts.proofs.Decimals.{ten_digits}
use Rattle.report_text.proofs.Puts.{put_whole, put_as}
use Rattle.report_text.proofs.put_number.Goals as goal

pub put_decimal-requires : goal.put_decimal-requires
put_decimal-requires c = omega (arith, ten_digits c.args.n (omega arith))

pub returns : goal.returns
returns c = put_as refl (ten_digits c.args.n (omega arith))
    (put_whole c.put_decimal.ensures)
