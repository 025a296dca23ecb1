-- `report_head::stated` meets its contract: each of the two bytes of a length is below 256. Assumes nothing.
use mathlib.Core.Path.{sym, ◌∙◌}
use native.Mathlib.Omega.{arith}
use Rattle.report_head.proofs.Heads.{stated_fits}
use Rattle.report_head.proofs.stated.Goals as goal

pub returns : goal.returns
returns c =
    let bytes = c.args.bytes.now in
    let e = c.read_preamble.ensures in (
      e,
      λ size h. stated_fits bytes (omega (arith, c.type_inv.bytes 8)) (omega (arith, c.type_inv.bytes 9))
          size (sym e ∙ h),
    )
