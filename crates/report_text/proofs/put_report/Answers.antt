-- `report_text::put_report` meets its contract: six lines, one behind the other. Assumes nothing.
use mathlib.Core.Path.{refl, ap}
use native.Mathlib.Omega.{arith}
use lib.ListN.{length-take}
use Rattle.report_text.specs.Text.{lag_word, line_text, report_text}
use Rattle.report_text.proofs.Puts.{put_then, put_as, first_entry}
use Rattle.report_text.proofs.put_report.Goals as goal

pub put_line-e-requires : goal.put_line-e-requires
put_line-e-requires c = omega (
  arith,
  c.put_line-d.ensures.end_most,
  c.put_line-c.ensures.end_most,
  c.put_line-b.ensures.end_most,
  c.put_line-a.ensures.end_most,
  length-take c.min.result c.args.candidates.now,
  c.requires,
)

pub put_stability-requires : goal.put_stability-requires
put_stability-requires c = omega (
  arith,
  c.put_line-e.ensures.end_most,
  c.put_line-d.ensures.end_most,
  c.put_line-c.ensures.end_most,
  c.put_line-b.ensures.end_most,
  c.put_line-a.ensures.end_most,
  length-take c.min.result c.args.candidates.now,
  c.requires,
)

pub returns : goal.returns
unfolding report_text
returns c =
    let cs = c.args.candidates.now in
    let k = c.min.result in
    let lag = put_as {k = 20} (ap (line_text lag_word) (first_entry cs k c.min.ensures)) (omega (arith, length-take k cs)) c.put_line-b.ensures in
    put_as refl (omega (arith, c.requires.candidates_len_bound))
    (put_then (put_then (put_then (put_then (put_then c.put_line-a.ensures lag) c.put_line-c.ensures) c.put_line-d.ensures)
    c.put_line-e.ensures) c.put_stability.ensures)
