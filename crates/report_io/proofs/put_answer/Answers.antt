-- `report_io::put_answer` meets its contract: a number other than 0 is put as a refusal, and else the flux of the rows is reported. Assumes nothing.
use mathlib.Core.Path.{sym}
use native.Mathlib.Omega.{arith}
use lib.Seq.{length-take-le}
use Rattle.report_io.proofs.Answers.{lent_rows, put_refused, put_reported}
use Rattle.report_io.proofs.put_answer.Goals as goal

pub put_refusal-requires : goal.put_refusal-requires
put_refusal-requires c = omega (arith, c.requires.1)

pub shape_of-bytes-then-reading-ne0 : goal.shape_of-bytes-then-reading-ne0
shape_of-bytes-then-reading-ne0 c = c.put_refusal.auto.out

pub returns-then-reading-ne0 : goal.returns-then-reading-ne0
returns-then-reading-ne0 c = put_refused _ _ c.if-reading-ne0.true c.put_refusal.ensures

pub slice_bounds-put_analysis-end : goal.slice_bounds-put_analysis-end
slice_bounds-put_analysis-end c = sym (length-take-le c.args.reading.rows _ (c.requires.0 c.if-reading-ne0.false).rows_there)

pub put_analysis-requires : goal.put_analysis-requires
put_analysis-requires c =
    let rows = lent_rows _ _ (c.requires.0 c.if-reading-ne0.false) in
    (rows.0, rows.1, c.requires.1)

pub shape_of-bytes : goal.shape_of-bytes
shape_of-bytes c = c.put_analysis.auto.bytes

pub returns : goal.returns
returns c = put_reported _ _ c.if-reading-ne0.false c.put_analysis.ensures
