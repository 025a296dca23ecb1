-- `report_io::answer` meets its contract: what is put of a reading is the text of the input that was read. Assumes nothing.
use native.Mathlib.Omega.{arith}
use Rattle.report_io.proofs.Answers.{putable, answered}
use Rattle.report_io.proofs.answer.Goals as goal

pub put_answer-requires : goal.put_answer-requires
put_answer-requires g c =
    (putable c.read_input-reading.ensures (omega (arith, c.read_input-reading.auto.flux, c.requires.0)), c.requires.1)

pub returns : goal.returns
returns g c = answered c.read_input-reading.ensures c.put_answer.ensures
