-- Document 01, "The reporting program": what is written. "A refusal writes `refused`, a space and the number"; where nothing is refused, the report of
-- the flux of the rows.
use Rattle.std.specs.Prelude.{ℕ, ◌≤◌, ◌≡◌, true, List, length, take, Float}
use Rattle.numbers.specs.Limits.{value_fine}
use Rattle.numbers.specs.Lists.{every}
use Rattle.numbers.specs.Refusals.{unless_refused}
use Rattle.report.specs.Input.{most_reported}
use Rattle.report_feed.specs.declared.Reading.{Reading}
use Rattle.report_text.specs.Text.{refusal_text, PutWithin}
use Rattle.report_lines.specs.Lines.{text_room}
use Rattle.report_answer.specs.Reports.{report_of, answer_of}

-- what is to be written of a reading that left this flux
unfoldable pub text_of : Reading → (flux : List Float) → List ℕ
text_of reading flux = unless_refused reading.number (report_of (take reading.rows flux)) (refusal_text reading.number)

-- a reading that nothing refuses: its rows are there, and an analysis takes their flux
pub record Putable (reading : Reading) (flux : List Float) : Type 0 where
  pub rows_there : reading.rows ≤ length flux
  pub rows_fit : reading.rows ≤ most_reported
  pub fine : every value_fine (take reading.rows flux) ≡ true

-- There is an input of which the first bytes are the whole text. No contract can say which bytes come, so which input it is, is not proved:
-- runs show it.
pub record TextAnswered (bytes : List ℕ) (end : ℕ) (bytes' : List ℕ) : Type 0 where
  pub input : List ℕ
  pub text_is : PutWithin bytes 0 (answer_of input) text_room end bytes'
