-- Document 01, "The reporting program": the head of an input that comes byte by byte, its first ten bytes and the header's text.
use Rattle.std.specs.Prelude.{ℕ, ◌+◌, ◌≤◌, ◌≡◌, true, List, Option, Some, None, ltb, eqb, take, set}
use Rattle.numbers.specs.declared.Refusal.TheVariants.{Malformed, OutOfBounds}
use Rattle.numbers.specs.Rounded.{pick}
use Rattle.report_npy.specs.declared.Shape.{Shape}
use Rattle.report_npy.specs.Header.{header_of, preamble_of}
use Rattle.report.specs.Input.{preamble_length, shape_fine}
use Rattle.report_head.specs.declared.Feed.{Feed}
use Rattle.report_head.specs.declared.Feed.TheVariants as come

-- the longest text that two bytes can state
abbrev pub most_text : ℕ
most_text = 65535

-- ---- what comes next

-- behind the ten bytes: a header's text, as long as they say, and one of no bytes is malformed
unfoldable pub behind_first : Option ℕ → Feed
behind_first None = come.Refused Malformed
behind_first (Some size) = pick (eqb size 0) (come.Refused Malformed) (come.Text size 0)

-- behind a header's text: the rows of its shape, where that is within the bounds
unfoldable pub behind_text : Option Shape → Feed
behind_text None = come.Refused Malformed
behind_text (Some shape) = pick (shape_fine shape.rows shape.bins) (come.Rows shape.rows shape.bins 0 0 true) (come.Refused OutOfBounds)

-- ---- one byte more

-- One of the ten bytes more: it is held, and with the tenth they say what comes next. A length of two bytes is at most 65,535.
pub record FirstTaken (byte have : ℕ) (held : List ℕ) (feed' : Feed) (held' : List ℕ) : Type 0 where
  pub held_is : held' ≡ set held have byte
  pub feed_is : feed' ≡ pick (ltb (have + 1) preamble_length) (come.First (have + 1)) (behind_first (preamble_of (take preamble_length held')))
  pub size_fits : preamble_length ≤ have + 1 → (size : ℕ) → preamble_of (take preamble_length held') ≡ Some size → size ≤ most_text

-- one byte more of a header's text: it is held, and with the last the text says what comes next
pub record TextTaken (byte size have : ℕ) (held : List ℕ) (feed' : Feed) (held' : List ℕ) : Type 0 where
  pub held_is : held' ≡ set held have byte
  pub feed_is : feed' ≡ pick (ltb (have + 1) size) (come.Text size (have + 1)) (behind_text (header_of (take size held')))
