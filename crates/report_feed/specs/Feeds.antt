-- Document 01, "The reporting program": an input that comes byte by byte, "keeping two rows at a time". `Fed` says what has come of an input.
-- The promises are made for every input and every way it is cut: whatever has come, it has come with the next bytes behind it, and where it ends,
-- its number is that of the whole input, and the flux is demand 2's curve of its rows.
use Rattle.std.specs.Prelude.{ℕ, ◌+◌, ◌*◌, ◌≤◌, ◌<◌, min, ◌≡◌, Bool, true, false, ◌&&◌, List, [], ◌∷◌, ◌++◌, Some, ltb, eqb, Float, length, take, drop, set}
use Rattle.numbers.specs.Limits.{most_bins, magnitude_fine, slab_of}
use Rattle.numbers.specs.Lists.{every, filled}
use Rattle.numbers.specs.Refusals.{lowest, malformed, number}
use Rattle.numbers.specs.declared.Refusal.TheVariants.{WrongLength}
use Rattle.numbers.specs.Rounded.{pick}
use Rattle.flux.specs.Flux.{flux_at}
use Rattle.report_npy.specs.Header.{shape_of, header_of, preamble_of}
use Rattle.report.specs.Input.{most_reported, preamble_length, shape_fine, values_of, report_number}
use Rattle.report.specs.Stream.{Streamed}
use Rattle.report_head.specs.declared.Feed.{Feed}
use Rattle.report_head.specs.declared.Feed.TheVariants as come
use Rattle.report_head.specs.Heads.{most_text, behind_first, behind_text}
use Rattle.report_feed.specs.declared.Reading.{Reading}

-- room for what is held: the ten bytes, a text, or a row, of which a text may be the longest
abbrev pub held_room : ℕ
held_room = 65536

-- ---- one byte more, and more of them

-- how far an input has come, and what is lent: what is held of the next part, the rows kept, and the flux
pub data State : Type 0 where
  state : Feed → (held : List ℕ) → (kept flux : List Float) → State

-- Row t, whose bytes are held whole: the row before it is kept and the new row behind it, and while every value is fine slot t of the flux is that of
-- these two rows: the first of their slots for the first row, else the second.
unfoldable pub row_taken : (rows bins t : ℕ) → (fine : Bool) → (held : List ℕ) → (kept flux : List Float) → State
row_taken rows bins t fine held kept flux =
    let new = values_of (take (bins * 4) held) in
    let pair = drop bins (take (2 * bins) kept) ++ new in
    let still = fine && every magnitude_fine new in
    state (come.Rows rows bins (t + 1) 0 still) held (pair ++ drop (2 * bins) kept)
    (pick still (set flux t (flux_at pair (slab_of 2 bins) (min t 1))) flux)

-- One byte more: it is held, and with the last byte of a part that part says what comes next. A byte behind the last row is one too many. An input that
-- is refused stays so.
unfoldable pub byte_taken : ℕ → State → State
unfolding behind_first behind_text row_taken
byte_taken byte (state (come.First have) held kept flux) =
    let held' = set held have byte in
    state (pick (ltb (have + 1) preamble_length) (come.First (have + 1)) (behind_first (preamble_of (take preamble_length held')))) held' kept flux
byte_taken byte (state (come.Text size have) held kept flux) =
    let held' = set held have byte in
    state (pick (ltb (have + 1) size) (come.Text size (have + 1)) (behind_text (header_of (take size held')))) held' kept flux
byte_taken byte (state (come.Rows rows bins t have fine) held kept flux) =
    let held' = set held have byte in
    pick (eqb t rows) (state (come.Refused WrongLength) held kept flux)
    (pick (ltb (have + 1) (bins * 4)) (state (come.Rows rows bins t (have + 1) fine) held' kept flux) (row_taken rows bins t fine held' kept flux))
byte_taken byte (state (come.Refused refusal) held kept flux) = state (come.Refused refusal) held kept flux

-- bytes one after the other
unfoldable pub bytes_taken : List ℕ → State → State
unfolding byte_taken
bytes_taken [] s = s
bytes_taken (byte ∷ bytes) s = bytes_taken bytes (byte_taken byte s)

-- where the input ends: its number, and how many rows it has where that is 0
unfoldable pub reading_of : Feed → Reading
reading_of (come.First have) = record { number = malformed; rows = 0 }
reading_of (come.Text size have) = record { number = malformed; rows = 0 }
reading_of (come.Rows rows bins t have fine) = record { number = lowest true (eqb t rows) true fine; rows = rows }
reading_of (come.Refused refusal) = record { number = number refusal; rows = 0 }

-- whether what is told is decided before the input ends: it is once the input is refused
unfoldable pub is_decided : Feed → Bool
is_decided (come.First have) = false
is_decided (come.Text size have) = false
is_decided (come.Rows rows bins t have fine) = false
is_decided (come.Refused refusal) = true

-- ---- what has to be there for a byte to be taken

-- a shape within the bounds, and a row that is not yet whole; behind the last row nothing is held
pub record RowsWithin (rows bins t have : ℕ) (fine : Bool) (kept : List Float) : Type 0 where
  pub shape_is : shape_fine rows bins ≡ true
  pub row_is : t ≤ rows
  pub have_is : have < bins * 4
  pub none_behind : t ≡ rows → have ≡ 0
  pub kept_fine : fine ≡ true → every magnitude_fine (take (2 * bins) kept) ≡ true

-- what is coming is not yet whole, and the rows kept are fine while all that came are
unfoldable pub PartWithin : Feed → (kept : List Float) → Type 0
PartWithin (come.First have) kept = (have < preamble_length) × (every magnitude_fine kept ≡ true)
PartWithin (come.Text size have) kept = (have < size) × (size ≤ most_text) × (every magnitude_fine kept ≡ true)
PartWithin (come.Rows rows bins t have fine) kept = RowsWithin rows bins t have fine kept
PartWithin (come.Refused refusal) kept = Unit {0}

-- there is room, and what is coming is not yet whole
pub record FeedReady (feed : Feed) (held : List ℕ) (kept flux : List Float) : Type 0 where
  pub held_has_room : held_room ≤ length held
  pub kept_room : 2 * most_bins ≤ length kept
  pub flux_room : most_reported ≤ length flux
  pub within : PartWithin feed kept

-- ---- what has come of an input. The flux was `was` before anything came.

-- fewer than ten bytes, which are held
pub record InFirst (input : List ℕ) (have : ℕ) (held : List ℕ) (was flux : List Float) : Type 0 where
  pub input_is : input ≡ take have held
  pub flux_is : flux ≡ was

-- ten bytes that say how long the header's text is, and some of the text, which is held
pub record InText (input : List ℕ) (size have : ℕ) (held : List ℕ) (was flux : List Float) : Type 0 where
  pub first : List ℕ
  pub first_is : length first ≡ preamble_length
  pub stated_is : preamble_of first ≡ Some size
  pub input_is : input ≡ first ++ take have held
  pub flux_is : flux ≡ was

-- ten bytes, the header's text, t rows, and some bytes of the next, which are held
pub record InRows (input : List ℕ) (rows bins t have : ℕ) (fine : Bool) (held : List ℕ) (kept was flux : List Float) : Type 0 where
  pub first : List ℕ
  pub text : List ℕ
  pub body : List ℕ
  pub first_is : length first ≡ preamble_length
  pub stated_is : preamble_of first ≡ Some (length text)
  pub header_is : header_of text ≡ Some (shape_of rows bins)
  pub streamed : Streamed body bins t fine (take (2 * bins) kept) was flux
  pub input_is : input ≡ first ++ (text ++ (body ++ take have held))

-- whatever comes behind it, the number of the whole is this one
pub record InRefused (input : List ℕ) (number : ℕ) : Type 0 where
  pub some : number ≡ 0 → ⊥
  pub whatever : (more : List ℕ) → report_number (input ++ more) ≡ number

-- what has come, by how far it is
unfoldable pub Parts : (input : List ℕ) → Feed → (held : List ℕ) → (kept was flux : List Float) → Type 0
Parts input (come.First have) held kept was flux = InFirst input have held was flux
Parts input (come.Text size have) held kept was flux = InText input size have held was flux
Parts input (come.Rows rows bins t have fine) held kept was flux = InRows input rows bins t have fine held kept was flux
Parts input (come.Refused refusal) held kept was flux = InRefused input (number refusal)

-- this input has come so far
pub record Fed (input : List ℕ) (feed : Feed) (held : List ℕ) (kept was flux : List Float) : Type 0 where
  pub ready : FeedReady feed held kept flux
  pub parts : Parts input feed held kept was flux

-- ---- what is promised: the answer and every slot, and for every input, what they are of it

-- nothing has come, where there is room and the rows kept are fine
pub record Begins (feed : Feed) : Type 0 where
  pub feed_is : feed ≡ come.First 0
  pub fed : (held : List ℕ) (kept was : List Float) → held_room ≤ length held → 2 * most_bins ≤ length kept → most_reported ≤ length was
      → every magnitude_fine kept ≡ true → Fed [] feed held kept was was

-- These bytes are taken, one after the other. Whatever input had come so far, it has come with them behind it.
pub record Step (bytes : List ℕ) (feed : Feed) (held : List ℕ) (kept flux : List Float)
    (feed' : Feed) (held' : List ℕ) (kept' flux' : List Float) : Type 0 where
  pub state_is : state feed' held' kept' flux' ≡ bytes_taken bytes (state feed held kept flux)
  pub ready : FeedReady feed' held' kept' flux'
  pub fed : (input : List ℕ) (was : List Float) → Fed input feed held kept was flux → Fed (input ++ bytes) feed' held' kept' was flux'

-- An input that nothing refuses: its parts are those that a file has, ten bytes, a text as long as they say, and the data of the shape that the text
-- says. The flux is that of the data's rows.
pub record InputFound (input : List ℕ) (rows : ℕ) (was flux : List Float) : Type 0 where
  pub first : List ℕ
  pub text : List ℕ
  pub body : List ℕ
  pub bins : ℕ
  pub input_is : input ≡ first ++ (text ++ body)
  pub first_is : length first ≡ preamble_length
  pub stated_is : preamble_of first ≡ Some (length text)
  pub header_is : header_of text ≡ Some (shape_of rows bins)
  pub rows_fit : rows ≤ most_reported
  pub bins_fit : bins ≤ most_bins
  pub length_is : length body ≡ rows * bins * 4
  pub fine_is : every magnitude_fine (values_of body) ≡ true
  pub flux_is : flux ≡ filled (flux_at (values_of body) (slab_of rows bins)) was 0 rows

-- the number of a whole input, and where nothing refuses it, its rows and their flux
pub record Told (input : List ℕ) (answer : Reading) (was flux : List Float) : Type 0 where
  pub number_is : answer.number ≡ report_number input
  pub found : answer.number ≡ 0 → InputFound input answer.rows was flux

-- the answer, and whatever input came, it is right of it
pub record Closes (feed : Feed) (answer : Reading) : Type 0 where
  pub answer_is : answer ≡ reading_of feed
  pub tells : (input held : List ℕ) (kept was flux : List Float) → Fed input feed held kept was flux → Told input answer was flux

-- the answer, and where it is true, whatever input came and whatever comes behind it, what is told where it ends here is right of the whole
pub record Decides (feed : Feed) (answer : Bool) : Type 0 where
  pub answer_is : answer ≡ is_decided feed
  pub whatever : answer ≡ true → (input held : List ℕ) (kept was flux : List Float) → Fed input feed held kept was flux
      → (more : List ℕ) → Told (input ++ more) (reading_of feed) was flux

-- ---- an input that comes in parts

-- parts that are taken one after the other, each as Step says
pub data Run : (feed : Feed) → (held : List ℕ) → (kept flux : List Float) → List (List ℕ) → Feed → List ℕ → List Float → List Float → Type 0 where
  none : {feed : Feed} {held : List ℕ} {kept flux : List Float} → Run feed held kept flux [] feed held kept flux
  more : {feed feed' feed'' : Feed} {held held' held'' bytes : List ℕ} {kept kept' kept'' flux flux' flux'' : List Float} {parts : List (List ℕ)}
      → Step bytes feed held kept flux feed' held' kept' flux'
      → Run feed' held' kept' flux' parts feed'' held'' kept'' flux''
      → Run feed held kept flux (bytes ∷ parts) feed'' held'' kept'' flux''
