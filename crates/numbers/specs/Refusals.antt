-- Document 01, the table of refusals: "The lowest number that applies is given. A refusal changes nothing lent." The numbers from 6 on are those
-- of document 02's requests, which say their own order.
use Rattle.std.specs.Prelude.{ℕ, zero, suc, Bool, true, false, List, [], ◌∷◌, Result, Ok, Err}
use Rattle.numbers.specs.declared.Refusal.{Refusal}
use Rattle.numbers.specs.declared.Refusal.TheVariants.{OutOfBounds, WrongLength, TooLittleRoom, WrongValue, Malformed, WrongGrid, GapTooLong, OtherShape}
use Rattle.numbers.specs.declared.Refusal.TheVariants.{NotOfThisForm, NoListedFrame, NotAscending}

-- "a number is outside the bounds above (the size of lent values is number 4's), a patch's start exceeds its row count, a median's
-- list is empty, or a lent peak list isn't strictly ascending or points past its curve"
abbrev pub out_of_bounds : ℕ
out_of_bounds = 1

-- "a lent input's length isn't rows times width, or a patch isn't whole rows or runs past the end"
abbrev pub wrong_length : ℕ
wrong_length = 2

-- "a lent output or work slice has fewer slots than its formula"
abbrev pub too_little_room : ℕ
too_little_room = 3

-- "a magnitude isn't finite or has size above 2^126, or an envelope, curve, median or feature value isn't finite or has size above
-- 2^150, or a lent similarity isn't within -1 to 1"
abbrev pub wrong_value : ℕ
wrong_value = 4

-- "program only: the file header is malformed"
abbrev pub malformed : ℕ
malformed = 5

-- document 02, No. 3: "6 for fewer than two beats or frames not strictly ascending"
abbrev pub wrong_grid : ℕ
wrong_grid = 6

-- "7 for a gap above 16,777,215"
abbrev pub gap_too_long : ℕ
gap_too_long = 7

-- "8 for a file of another shape or a tempo of 0"
abbrev pub other_shape : ℕ
other_shape = 8

-- document 02, No. 6: "9 for a line or chunk not of this form"
abbrev pub not_of_this_form : ℕ
not_of_this_form = 9

-- "10 for a time or offset that is no listed frame's"
abbrev pub no_listed_frame : ℕ
no_listed_frame = 10

-- "11 for frames not strictly ascending"
abbrev pub not_ascending : ℕ
not_ascending = 11

-- the number of a refusal in the table
abbrev pub number : Refusal → ℕ
number OutOfBounds = out_of_bounds
number WrongLength = wrong_length
number TooLittleRoom = too_little_room
number WrongValue = wrong_value
number Malformed = malformed
number WrongGrid = wrong_grid
number GapTooLong = gap_too_long
number OtherShape = other_shape
number NotOfThisForm = not_of_this_form
number NoListedFrame = no_listed_frame
number NotAscending = not_ascending

-- "0: none below applies", and else the number of the refusal
abbrev pub number_of : {A : Type 0} → Result A Refusal → ℕ
number_of (Ok answer) = 0
number_of (Err refusal) = number refusal

-- the number k unless the test holds, and then the rest
abbrev pub unless : Bool → ℕ → ℕ → ℕ
unless true k rest = rest
unless false k rest = k

-- a row of a call's table: a test, and the number that refuses where it fails
abbrev pub Row : Type 0
Row = Bool × ℕ

-- the number of the first row whose test fails, 0 where each holds: a call's order is the order of its list
abbrev pub first_of : List Row → ℕ
first_of [] = 0
first_of (r ∷ rs) = unless r.0 r.1 (first_of rs)

-- "The lowest number that applies", which is the list in ascending order: 1 unless each number is in bounds, 2 unless the lengths are whole,
-- 3 unless the room suffices, 4 unless the values are fine, 0 where none applies
abbrev pub lowest : (bounds lengths room values : Bool) → ℕ
lowest bounds lengths room values =
    first_of ((bounds, out_of_bounds) ∷ (lengths, wrong_length) ∷ (room, too_little_room) ∷ (values, wrong_value) ∷ [])

-- what is done where the number is 0, and what was there where it is another
abbrev pub unless_refused : {A : Type 0} → ℕ → A → A → A
unless_refused zero done was = done
unless_refused (suc k) done was = was
