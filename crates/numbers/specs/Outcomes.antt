-- Document 01, "For each input, refused or not, a promise determines the result and each lent slot afterwards": what a call that
-- writes one lent list promises, as equations over the inputs; and what is said of room that is left open.
use Rattle.std.specs.Prelude.{ℕ, ◌≡◌, List, length, drop, Result, Ok, Err}
use Rattle.numbers.specs.Refusals.{number, unless_refused}
use Rattle.numbers.specs.Lists.{listed}
use Rattle.numbers.specs.declared.Refusal.{Refusal}

-- A call that answers a number and writes one lent list: it answers this number, and the list, which was `was`, is then `done`,
-- or as it was where the number refuses.
pub record Written {A : Type 0} (number : ℕ) (done was : List A) (answer : ℕ) (after : List A) : Type 0 where
  pub number_is : answer ≡ number
  pub slots_are : after ≡ unless_refused number done was

-- What a call that lists frames or rows, or writes the bytes of a file, says: its number, and how many entries it listed.
pub record Listing : Type 0 where
  pub number : ℕ
  pub count : ℕ

-- by its answer: `Ok n` is number 0 and n entries, `Err e` is the number of e in the table, and none
abbrev pub listing : Result ℕ Refusal → Listing
listing (Ok n) = record { number = 0; count = n }
listing (Err e) = record { number = number e; count = 0 }

-- A call that lists frames or rows, or writes the bytes of a file: it answers this number and how many entries it listed, 0 where it refuses; the
-- lent list has the entries first, and is as it was where the number refuses.
pub record ListWritten (number : ℕ) (entries was : List ℕ) (answer : Listing) (after : List ℕ) : Type 0 where
  pub number_is : answer.number ≡ number
  pub count_is : answer.count ≡ unless_refused number (length entries) 0
  pub frames_are : after ≡ unless_refused number (listed entries was) was

-- A lent slice whose first slots, so many, are left open: it keeps its length and its other slots. These are the exceptions of
-- docs/EXCEPTIONS.md, sorting room and stability's lag room.
pub record Open {A : Type 0} (slots : ℕ) (was after : List A) : Type 0 where
  pub same_length : length after ≡ length was
  pub kept : drop slots after ≡ drop slots was

-- the same of a call with this number: a refusal leaves no slot open
abbrev pub OpenUnless : {A : Type 0} → (number slots : ℕ) (was after : List A) → Type 0
OpenUnless number slots was after = Open (unless_refused number slots 0) was after
