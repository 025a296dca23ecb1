-- Frames that are read one by one: what one more does to the number. Assumes nothing.
use Rattle.std.proofs.Common.{◌≡◌, ℕ, ◌+◌, Bool, true, false, ◌&&◌, ltb, leb, List, [], ◌∷◌, refl, ltb-false, ltb-true, le-leb}
use borrow.Author.Tests.{lt-leb}
use Rattle.numbers.specs.Lists.{ascending}
use Rattle.numbers.specs.Refusals.{first_of, no_listed_frame, not_ascending}
use Rattle.numbers.specs.Rounded.{pick}
use Rattle.numbers.proofs.Tests.{and-false}
use Rattle.lists.specs.declared.Reading.{Reading}
use Rattle.lists.specs.Grids.{next_read, missed, read_number}

module _ (j : Reading) where
  -- one frame more
  pub read_one : (t : ℕ) (fine : Bool) (frames : List ℕ) → read_number (next_read j t) fine frames ≡ read_number j fine (t ∷ frames)
  unfolding read_number ascending
  read_one t fine frames = go (ltb t j.low) refl
    where
      go : (b : Bool) → ltb t j.low ≡ b
          → first_of ((j.listed && fine, no_listed_frame) ∷ (pick b false j.rises && ascending (t + 1) frames, not_ascending) ∷ [])
          ≡ first_of ((j.listed && fine, no_listed_frame) ∷ (j.rises && (leb j.low t && ascending (t + 1) frames), not_ascending) ∷ [])
      go true e = rw (lt-leb j.low t (ltb-true t j.low e), and-false j.rises)
      go false e = rw (le-leb j.low t (ltb-false t j.low e))

  -- one that is no listed frame's, then or later
  pub read_missed : (fine : Bool) (frames : List ℕ) → read_number (missed j) fine frames ≡ 10
  unfolding read_number
  read_missed fine frames = refl

  pub read_later : (frames : List ℕ) → read_number j false frames ≡ 10
  unfolding read_number
  read_later frames = rw (and-false j.listed)

  -- all are read
  pub read_unlisted : j.listed ≡ false → read_number j true [] ≡ 10
  unfolding read_number
  read_unlisted e = rw e

  pub read_fallen : j.listed ≡ true → j.rises ≡ false → read_number j true [] ≡ 11
  unfolding read_number
  read_fallen e f = rw (e, f)

  pub read_whole : j.listed ≡ true → j.rises ≡ true → read_number j true [] ≡ 0
  unfolding read_number ascending
  read_whole e f = rw (e, f)
