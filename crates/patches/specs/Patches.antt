-- Document 01, "Patching (added)": what a patch of magnitude rows and a patch of feature rows have in common. A patch replaces rows a up
-- to, not including, b; a is where it starts.
use Rattle.std.specs.Prelude.{ℕ, ◌+◌, ◌*◌, ◌/◌, ◌%◌, Bool, ◌&&◌, List, [], ◌∷◌, leb, eqb, length, Float}
use Rattle.numbers.specs.Lists.{over}
use Rattle.numbers.specs.Refusals.{unless_refused}

-- the first row that is replaced, and the rows that replace it and those after it
pub record Patch : Type 0 where
  pub start : ℕ
  pub new : List Float

abbrev pub patch_of : ℕ → List Float → Patch
patch_of start new = record { start = start; new = new }

-- b, of a patch of `slots` values in rows of `width`
abbrev pub end_of : (start slots width : ℕ) → ℕ
end_of start slots width = start + slots / width

abbrev pub past_row : (width : ℕ) → Patch → ℕ
past_row width patch = end_of patch.start (length patch.new) width

-- number 2 else: "a patch isn't whole rows or runs past the end", of a patch of `added` values
unfoldable pub new_rows : (rows width start added : ℕ) → Bool
new_rows rows width start added = eqb (added % width) 0 && leb (end_of start added width) rows

-- the same of `slots` lent values too: "a lent input's length isn't rows times width"
unfoldable pub whole_rows : (slots rows width start added : ℕ) → Bool
whole_rows slots rows width start added = eqb slots (rows * width) && new_rows rows width start added

-- "Copy in the rows"
unfoldable pub edited : (width : ℕ) → List Float → Patch → List Float
edited width slab patch = over slab (patch.start * width) patch.new

-- "an empty patch changes nothing": what a patch with rows does, and what is there where it has none
abbrev pub unless_empty : {A : Type 0} → List Float → A → A → A
unless_empty [] done was = was
unless_empty (x ∷ xs) done was = done

-- ---- what is answered

-- "The answer names first and past-last slot written per curve": of one curve, and of the curve that follows from it
abbrev pub ranges : (first past first_then past-then : ℕ) → List ℕ
ranges first past first_then past-then = first ∷ past ∷ first_then ∷ past-then ∷ []

-- the slots that a patch names: the ranges that it writes, and "an empty patch names 0 to 0"
abbrev pub ranges_named : (new : List Float) → (written : List ℕ) → List ℕ
ranges_named new written = unless_empty new written (ranges 0 0 0 0)

-- what the table of refusals has returned: number 0 with "the answer", here the slots named, and another "number only"
abbrev pub returned : (number : ℕ) → (slots : List ℕ) → ℕ × List ℕ
returned number slots = (number, unless_refused number slots [])
