-- The definitions computed on a few texts. Assumes nothing.
use mathlib.Core.Path.{◌≡◌, refl}
use mathlib.Core.List.{[], ◌∷◌, ◌++◌}
use Rattle.std.specs.Prelude.{Some, None}
use Rattle.report_npy.specs.Header.{front, header_text, shape_of, header_of}

-- `4, 1), }`, two spaces and a line feed behind the front
four_one : header_text 4 1 2 ≡ front ++ (52 ∷ 44 ∷ 32 ∷ 49 ∷ 41 ∷ 44 ∷ 32 ∷ 125 ∷ 32 ∷ 32 ∷ 10 ∷ [])
unfolding header_text
four_one = refl

-- the example of document 01
example : header_of (front ++ (52 ∷ 44 ∷ 32 ∷ 49 ∷ 41 ∷ 44 ∷ 32 ∷ 125 ∷ 10 ∷ [])) ≡ Some (shape_of 4 1)
unfolding header_of
example = refl

-- no rows
empty_array : header_of (front ++ (48 ∷ 44 ∷ 32 ∷ 53 ∷ 49 ∷ 51 ∷ 41 ∷ 44 ∷ 32 ∷ 125 ∷ 32 ∷ 32 ∷ 10 ∷ [])) ≡ Some (shape_of 0 513)
unfolding header_of
empty_array = refl

-- 4,294,967,296 rows are told as 4,294,967,295
held_to_most : header_of (front ++ (52 ∷ 50 ∷ 57 ∷ 52 ∷ 57 ∷ 54 ∷ 55 ∷ 50 ∷ 57 ∷ 54 ∷ 44 ∷ 32 ∷ 49 ∷ 41 ∷ 44 ∷ 32 ∷ 125 ∷ 10 ∷ [])) ≡ Some (shape_of 4294967295 1)
unfolding header_of
held_to_most = refl

-- `04`
needless : header_of (front ++ (48 ∷ 52 ∷ 44 ∷ 32 ∷ 49 ∷ 41 ∷ 44 ∷ 32 ∷ 125 ∷ 10 ∷ [])) ≡ None
unfolding header_of
needless = refl

-- a tab before the line feed
tabbed : header_of (front ++ (52 ∷ 44 ∷ 32 ∷ 49 ∷ 41 ∷ 44 ∷ 32 ∷ 125 ∷ 9 ∷ 10 ∷ [])) ≡ None
unfolding header_of
tabbed = refl

-- no line feed
no_feed : header_of (front ++ (52 ∷ 44 ∷ 32 ∷ 49 ∷ 41 ∷ 44 ∷ 32 ∷ 125 ∷ 32 ∷ 32 ∷ [])) ≡ None
unfolding header_of
no_feed = refl

-- a line feed that does not end the text
feed_within : header_of (front ++ (52 ∷ 44 ∷ 32 ∷ 49 ∷ 41 ∷ 44 ∷ 32 ∷ 125 ∷ 10 ∷ 32 ∷ [])) ≡ None
unfolding header_of
feed_within = refl
