-- A text is the list of its bytes: how it starts, and how it is written on into lent bytes.
use Rattle.std.specs.Prelude.{ℕ, ◌+◌, ◌≤◌, ◌≡◌, Bool, true, false, ◌&&◌, List, [], ◌∷◌, eqb, length}
use Rattle.numbers.specs.Lists.{over}

abbrev pub space : ℕ
space = 32

abbrev pub line_feed : ℕ
line_feed = 10

-- a text that starts with these bytes
unfoldable pub starts : List ℕ → List ℕ → Bool
starts [] text = true
starts (w ∷ ws) [] = false
starts (w ∷ ws) (x ∷ xs) = eqb x w && starts ws xs

-- a text is these bytes and nothing else
unfoldable pub exactly : List ℕ → List ℕ → Bool
unfolding starts
exactly bytes text = eqb (length text) (length bytes) && starts bytes text

-- A piece is written from `at` on, within the bytes: the answer is the place behind it, and every other byte is as it was.
pub record Put (was : List ℕ) (at : ℕ) (piece : List ℕ) (end : ℕ) (after : List ℕ) : Type 0 where
  pub end_is : end ≡ at + length piece
  pub fits : end ≤ length was
  pub bytes_are : after ≡ over was at piece
