-- Document 01, Patching: "A frame reader holds the slab with its bin count and hands back row t as a part of that slab; past the
-- last whole row, or with zero bins, it hands back the empty part at the end. It refuses nothing."
use Rattle.std.specs.Prelude.{ℕ, ◌+◌, ◌*◌, ◌/◌, ◌≡◌, Bool, ◌&&◌, not, List, [], ltb, eqb, length, Float}
use Rattle.std.specs.Borrow.{Bor}
use Rattle.numbers.specs.Rounded.{pick}
use Rattle.numbers.specs.Lists.{row}

-- row t is whole: there are bins, and t is below the count of whole rows
unfoldable pub is_whole : ℕ → ℕ → ℕ → Bool
is_whole slots bins t = not (eqb bins 0) && ltb t (slots / bins)

-- the slot at which the part begins: row t's first, or the slab's end
unfoldable pub row_start : ℕ → ℕ → ℕ → ℕ
row_start slots bins t = pick (is_whole slots bins t) (t * bins) slots

-- what the part holds
unfoldable pub row_of : List Float → ℕ → ℕ → List Float
row_of slab bins t = pick (is_whole (length slab) bins t) (row slab bins t) []

-- The promise: the part stands in the slab's own memory, row_start slots of four bytes behind its first, and holds row t.
pub record RowOf (slab : Bor (List Float)) (bins t : ℕ) (part : Bor (List Float)) : Type 0 where
  pub place : part.ref_ptr ≡ (slab.ref_ptr.0, row_start (length slab.now) bins t * 4 + slab.ref_ptr.1)
  pub holds : part.now ≡ row_of slab.now bins t
