-- The words of the contracts of a window that is kept sorted while it slides. No promise of a call is written in them.
use Rattle.std.specs.Prelude.{ℕ, zero, suc, ◌+◌, ◌<◌, ◌≡◌, List, length, get_or, T, Float}
use Rattle.std.specs.Float.{nan, binary64}
use Rattle.std.specs.Float.Ieee.{fits, lt, eq}
use Rattle.std.specs.Float.Ieee.Scale.{finite}
use Rattle.numbers.specs.Lists.{curve}
use Rattle.numbers.specs.Rounded.{◌⊖◌, pick, nought}
use Rattle.median.specs.Ranks.{Ordered}

-- +0 for either zero, and any other value itself
unfoldable pub one_zero : Float → Float
one_zero x = pick (eq x nought) nought x

-- the lower of two values, and the higher
unfoldable pub lower : Float → Float → Float
lower x y = pick (lt x y) x y

unfoldable pub higher : Float → Float → Float
higher x y = pick (lt x y) y x

-- slot i of a sorted list without its entry o
unfoldable pub without_at : List Float → Float → ℕ → Float
without_at s o i = pick (lt (get_or s i nan) o) (get_or s i nan) (get_or s (i + 1) nan)

unfoldable pub without : List Float → Float → List Float
without s o = curve (without_at s o) 20

-- slot i of a sorted list with v among its entries
unfoldable pub among_at : List Float → Float → ℕ → Float
among_at rest v zero = lower (get_or rest 0 nan) v
among_at rest v (suc i) = higher (get_or rest i nan) (lower (get_or rest (suc i) nan) v)

unfoldable pub among : List Float → Float → List Float
among rest v = curve (among_at rest v) 21

-- a sorted window with v in place of its entry o
unfoldable pub slid : List Float → (o v : Float) → List Float
slid s o v = among (without s o) v

-- of the entries j to j + h of a sorted list, how far the first or the last lies from the entry at h, whichever is farther
unfoldable pub farther : List Float → (h j : ℕ) → Float
farther s h j = higher (get_or s h nan ⊖ get_or s j nan) (get_or s (j + h) nan ⊖ get_or s h nan)

-- twenty-one finite values in order
pub record Window (s : List Float) : Type 0 where
  pub room : length s ≡ 21
  pub order : Ordered s
  pub fit : (i : ℕ) → T (fits binary64 (get_or s i nan))
  pub finites : (i : ℕ) → i < 21 → T (finite (get_or s i nan))
