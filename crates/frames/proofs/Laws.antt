-- Where row t begins and what it holds, whole or past the last whole row.
use mathlib.Core.Path.{◌≡◌, refl, sym, ◌∙◌, ap}
use mathlib.Core.Bool.{Bool, true, false, ◌&&◌, not}
use mathlib.Core.List.{List}
use Prim.Native.Nat.{ℕ, zero, suc, ◌+◌, ◌*◌, ◌/◌, ◌-◌, ◌<◌, ◌≤◌}
use native.Mathlib.Nat.{le-div_iff_mul-le, suc-mul, sub_self, add-sub_cancel_left, mul-div_cancel}
use native.Mathlib.Omega.{arith}
use lib.Dec.{ltb, eqb}
use lib.ListN.{length, take, drop}
use lib.Seq.{drop-length}
use lib.Ieee.{Float}
use borrow.Author.Tests.{lt-ltb, le-ltb, eq-eqb, ne_eqb}
use Rattle.numbers.specs.Lists.{row}
use denote.Ref.{Bor}
use Rattle.frames.specs.Frames.{is_whole, row_start, row_of, RowOf}

-- a row below the count of whole rows ends within the slab
pub whole_row : (n b t : ℕ) → 0 < b → t < n / b → t * b + b ≤ n
whole_row n b t hb h = rw suc-mul at ((le-div_iff_mul-le hb).0 h)

pub is-whole : (n b t : ℕ) → 0 < b → t < n / b → is_whole n b t ≡ true
unfolding is_whole
is-whole n b t hb h = rw (ne_eqb b 0 (λ (e : b ≡ 0). omega arith), lt-ltb t (n / b) h)

pub no_bins : (n b t : ℕ) → b ≡ 0 → is_whole n b t ≡ false
unfolding is_whole
no_bins n b t e = rw (eq-eqb b 0 e)

pub past-rows : (n b t : ℕ) → n / b ≤ t → is_whole n b t ≡ false
unfolding is_whole
past-rows n b t h = go (not (eqb b 0)) (le-ltb t (n / b) h)
  where
    go : (x : Bool) → ltb t (n / b) ≡ false → x && ltb t (n / b) ≡ false
    go true e = e
    go false e = refl

-- ---- a whole row

module _ (s : List Float) (b t : ℕ) (w : is_whole (length s) b t ≡ true) where
  pub whole-start : row_start (length s) b t ≡ t * b
  unfolding row_start
  whole-start = rw w

  pub whole-holds : take (t * b + b - t * b) (drop (t * b) s) ≡ row_of s b t
  unfolding row_of row
  whole-holds = rw (w, add-sub_cancel_left)

  pub whole_is_row : row_of s b t ≡ row s b t
  unfolding row_of
  whole_is_row = rw w

-- ---- the empty part at the end

module _ (s : List Float) (b t : ℕ) (w : is_whole (length s) b t ≡ false) where
  pub past-start : row_start (length s) b t ≡ length s
  unfolding row_start
  past-start = rw w

  pub past-holds : take (length s - length s) (drop (length s) s) ≡ row_of s b t
  unfolding row_of
  past-holds = rw (w, drop-length s, sub_self (length s))

-- a slab of n rows has n whole ones
rows_are : (s : List Float) (n b t : ℕ) → 0 < b → length s ≡ n * b → t < n → t < length s / b
rows_are s n b t hb e h =
    let q : length s / b ≡ n = ap (λ (k : ℕ). k / b) e ∙ mul-div_cancel n hb in
    omega arith

-- of a slab of n rows, row t below n, with zero bins too
pub row_of_rows : (s : List Float) (n b t : ℕ) → length s ≡ n * b → t < n → row_of s b t ≡ row s b t
unfolding row_of row
row_of_rows s n zero t e h = rw (no_bins (length s) 0 t refl)
row_of_rows s n (suc b) t e h = whole_is_row s (suc b) t (is-whole (length s) (suc b) t (omega arith) (rows_are s n (suc b) t (omega arith) e h))

-- the same slot of the same memory
pub same_place : (memory first a b : ℕ) → a ≡ b → ◌≡◌ {A = ℕ × ℕ} (memory, b * 4 + first) (memory, a * 4 + first)
same_place memory first a b e = rw e

-- any two parts that the promise permits stand in one place and hold the same
pub one_part : {slab p q : Bor (List Float)} {bins t : ℕ} → RowOf slab bins t p → RowOf slab bins t q → (p.ref_ptr ≡ q.ref_ptr) × (p.now ≡ q.now)
one_part a b = (a.place ∙ sym b.place, a.holds ∙ sym b.holds)
