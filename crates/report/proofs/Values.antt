-- Values that bytes stand for, read a row at a time. Assumes nothing.
use mathlib.Core.Path.{◌≡◌, refl, sym, ap, ◌∙◌}
use mathlib.Core.List.{List, [], ◌∷◌, ◌++◌}
use Prim.Native.Nat.{ℕ, zero, suc, ◌+◌, ◌*◌, ◌/◌, ◌<◌}
use native.Mathlib.Omega.{arith}
use lib.Ieee.{Float}
use lib.ListN.{length, get_or, length-append, get_or-append}
use lib.Seq.{get_or-append-add}
use Rattle.numbers.proofs.Tabs.{length-tab, tab_ext, filled-all}
use Rattle.numbers.specs.Lists.{tab, filled}
use Rattle.report_npy.specs.Values.{single_at, values_read, row_read}
use Rattle.report.specs.Input.{values_of}

pub length-values : (bytes : List ℕ) → length (values_of bytes) ≡ length bytes / 4
unfolding values_of
length-values bytes = length-tab (single_at bytes) 0 (length bytes / 4)

pub values-none : values_of [] ≡ []
unfolding values_of
values-none = refl

-- a row that the bytes fill whole
pub row-values : (bytes : List ℕ) (row : List Float) (bins : ℕ) → length bytes ≡ bins * 4 → length row ≡ bins → row_read bytes row ≡ values_of bytes
unfolding row_read values_of
row-values bytes row bins e f =
    let k : length bytes / 4 ≡ bins = omega arith in
    let n : values_read bytes row ≡ length bytes / 4 = omega arith in
    ap (filled (single_at bytes) row 0) n ∙ filled-all (single_at bytes) row (length bytes / 4) (f ∙ sym k)

-- ---- bytes behind others

tab-append : {A : Type 0} (f : ℕ → A) (s m n : ℕ) → tab f s (m + n) ≡ tab f s m ++ tab f (s + m) n
tab-append f s zero n =
    let e : 0 + n ≡ n = omega arith in
    let g : s ≡ s + 0 = omega arith in
    ap (tab f s) e ∙ ap (λ (k : ℕ). tab f k n) g
tab-append {A} f s (suc m) n =
    let e : suc m + n ≡ suc (m + n) = omega arith in
    let g : suc s + m ≡ s + suc m = omega arith in
    ap (tab f s) e ∙ ap (λ (r : List A). f s ∷ r) (tab-append f (suc s) m n ∙ ap (λ (k : ℕ). tab f (suc s) m ++ tab f k n) g)

tab-moved : {A : Type 0} (f g : ℕ → A) (k s n : ℕ) → ((i : ℕ) → f (k + i) ≡ g i) → tab f (k + s) n ≡ tab g s n
tab-moved f g k s zero h = refl
tab-moved {A} f g k s (suc n) h =
    let e : suc (k + s) ≡ k + suc s = omega arith in
    ap (λ (x : A). x ∷ tab f (suc (k + s)) n) (h s) ∙ ap (λ (r : List A). g s ∷ r) (ap (λ (j : ℕ). tab f j n) e ∙ tab-moved f g k (suc s) n h)

value_same : (x y : List ℕ) (i j : ℕ) → get_or x (i * 4) 0 ≡ get_or y (j * 4) 0 → get_or x (i * 4 + 1) 0 ≡ get_or y (j * 4 + 1) 0
    → get_or x (i * 4 + 2) 0 ≡ get_or y (j * 4 + 2) 0 → get_or x (i * 4 + 3) 0 ≡ get_or y (j * 4 + 3) 0 → single_at x i ≡ single_at y j
value_same x y i j p q r s = rw (p, q, r, s)

byte_behind : (a b : List ℕ) (i j : ℕ) → i ≡ length a + j → get_or (a ++ b) i 0 ≡ get_or b j 0
byte_behind a b i j e = ap (λ (k : ℕ). get_or (a ++ b) k 0) e ∙ get_or-append-add a b j 0

module _ (a b : List ℕ) (k : ℕ) (e : length a ≡ k * 4) where
  value-front : (i : ℕ) → i < k → single_at (a ++ b) i ≡ single_at a i
  value-front i h =
      value_same (a ++ b) a i i
      (get_or-append a b 0 (i * 4) (omega arith))
      (get_or-append a b 0 (i * 4 + 1) (omega arith))
      (get_or-append a b 0 (i * 4 + 2) (omega arith))
      (get_or-append a b 0 (i * 4 + 3) (omega arith))

  value-behind : (i : ℕ) → single_at (a ++ b) (k + i) ≡ single_at b i
  value-behind i =
      value_same (a ++ b) b (k + i) i
      (byte_behind a b ((k + i) * 4) (i * 4) (omega arith))
      (byte_behind a b ((k + i) * 4 + 1) (i * 4 + 1) (omega arith))
      (byte_behind a b ((k + i) * 4 + 2) (i * 4 + 2) (omega arith))
      (byte_behind a b ((k + i) * 4 + 3) (i * 4 + 3) (omega arith))

  -- the values of whole rows, and of the bytes behind them
  pub values-append : values_of (a ++ b) ≡ values_of a ++ values_of b
  unfolding values_of
  values-append =
      let m = length b / 4 in
      let whole : length (a ++ b) / 4 ≡ k + m = omega (arith, length-append a b) in
      let front : length a / 4 ≡ k = omega arith in
      let z : 0 + k ≡ k + 0 = omega arith in
      ap (tab (single_at (a ++ b)) 0) whole
      ∙ tab-append (single_at (a ++ b)) 0 k m
      ∙ ap (λ (r : List Float). r ++ tab (single_at (a ++ b)) (0 + k) m) (tab_ext (single_at (a ++ b)) (single_at a) 0 k (λ i p q. value-front i (omega arith)))
      ∙ ap (λ (j : ℕ). tab (single_at a) 0 k ++ tab (single_at (a ++ b)) j m) z
      ∙ ap (λ (r : List Float). tab (single_at a) 0 k ++ r) (tab-moved (single_at (a ++ b)) (single_at b) k 0 m value-behind)
      ∙ ap (λ (j : ℕ). tab (single_at a) 0 j ++ tab (single_at b) 0 m) (sym front)
