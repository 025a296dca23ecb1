-- A row's rises: one bin more of their sum, and a part of a row more. Assumes nothing.
use mathlib.Core.List.{List, ◌∷◌}
use mathlib.Core.Path.{◌≡◌, refl, sym, ap, ◌∙◌}
use Prim.Native.Nat.{ℕ, zero, suc, ◌+◌, ◌≤◌, ◌<◌}
use native.Mathlib.Numerals.{add-one}
use native.Mathlib.Omega.{arith}
use lib.Ieee.{Float, nan}
use lib.ListN.{length, get_or, drop, drop_of_length-le}
use lib.Seq.{drop-cons}
use Rattle.numbers.proofs.Tabs.{filled-all}
use Rattle.numbers.specs.Lists.{tab, filled}
use Rattle.numbers.specs.Rounded.{◌⊕◌, ◌⊖◌, positive_part, sum_from}
use Rattle.flux_rows.specs.Rises.{rises, rise_at}

-- ---- a row's sum

module _ (acc : Float) (p q : List Float) (i : ℕ) where
  rise_step : i < length p → i < length q
      → sum_from acc (rises (drop i p) (drop i q))
      ≡ sum_from (acc ⊕ positive_part (get_or q i nan ⊖ get_or p i nan)) (rises (drop (i + 1) p) (drop (i + 1) q))
  unfolding rises sum_from
  rise_step hp hq = rw (add-one, drop-cons p i nan, drop-cons q i nan)

  -- no bin is left
  pub rise_end : length p ≤ i → sum_from acc (rises (drop i p) (drop i q)) ≡ acc
  unfolding rises sum_from
  rise_end h = rw (drop_of_length-le p h)

-- one bin more: x and y are the bins of the two rows, and next the sum with it
pub rise_more : (acc next x y : Float) {whole : Float} (p q : List Float) (i : ℕ) → i < length p → i < length q
    → x ≡ get_or p i nan → y ≡ get_or q i nan → next ≡ acc ⊕ positive_part (y ⊖ x)
    → sum_from acc (rises (drop i p) (drop i q)) ≡ whole → sum_from next (rises (drop (i + 1) p) (drop (i + 1) q)) ≡ whole
rise_more acc next x y p q i hp hq ex ey e h = rw (e, ex, ey, ← rise_step acc p q i hp hq) h

-- ---- a part of a row

-- a rule's entries from a on
shifted : (f : ℕ → Float) (a s n : ℕ) → tab (λ k. f (a + k)) s n ≡ tab f (a + s) n
shifted f a s zero = refl
shifted f a s (suc n) =
    let e : a + suc s ≡ suc (a + s) = omega arith in
    ap (λ (xs : List Float). f (a + s) ∷ xs) (shifted f a (suc s) n ∙ ap (λ (k : ℕ). tab f k n) e)

-- a part's slots, all of them written
pub part_whole : (p q d : List Float) (i n : ℕ) → length d ≡ n → filled (λ k. rise_at p q (i + k)) d 0 n ≡ tab (rise_at p q) i n
part_whole p q d i n e =
    let z : i + 0 ≡ i = omega arith in
    filled-all (λ k. rise_at p q (i + k)) d n e ∙ shifted (rise_at p q) i 0 n ∙ ap (λ (k : ℕ). tab (rise_at p q) k n) z

-- one bin
pub rise_of : (x y r : Float) (p q : List Float) (j : ℕ) → x ≡ get_or p j nan → y ≡ get_or q j nan → r ≡ positive_part (y ⊖ x) → r ≡ rise_at p q j
unfolding rise_at
rise_of x y r p q j ex ey e = rw (e, ex, ey)

-- a sum runs over a part, and on
part_step : (acc : Float) (p q : List Float) (i n : ℕ) → i + n ≤ length p → i + n ≤ length q
    → sum_from acc (rises (drop i p) (drop i q)) ≡ sum_from (sum_from acc (tab (rise_at p q) i n)) (rises (drop (i + n) p) (drop (i + n) q))
unfolding sum_from rise_at
part_step acc p q i zero hp hq =
    let e : i ≡ i + 0 = omega arith in
    ap (λ (k : ℕ). sum_from acc (rises (drop k p) (drop k q))) e
part_step acc p q i (suc n) hp hq =
    let next = acc ⊕ rise_at p q i in
    let e : suc i + n ≡ i + suc n = omega arith in
    rise_step acc p q i (omega arith) (omega arith)
    ∙ ap (λ (k : ℕ). sum_from next (rises (drop k p) (drop k q))) (add-one i)
    ∙ part_step next p q (suc i) n (omega arith) (omega arith)
    ∙ ap (λ (k : ℕ). sum_from (sum_from next (tab (rise_at p q) (suc i) n)) (rises (drop k p) (drop k q))) e

-- a part more: next is the sum with it
pub part_more : (acc next : Float) {whole : Float} (p q part : List Float) (i n : ℕ) → i + n ≤ length p → i + n ≤ length q
    → part ≡ tab (rise_at p q) i n → next ≡ sum_from acc part
    → sum_from acc (rises (drop i p) (drop i q)) ≡ whole → sum_from next (rises (drop (i + n) p) (drop (i + n) q)) ≡ whole
part_more acc next p q part i n hp hq ep e h =
    ap (λ (x : Float). sum_from x (rises (drop (i + n) p) (drop (i + n) q))) (e ∙ ap (sum_from acc) ep) ∙ sym (part_step acc p q i n hp hq) ∙ h
