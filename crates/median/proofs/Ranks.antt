-- The entry of a rank. Entries are told apart by counting: of a list that is split at i, at most i entries lie below the one at i, and more
-- than i lie below it or level with it. Two lists with the same entries have the same counts, so where both are split at i their entries there
-- have one key, and a key has one value. The sorted list has the same entries and is split everywhere. Assumes nothing.
use Prim.Native.Nat.{ℕ, zero, suc, ◌+◌, ◌≤◌, ◌<◌, zero-le}
use mathlib.Core.Path.{◌≡◌, refl, sym, ap, ◌∙◌}
use mathlib.Core.Logic.{◌⊎◌, inl, inr, ⊎_elim, ◌≢◌}
use mathlib.Core.Bool.{Bool, true, false}
use mathlib.Core.List.{List, [], ◌∷◌}
use native.Mathlib.Nat.{not-suc-le-zero, le_of_suc-le-suc, le_antisymm, le_refl, le_trans, zero-lt-suc}
use native.Mathlib.Omega.{arith}
use lib.ListN.{length, get_or}
use lib.Seq.{ext_get_or}
use lib.Dec.{T, ltb, leb, eqb}
use lib.Ieee.{Float, nan, binary64, fits}
use borrow.Author.Tests.{leb-true, leb-false, eqb-true, eqb-false, lt-ltb, le-ltb}
use Rattle.numbers.proofs.Tests.{which, lt_or_le}
use Rattle.numbers.specs.Lists.{one_if}
use Rattle.sizes.specs.Sizes.{Each, none, more}
use Rattle.sizes.proofs.Lists.{each_at, each_by, each_map}
use Rattle.floats.specs.TotalOrder.{key}
use Rattle.floats.proofs.TotalOrder.{key_inj}
use Rattle.median.specs.Median.{insert, sort}
use Rattle.median.specs.Ranks.{key_at, below, Same, Split, Ordered}

-- two numbers are the same or not
pub same_or_not : (i j : ℕ) → (i ≡ j) ⊎ (i ≢ j)
same_or_not i j = ⊎_elim (λ e. inl (eqb-true i j e)) (λ e. inr (eqb-false i j e)) (which (eqb i j))

-- ---- one entry's part in a count

pub one_lt : (x : Float) (k : ℕ) → key x < k → one_if (ltb (key x) k) ≡ 1
one_lt x k h = rw (lt-ltb (key x) k h)

pub one_ge : (x : Float) (k : ℕ) → k ≤ key x → one_if (ltb (key x) k) ≡ 0
one_ge x k h = rw (le-ltb (key x) k h)

pub one_le : (b : Bool) → one_if b ≤ 1
one_le true = le_refl 1
one_le false = zero-le

-- ---- counts of lists

pub below_mono : (j k : ℕ) (xs : List Float) → j ≤ k → below j xs ≤ below k xs
unfolding below
below_mono j k [] h = le_refl 0
below_mono j k (x ∷ xs) h =
    let ih = below_mono j k xs h in
    ⊎_elim
    (λ a. omega (arith, one_lt x j a, one_lt x k (omega arith)))
    (λ a. omega (arith, one_ge x j a))
    (lt_or_le (key x) j)

-- where all entries from i on have a key of k or more, at most i are below k
pub count-high : (k i : ℕ) (xs : List Float) → ((j : ℕ) → i ≤ j → j < length xs → k ≤ key_at xs j) → below k xs ≤ i
unfolding below
count-high k i [] h = zero-le
count-high k zero (x ∷ xs) h =
    omega (arith, count-high k zero xs (λ j a b. h (suc j) zero-le (omega arith)), one_ge x k (h zero (le_refl 0) (omega arith)))
count-high k (suc i) (x ∷ xs) h =
    omega (arith, count-high k i xs (λ j a b. h (suc j) (omega arith) (omega arith)), one_le (ltb (key x) k))

-- where all entries before i have a key below k, at least i are
pub count_low : (k i : ℕ) (xs : List Float) → i ≤ length xs → ((j : ℕ) → j < i → key_at xs j < k) → i ≤ below k xs
unfolding below
count_low k zero xs l h = zero-le
count_low k (suc i) [] l h = absurd (not-suc-le-zero l)
count_low k (suc i) (x ∷ xs) l h =
    omega (arith, count_low k i xs (le_of_suc-le-suc l) (λ j a. h (suc j) (omega arith)), one_lt x k (h zero (zero-lt-suc i)))

-- ---- the same entries

pub same_refl : (xs : List Float) → Same xs xs
same_refl xs = record { len = refl; counts = λ k. refl }

pub same_sym : {xs ys : List Float} → Same xs ys → Same ys xs
same_sym e = record { len = sym e.len; counts = λ k. sym (e.counts k) }

pub same_trans : {xs ys zs : List Float} → Same xs ys → Same ys zs → Same xs zs
same_trans a b = record { len = a.len ∙ b.len; counts = λ k. a.counts k ∙ b.counts k }

-- ---- the sort: the same entries, in order

pub below-insert : (k : ℕ) (x : Float) (ys : List Float) → below k (insert x ys) ≡ one_if (ltb (key x) k) + below k ys
unfolding below insert
below-insert k x [] = refl
below-insert k x (y ∷ ys) = ⊎_elim
    (λ e. rw e refl)
    (λ e. rw e (omega (arith, below-insert k x ys)))
    (which (leb (key x) (key y)))

pub length-insert : (x : Float) (ys : List Float) → length (insert x ys) ≡ suc (length ys)
unfolding insert
length-insert x [] = refl
length-insert x (y ∷ ys) = ⊎_elim
    (λ e. rw e refl)
    (λ e. rw e (ap suc (length-insert x ys)))
    (which (leb (key x) (key y)))

pub same-sort : (xs : List Float) → Same (sort xs) xs
unfolding below sort
same-sort [] = record { len = refl; counts = λ k. refl }
same-sort (x ∷ xs) = record {
  len = length-insert x (sort xs) ∙ ap suc (same-sort xs).len;
  counts = λ k. below-insert k x (sort xs) ∙ ap (λ (n : ℕ). one_if (ltb (key x) k) + n) ((same-sort xs).counts k);
}

insert_each : {P : Float → Type 0} (x : Float) (ys : List Float) → P x → Each P ys → Each P (insert x ys)
unfolding insert
insert_each x [] p none = more p none
insert_each x (y ∷ ys) p (more q r) = ⊎_elim
    (λ e. rw e (more p (more q r)))
    (λ e. rw e (more q (insert_each x ys p r)))
    (which (leb (key x) (key y)))

-- what holds of each entry holds of each sorted entry
pub sort_each : {P : Float → Type 0} {xs : List Float} → Each P xs → Each P (sort xs)
unfolding sort
sort_each none = none
sort_each (more {x = x} {xs = xs} p r) = insert_each x (sort xs) p (sort_each r)

data Sorted : List Float → Type 0 where
  empty : Sorted []
  front : {x : Float} {xs : List Float} → Each (λ y. key x ≤ key y) xs → Sorted xs → Sorted (x ∷ xs)

sorted_insert : (x : Float) (ys : List Float) → Sorted ys → Sorted (insert x ys)
unfolding insert
sorted_insert x [] empty = front none empty
sorted_insert x (y ∷ ys) (front a s) = ⊎_elim
    (λ e. let h : key x ≤ key y = leb-true (key x) (key y) e in rw e (front (more h (each_map (λ z q. le_trans h q) a)) (front a s)))
    (λ e. rw e (front (insert_each x ys (omega (arith, leb-false (key x) (key y) e)) a) (sorted_insert x ys s)))
    (which (leb (key x) (key y)))

sorted_sort : (xs : List Float) → Sorted (sort xs)
unfolding sort
sorted_sort [] = empty
sorted_sort (x ∷ xs) = sorted_insert x (sort xs) (sorted_sort xs)

sorted_up : (xs : List Float) → Sorted xs → (i j : ℕ) → i ≤ j → j < length xs → key_at xs i ≤ key_at xs j
sorted_up [] s i j h l = absurd (not-suc-le-zero l)
sorted_up (x ∷ xs) (front a s) zero zero h l = le_refl (key x)
sorted_up (x ∷ xs) (front a s) zero (suc j) h l = each_at j nan a (le_of_suc-le-suc l)
sorted_up (x ∷ xs) (front a s) (suc i) zero h l = absurd (not-suc-le-zero h)
sorted_up (x ∷ xs) (front a s) (suc i) (suc j) h l = sorted_up xs s i j (le_of_suc-le-suc h) (le_of_suc-le-suc l)

pub sort_ordered : (xs : List Float) → Ordered (sort xs)
sort_ordered xs = record { up = sorted_up (sort xs) (sorted_sort xs) }

pub split_ordered : (xs : List Float) (i : ℕ) → Ordered xs → i < length xs → Split xs i
split_ordered xs i o l = record { low = λ j h. o.up j i (omega arith) l; high = λ j h k. o.up i j h k }

-- ---- two lists of the same entries agree wherever both are split

low_count : (xs : List Float) (i : ℕ) → Split xs i → below (key_at xs i) xs ≤ i
low_count xs i s = count-high (key_at xs i) i xs s.high

high-count : (xs : List Float) (i : ℕ) → i < length xs → Split xs i → i < below (suc (key_at xs i)) xs
high-count xs i l s = count_low (suc (key_at xs i)) (suc i) xs l (λ j h. ⊎_elim
    (λ (e : j ≡ i). omega (arith, ap (key_at xs) e))
    (λ (n : j ≢ i). omega (arith, s.low j (omega arith)))
    (same_or_not j i))

key_le : (xs ys : List Float) (i : ℕ) → i < length ys → Same xs ys → Split xs i → Split ys i → key_at xs i ≤ key_at ys i
key_le xs ys i l e a b = ⊎_elim
    (λ (h : key_at ys i < key_at xs i).
    omega (arith, low_count xs i a, high-count ys i l b, e.counts (suc (key_at ys i)), below_mono (suc (key_at ys i)) (key_at xs i) xs h))
    (λ h. h)
    (lt_or_le (key_at ys i) (key_at xs i))

pub split_same : (xs ys : List Float) (i : ℕ) → i < length ys → Same xs ys → Split xs i → Split ys i → key_at xs i ≡ key_at ys i
split_same xs ys i l e a b = le_antisymm (key_le xs ys i l e a b) (key_le ys xs i (omega (arith, e.len)) (same_sym e) b a)

-- ---- the entry of a rank

-- each slot holds a binary64 value: the checker knows it of every lent slice
abbrev pub AllFit : List Float → Type 0
AllFit xs = (k : ℕ) → T (fits binary64 (get_or xs k nan))

pub sort-fits : (xs : List Float) (i : ℕ) → AllFit xs → i < length xs → T (fits binary64 (get_or (sort xs) i nan))
sort-fits xs i f l = each_at {P = λ x. T (fits binary64 x)} i nan (sort_each (each_by xs nan (λ k h. f k))) (omega (arith, (same-sort xs).len))

-- of the sorted list's entry at i: at most i entries lie below it, and more than i below it or level with it
module _ (xs : List Float) (i : ℕ) (l : i < length xs) where
  sorted_split : Split (sort xs) i
  sorted_split = split_ordered (sort xs) i (sort_ordered xs) (omega (arith, (same-sort xs).len))

  pub sort-low : below (key_at (sort xs) i) xs ≤ i
  sort-low = omega (arith, low_count (sort xs) i sorted_split, (same-sort xs).counts (key_at (sort xs) i))

  pub sort-high : i < below (suc (key_at (sort xs) i)) xs
  sort-high = omega (arith, high-count (sort xs) i (omega (arith, (same-sort xs).len)) sorted_split, (same-sort xs).counts (suc (key_at (sort xs) i)))

  key_of_rank : (k : ℕ) → below k xs ≤ i → i < below (suc k) xs → k ≡ key_at (sort xs) i
  key_of_rank k a b =
      let s = key_at (sort xs) i in
      le_antisymm
      (⊎_elim (λ (h : s < k). absurd (omega (arith, sort-high, below_mono (suc s) k xs h))) (λ (h : k ≤ s). h) (lt_or_le s k))
      (⊎_elim (λ (h : k < s). absurd (omega (arith, sort-low, below_mono (suc k) s xs h))) (λ (h : s ≤ k). h) (lt_or_le k s))

-- a value with at most i entries below it, and more than i that are below it or level with it, is the sorted list's entry at i
pub rank_is_sort : (xs : List Float) (i : ℕ) (v : Float) → AllFit xs → T (fits binary64 v) → i < length xs → below (key v) xs ≤ i → i < below (suc (key v)) xs
    → v ≡ get_or (sort xs) i nan
rank_is_sort xs i v f g l a b = key_inj v (get_or (sort xs) i nan) g (sort-fits xs i f l) (key_of_rank xs i l (key v) a b)

-- a list with the same entries, split at i, has at i the sorted list's entry
pub split_is_sort : (xs ys : List Float) (i : ℕ) → AllFit xs → AllFit ys → Same ys xs → i < length xs → Split ys i → get_or ys i nan ≡ get_or (sort xs) i nan
split_is_sort xs ys i fx fy e l s =
    let ls : i < length (sort xs) = omega (arith, (same-sort xs).len) in
    key_inj (get_or ys i nan) (get_or (sort xs) i nan) (fy i) (sort-fits xs i fx l)
    (split_same ys (sort xs) i ls (same_trans e (same_sym (same-sort xs))) s (split_ordered (sort xs) i (sort_ordered xs) ls))

-- a list with the same entries, in order, is the sorted list
pub ordered_is_sort : (xs ys : List Float) → AllFit xs → AllFit ys → Same ys xs → Ordered ys → ys ≡ sort xs
ordered_is_sort xs ys fx fy e o =
    ext_get_or nan ys (sort xs) (e.len ∙ sym (same-sort xs).len)
    (λ i l. split_is_sort xs ys i fx fy e (omega (arith, e.len)) (split_ordered ys i o l))
