-- A choice by rank. All of it is counting: of a list narrowed to one side of a fence, what lies below a key of that side is what lies below it in
-- the whole list, less what lies before the side. So the entry of a rank of the narrowed list is the entry of a rank of the whole. Assumes nothing.
use Prim.Native.Nat.{ℕ, zero, suc, ◌+◌, ◌-◌, ◌≤◌, ◌<◌, zero-le}
use mathlib.Core.Path.{◌≡◌, refl, sym, ap, ◌∙◌, subst}
use mathlib.Core.Logic.{◌⊎◌, inl, inr, ⊎_elim}
use mathlib.Core.Bool.{Bool, true, false, not, ◌&&◌}
use mathlib.Core.List.{List, [], ◌∷◌, ◌++◌}
use native.Mathlib.Nat.{le_refl, le_of_lt}
use native.Mathlib.Numerals.{add-one}
use native.Mathlib.Omega.{arith}
use lib.IntN.{ℤ, pos}
use lib.ListN.{length, get_or, take, drop, set, length-set}
use lib.Seq.{take-suc, drop-drop, drop-set-lt, take-set-le, take-suc-set, get_or-drop, length-take-le}
use lib.Dec.{T, ltb}
use lib.Ieee.{Float, nan, inf, fin, binary64, fits, lt, le, eq, neg, of_bits}
use borrow.Author.Tests.{ltb-true, ltb-false, not-true, not-false}
use Rattle.numbers.specs.Lists.{one_if}
use Rattle.numbers.specs.Rounded.{nought}
use Rattle.numbers.proofs.Tests.{which, lt_or_le, true_not_false, and_left, and_right, pick_true, pick-false}
use Rattle.floats.specs.TotalOrder.{key}
use Rattle.median.specs.Median.{sort}
use Rattle.median.specs.Ranks.{key_at, below}
use Rattle.median.specs.Choice.{plus_zero, past, first_key, past_key, on_side, side_from, side_to, passing, Parted, Kept, zero_at}
use Rattle.median.proofs.Ranks.{one_lt, one_ge, one_le, below_mono, sort-low, sort-high, sort-fits, rank_is_sort, AllFit}
use Rattle.median.proofs.Levels.{key-past, lt_first, not_lt_first, le_past, not_le_past, eq_zeros, zero-fits, plus_is, minus_is, only_zeros}

-- ---- a part of a list fits

pub fit-take : (n : ℕ) (xs : List Float) → AllFit xs → AllFit (take n xs)
unfolding fits
fit-take zero xs f k = tt
fit-take (suc n) [] f k = tt
fit-take (suc n) (x ∷ xs) f zero = f 0
fit-take (suc n) (x ∷ xs) f (suc k) = fit-take n xs (λ j. f (suc j)) k

fit_cons : (x : Float) (xs : List Float) → T (fits binary64 x) → AllFit xs → AllFit (x ∷ xs)
fit_cons x xs g f zero = g
fit_cons x xs g f (suc k) = f k

-- ---- counts

pub below-append : (k : ℕ) (xs ys : List Float) → below k (xs ++ ys) ≡ below k xs + below k ys
unfolding below
below-append k [] ys = omega arith
below-append k (x ∷ xs) ys = omega (arith, below-append k xs ys)

pub below_length : (k : ℕ) (xs : List Float) → below k xs ≤ length xs
unfolding below
below_length k [] = zero-le
below_length k (x ∷ xs) = omega (arith, below_length k xs, one_le (ltb (key x) k))

pub below-zero : (xs : List Float) → below 0 xs ≡ 0
unfolding below
below-zero [] = refl
below-zero (x ∷ xs) = omega (arith, below-zero xs, one_ge x 0 zero-le)

pub below-past : (xs : List Float) → AllFit xs → below past xs ≡ length xs
unfolding below
below-past [] f = refl
below-past (x ∷ xs) f = omega (arith, below-past xs (λ j. f (suc j)), one_lt x past (key-past x (f 0)))

pub below_none : (k : ℕ) (xs : List Float) → below k (take 0 xs) ≡ 0
unfolding below
below_none k xs = refl

below_step : (k : ℕ) (xs : List Float) (i : ℕ) → i < length xs → below k (take (i + 1) xs) ≡ below k (take i xs) + one_if (ltb (key_at xs i) k)
unfolding below
below_step k xs i l = rw (add-one, take-suc xs i nan, below-append k (take i xs) (get_or xs i nan ∷ [])) (omega arith)

-- one entry more, by what is known of its key
pub below-counts : (k : ℕ) (xs : List Float) (i : ℕ) → i < length xs → key_at xs i < k → below k (take (i + 1) xs) ≡ below k (take i xs) + 1
below-counts k xs i l h = omega (arith, below_step k xs i l, one_lt (get_or xs i nan) k h)

pub below_skips : (k : ℕ) (xs : List Float) (i : ℕ) → i < length xs → k ≤ key_at xs i → below k (take (i + 1) xs) ≡ below k (take i xs)
below_skips k xs i l h = omega (arith, below_step k xs i l, one_ge (get_or xs i nan) k h)

-- ---- a side of a fence is a range of keys

module _ (low high : Float) (fl : T (fits binary64 low)) (fh : T (fits binary64 high)) (x : Float) (fx : T (fits binary64 x)) where
  side_in : (side : ℕ) → on_side side low high x ≡ true → (side_from side low high ≤ key x) × (key x < side_to side low high)
  unfolding on_side side_from side_to
  side_in zero e = (zero-le, lt_first x low fx fl e)
  side_in (suc zero) e = (
    not_lt_first x low fx fl (not-true (lt x low) (and_left (not (lt x low)) (le x high) e)),
    le_past x high fx fh (and_right (not (lt x low)) (le x high) e),
  )
  side_in (suc (suc side)) e = (not_le_past x high fx fh (not-true (le x high) e), key-past x fx)

  side_out : (side : ℕ) → on_side side low high x ≡ false → (key x < side_from side low high) ⊎ (side_to side low high ≤ key x)
  unfolding on_side side_from side_to
  side_out zero e = inr (not_lt_first x low fx fl e)
  side_out (suc zero) e = ⊎_elim
      (λ h. inl (lt_first x low fx fl h))
      (λ h. inr (not_le_past x high fx fh (subst (λ (b : Bool). (not b && le x high) ≡ false) h e)))
      (which (lt x low))
  side_out (suc (suc side)) e = inl (le_past x high fx fh (not-false (le x high) e))

-- ---- the entries of a side

module _ (low high : Float) (fl : T (fits binary64 low)) (fh : T (fits binary64 high)) (side : ℕ) where
  -- what lies below a key of the side is what lies below it in the whole list, less what lies before the side
  passing-counts : (k : ℕ) → side_from side low high ≤ k → k ≤ side_to side low high → (xs : List Float) → AllFit xs →
      below k (passing (on_side side low high) xs) + below (side_from side low high) xs ≡ below k xs
  unfolding passing below
  passing-counts k a b [] f = refl
  passing-counts k a b (x ∷ xs) f =
      let ih = passing-counts k a b xs (λ j. f (suc j)) in
      ⊎_elim
      (λ e. rw e (omega (arith, ih, one_ge x (side_from side low high) (side_in low high fl fh x (f 0) side e).0)))
      (λ e. rw e (⊎_elim
      (λ (p : key x < side_from side low high). omega (arith, ih, one_lt x (side_from side low high) p, one_lt x k (omega arith)))
      (λ (p : side_to side low high ≤ key x). omega (arith, ih, one_ge x (side_from side low high) (omega arith), one_ge x k (omega arith)))
      (side_out low high fl fh x (f 0) side e)))
      (which (on_side side low high x))

  passing-all : (xs : List Float) → AllFit xs → below (side_to side low high) (passing (on_side side low high) xs) ≡ length (passing (on_side side low high) xs)
  unfolding passing below
  passing-all [] f = refl
  passing-all (x ∷ xs) f =
      let ih = passing-all xs (λ j. f (suc j)) in
      ⊎_elim
      (λ e. rw e (omega (arith, ih, one_lt x (side_to side low high) (side_in low high fl fh x (f 0) side e).1)))
      (λ e. rw e ih)
      (which (on_side side low high x))

  passing-fits : (xs : List Float) → AllFit xs → AllFit (passing (on_side side low high) xs)
  unfolding passing
  passing-fits [] f k = f k
  passing-fits (x ∷ xs) f k = ⊎_elim
      (λ e. rw e (fit_cons x (passing (on_side side low high) xs) (f 0) (passing-fits xs (λ j. f (suc j))) k))
      (λ e. rw e (passing-fits xs (λ j. f (suc j)) k))
      (which (on_side side low high x))

-- ---- the side that has the entry of a rank

module _ (low high : Float) (side : ℕ) (xs : List Float) (rank before size : ℕ) (f : AllFit xs) (p : Parted xs low high rank side before size) where
  abbrev from : ℕ
  from = side_from side low high

  abbrev to : ℕ
  to = side_to side low high

  abbrev ys : List Float
  ys = passing (on_side side low high) xs

  counts : (k : ℕ) → from ≤ k → k ≤ to → below k ys + before ≡ below k xs
  counts k a b = omega (arith, passing-counts low high p.low_fits p.high_fits side k a b xs f, p.starts)

  all : below to ys ≡ length ys
  all = passing-all low high p.low_fits p.high_fits side xs f

  ordered : from ≤ to
  ordered = ⊎_elim
      (λ (h : to < from). absurd (omega (arith, p.starts, p.ends, p.first, p.last, below_mono to from xs (le_of_lt h))))
      (λ h. h)
      (lt_or_le to from)

  passing-size : length (passing (on_side side low high) xs) ≡ size
  passing-size = omega (arith, counts to ordered (le_refl _), all, p.ends)

  -- its entry of the rest of the rank is the whole list's
  pub passing_is_sort : get_or (sort (passing (on_side side low high) xs)) (rank - before) nan ≡ get_or (sort xs) rank nan
  passing_is_sort =
      let r = rank - before in
      let l : r < length ys = omega (arith, passing-size, p.first, p.last) in
      let k = key_at (sort ys) r in
      let a : below k ys ≤ r = sort-low ys r l in
      let b : r < below (suc k) ys = sort-high ys r l in
      let hi : k < to = ⊎_elim (λ (h : k < to). h) (λ (h : to ≤ k). absurd (omega (arith, all, below_mono to k ys h))) (lt_or_le k to) in
      let lo : from ≤ k = ⊎_elim
      (λ (h : k < from). absurd (omega (arith, counts from (le_refl _) ordered, p.starts, below_mono (suc k) from ys h)))
      (λ (h : from ≤ k). h)
      (lt_or_le k from) in
      rank_is_sort xs rank (get_or (sort ys) r nan) f (sort-fits ys r (passing-fits low high p.low_fits p.high_fits side xs f) l)
      (omega (arith, p.ends, p.last, below_length to xs))
      (omega (arith, p.first, counts k lo (le_of_lt hi)))
      (omega (arith, p.first, counts (suc k) (omega arith) hi))

-- the entries of a side, kept in front, have the entry of the rest of the rank
pub kept_is_sort : (low high : Float) (side m : ℕ) (xs : List Float) (rank before size r : ℕ) (ys : List Float) → AllFit xs → m ≤ length xs →
    Parted (take m xs) low high rank side before size → Kept side low high m xs r ys →
    (r ≡ size) × (get_or (sort (take r ys)) (rank - before) nan ≡ get_or (sort (take m xs)) rank nan)
kept_is_sort low high side m xs rank before size r ys f l p k =
    let g : AllFit (take m xs) = fit-take m xs f in
    let n : length (take r ys) ≡ r = length-take-le r ys (omega (arith, k.room, k.fewer)) in
    let q : length (take r ys) ≡ length (passing (on_side side low high) (take m xs)) = ap length k.front in (
      omega (arith, n, q, passing-size low high side (take m xs) rank before size g p),
      ap (λ (zs : List Float). get_or (sort zs) (rank - before) nan) k.front ∙ passing_is_sort low high side (take m xs) rank before size g p,
    )

-- ---- a guess whose counts have the rank

minus-nought : neg nought ≡ fin true 0 (pos 0)
unfolding neg of_bits
minus-nought = refl

plus_nought : nought ≡ fin false 0 (pos 0)
unfolding of_bits
plus_nought = refl

module _ {xs : List Float} {rank before size : ℕ} (f : AllFit xs) where
  inside_list : {low high : Float} {side : ℕ} → Parted xs low high rank side before size → rank < length xs
  inside_list {low} {high} {side} p = omega (arith, p.ends, p.last, below_length (side_to side low high) xs)

  pub guess_is_sort : (v : Float) → eq v nought ≡ false → Parted xs v v rank 1 before size → v ≡ get_or (sort xs) rank nan
  unfolding side_from side_to first_key past_key
  guess_is_sort nan e p = absurd (omega (arith, p.starts, p.ends, p.first, p.last))
  guess_is_sort (inf s) e p =
      rank_is_sort xs rank (inf s) f p.low_fits (inside_list p) (omega (arith, p.starts, p.first)) (omega (arith, p.ends, p.last))
  guess_is_sort (fin s zero d) e p = true_not_false (eq (fin s 0 d) nought) (rw plus_nought (eq_zeros s false d (pos 0))) e
  guess_is_sort (fin s (suc m) d) e p =
      rank_is_sort xs rank (fin s (suc m) d) f p.low_fits (inside_list p) (omega (arith, p.starts, p.first)) (omega (arith, p.ends, p.last))

  zero_is_sort : (s : Bool) (d : ℤ) → Parted xs (fin s 0 d) (fin s 0 d) rank 1 before size → zero_at rank xs ≡ get_or (sort xs) rank nan
  unfolding side_from side_to first_key past_key
  zero_is_sort s d p = ⊎_elim
      (λ e. pick_true (ltb rank (below plus_zero xs)) (neg nought) nought e ∙ minus-nought
      ∙ rank_is_sort xs rank (fin true 0 (pos 0)) f (zero-fits true) (inside_list p)
      (rw minus_is (omega (arith, p.starts, p.first))) (rw minus_is (ltb-true rank (below plus_zero xs) e)))
      (λ e. pick-false (ltb rank (below plus_zero xs)) (neg nought) nought e ∙ plus_nought
      ∙ rank_is_sort xs rank (fin false 0 (pos 0)) f (zero-fits false) (inside_list p)
      (rw plus_is (ltb-false rank (below plus_zero xs) e)) (rw plus_is (omega (arith, p.ends, p.last))))
      (which (ltb rank (below plus_zero xs)))

  pub guess_is_zero : (v : Float) → eq v nought ≡ true → Parted xs v v rank 1 before size → zero_at rank xs ≡ get_or (sort xs) rank nan
  guess_is_zero v e p =
      only_zeros (λ (z : Float). Parted xs z z rank 1 before size → zero_at rank xs ≡ get_or (sort xs) rank nan) zero_is_sort v (rw plus_nought at e) p

-- ---- keeping the entries that pass at the front: of the first i entries of xs, ys has those as its first n

passing-append : (t : Float → Bool) (xs ys : List Float) → passing t (xs ++ ys) ≡ passing t xs ++ passing t ys
unfolding passing
passing-append t [] ys = refl
passing-append t (x ∷ xs) ys = ⊎_elim
    (λ e. rw e (ap (λ (z : List Float). x ∷ z) (passing-append t xs ys)))
    (λ e. rw e (passing-append t xs ys))
    (which (t x))

append-nil : (xs : List Float) → xs ++ [] ≡ xs
append-nil [] = refl
append-nil (x ∷ xs) = ap (λ (z : List Float). x ∷ z) (append-nil xs)

pub record Keeping (t : Float → Bool) (xs : List Float) (n i : ℕ) (ys : List Float) : Type 0 where
  pub room : length ys ≡ length xs
  pub fewer : n ≤ i
  pub left : drop i ys ≡ drop i xs
  pub front : take n ys ≡ passing t (take i xs)

pub keeping_start : (t : Float → Bool) (xs : List Float) → Keeping t xs 0 0 xs
unfolding passing
keeping_start t xs = record { room = refl; fewer = zero-le; left = refl; front = refl }

module _ {t : Float → Bool} {xs : List Float} {n i : ℕ} {ys : List Float} (s : Keeping t xs n i ys) (l : i < length xs) where
  keeping_at : get_or ys i nan ≡ get_or xs i nan
  keeping_at =
      let e : i + 0 ≡ i = omega arith in
      subst (λ (k : ℕ). get_or ys k nan ≡ get_or xs k nan) e
      (sym (get_or-drop i ys 0 nan) ∙ ap (λ (z : List Float). get_or z 0 nan) s.left ∙ get_or-drop i xs 0 nan)

  keeping_left : (v : Float) → drop (i + 1) (set ys n v) ≡ drop (i + 1) xs
  keeping_left v = drop-set-lt (i + 1) ys n v (omega (arith, s.fewer)) ∙ sym (drop-drop 1 i ys) ∙ ap (drop 1) s.left ∙ drop-drop 1 i xs

  pub keeping_in : t (get_or ys i nan) ≡ true → Keeping t xs (n + 1) (i + 1) (set ys n (get_or ys i nan))
  unfolding passing
  keeping_in e = record {
    room = simp length-set s.room;
    fewer = omega (arith, s.fewer);
    left = keeping_left (get_or ys i nan);
    front =
        let a : take (n + 1) (set ys n (get_or ys i nan)) ≡ take n ys ++ (get_or ys i nan ∷ []) =
        rw (add-one n) (take-suc-set ys n (get_or ys i nan) (omega (arith, s.fewer, s.room))) in
        let b : take n ys ++ (get_or ys i nan ∷ []) ≡ passing t (take i xs) ++ (get_or xs i nan ∷ []) = rw (s.front, keeping_at) refl in
        let e' : t (get_or xs i nan) ≡ true = subst (λ (z : Float). t z ≡ true) keeping_at e in
        a ∙ b ∙ sym (rw (add-one, take-suc xs i nan, passing-append t (take i xs) (get_or xs i nan ∷ []), e') refl);
  }

  pub keeping_out : t (get_or ys i nan) ≡ false → Keeping t xs n (i + 1) (set ys n (get_or ys i nan))
  unfolding passing
  keeping_out e = record {
    room = simp length-set s.room;
    fewer = omega (arith, s.fewer);
    left = keeping_left (get_or ys i nan);
    front =
        let e' : t (get_or xs i nan) ≡ false = subst (λ (z : Float). t z ≡ false) keeping_at e in
        let a : passing t (take (i + 1) xs) ≡ passing t (take i xs) =
        rw (add-one, take-suc xs i nan, passing-append t (take i xs) (get_or xs i nan ∷ []), e') (append-nil (passing t (take i xs))) in
        take-set-le n ys n (get_or ys i nan) (le_refl n) ∙ s.front ∙ sym a;
  }
