-- Values of which no two differ and compare as equal: finite ones, with +0 for either zero. A comparison of two of them decides the order of their keys,
-- and a window's median is, but for a zero's sign, that of the values it was made of. Assumes nothing.
use Prim.Native.Nat.{ℕ, suc, zero, ◌+◌, ◌*◌, ◌/◌, ◌≤◌, ◌<◌}
use mathlib.Core.Path.{◌≡◌, refl, sym, ap, ◌∙◌, subst}
use mathlib.Core.Logic.{⊎_elim}
use mathlib.Core.Bool.{Bool, true, false, ◌||◌}
use mathlib.Core.List.{List, [], ◌∷◌, map}
use native.Mathlib.Nat.{le_refl, le_antisymm}
use native.Mathlib.Omega.{arith}
use lib.IntN.{pos}
use lib.ListN.{length, get_or, length-map}
use lib.Dec.{T, ltb, eqb}
use lib.Ieee.{Float, nan, inf, fin, binary64, fits, lt, le, eq, up, down, below, level}
use lib.Ieee.Fits.{nan-fits}
use lib.Ieee.Scale.{finite}
use borrow.Author.Tests.{eqb-true, le-ltb}
use Rattle.numbers.specs.Rounded.{nought}
use Rattle.numbers.proofs.Tests.{which, lt_or_le, true_not_false, and_left, and_right, by_pick}
use Rattle.sizes.specs.Sizes.{Each, none, more}
use Rattle.sizes.proofs.Lists.{each_at}
use Rattle.sizes.proofs.Order.{true→T, not_lt}
use Rattle.sizes.proofs.Monotone.{finite_not_nan}
use Rattle.sizes.proofs.Signs.{nought-is}
use Rattle.floats.specs.TotalOrder.{key}
use Rattle.floats.proofs.TotalOrder.{key_inj, key_lt}
use Rattle.median.specs.Choice.{plus_zero, past_key}
use Rattle.median.specs.Median.{sort, median_of}
use Rattle.median.specs.Ranks as ranks
use Rattle.median.proofs.Absolutes.{zero-plain}
use Rattle.median.proofs.Levels.{le_past, eq_zeros, zero-fits, plus_is, minus_is, only_zeros}
use Rattle.median.proofs.Ranks.{AllFit, one_lt, one_ge, one_le, sort-low, sort-high, sort_each, same-sort, rank_is_sort}
use Rattle.windows.specs.Windows.{one_zero}

-- a finite value of the format
pub record Proper (x : Float) : Type 0 where
  pub fit : T (fits binary64 x)
  pub ends : T (finite x)

-- and not -0: what lies up to it is what its key lies past
pub record Plain (x : Float) : Type 0 where
  pub proper : Proper x
  pub level : past_key x ≡ suc (key x)

zero_level : past_key (fin false 0 (pos 0)) ≡ suc (key (fin false 0 (pos 0)))
unfolding past_key
zero_level = omega (arith, plus_is)

nought-plain : Plain nought
nought-plain = subst Plain (sym nought-is) (record { proper = record { fit = zero-fits false; ends = tt }; level = zero_level })

other_level : (x : Float) → T (finite x) → eq x nought ≡ false → past_key x ≡ suc (key x)
unfolding past_key
other_level nan p e = absurd p
other_level (inf s) p e = absurd p
other_level (fin s zero d) p e = true_not_false (eq (fin s 0 d) nought) (rw nought-is (eq_zeros s false d (pos 0))) e
other_level (fin s (suc m) d) p e = refl

pub plain-is : (x : Float) → Proper x → Plain (one_zero x)
unfolding one_zero
plain-is x h = by_pick Plain (eq x nought) nought x (λ e. nought-plain) (λ e. record { proper = h; level = other_level x h.ends e })

pub plains : {xs : List Float} → Each Proper xs → Each Plain (map one_zero xs)
plains none = none
plains (more {x = x} h r) = more (plain-is x h) (plains r)

-- ---- comparisons are those of keys

level_not_below : (s t : Bool) (a b : ℕ) → level s a t b ≡ true → below s a t b ≡ false
level_not_below false false a b e = let q = eqb-true a b (and_left (eqb a b) true e) in le-ltb a b (omega arith)
level_not_below false true a b e = refl
level_not_below true false a b e =
    let q = eqb-true a b (and_left (eqb a b) (eqb a 0) e) in
    let z = eqb-true a 0 (and_right (eqb a b) (eqb a 0) e) in
    le-ltb 0 (a + b) (omega arith)
level_not_below true true a b e = let q = eqb-true a b (and_left (eqb a b) true e) in le-ltb b a (omega arith)

equal_not_below : (x y : Float) → T (finite x) → T (finite y) → eq x y ≡ true → lt x y ≡ false
unfolding eq lt
equal_not_below nan y p q e = absurd p
equal_not_below (inf s) y p q e = absurd p
equal_not_below (fin s m k) nan p q e = absurd q
equal_not_below (fin s m k) (inf t) p q e = absurd q
equal_not_below (fin s m k) (fin t n d) p q e = level_not_below s t (m * up k * down d) (n * up d * down k) e

or-true : (b : Bool) → (b || true) ≡ true
or-true true = refl
or-true false = refl

equal_le : (x y : Float) → eq x y ≡ true → le x y ≡ true
unfolding le
equal_le x y e = rw e (or-true (lt x y))

module _ {x y : Float} (a : Plain x) (b : Plain y) where
  pub below_key : lt x y ≡ true → key x < key y
  below_key e = key_lt x y a.proper.fit b.proper.fit (true→T (lt x y) e)

  pub not_below_key : lt x y ≡ false → key y ≤ key x
  not_below_key e =
      let h = not_lt x y (finite_not_nan x a.proper.ends) (finite_not_nan y b.proper.ends) e in
      omega (arith, le_past y x b.proper.fit a.proper.fit h, a.level)

  pub key_below : key x < key y → lt x y ≡ true
  key_below l = ⊎_elim (λ e. e) (λ e. absurd (omega (arith, not_below_key e))) (which (lt x y))

  pub key_not_below : key y ≤ key x → lt x y ≡ false
  key_not_below l = ⊎_elim (λ e. absurd (omega (arith, below_key e))) (λ e. e) (which (lt x y))

  pub same_key : key x ≡ key y → x ≡ y
  same_key e = key_inj x y a.proper.fit b.proper.fit e

  -- values that compare as equal are the same
  pub equal_same : eq x y ≡ true → x ≡ y
  equal_same e =
      let l : key x < past_key y = le_past x y a.proper.fit b.proper.fit (equal_le x y e) in
      let g : key y ≤ key x = not_below_key (equal_not_below x y a.proper.ends b.proper.ends e) in
      same_key (le_antisymm (omega (arith, b.level)) g)

-- ---- a zero's key, and the keys beside it

zero_keys : (s : Bool) → (plus_zero ≤ key (fin s 0 (pos 0)) + 1) × (key (fin s 0 (pos 0)) ≤ plus_zero)
zero_keys true = (omega (arith, minus_is), omega (arith, minus_is))
zero_keys false = (omega (arith, plus_is), omega (arith, plus_is))

zero_range : (x : Float) → T (fits binary64 x) → eq x nought ≡ true → (plus_zero ≤ key x + 1) × (key x ≤ plus_zero)
zero_range x f e =
    only_zeros (λ (z : Float). T (fits binary64 z) → (plus_zero ≤ key z + 1) × (key z ≤ plus_zero)) (λ s d g. rw (zero-plain s d g) (zero_keys s)) x
    (rw nought-is at e) f

nought-key : key nought ≡ plus_zero
nought-key = ap key nought-is ∙ plus_is

-- a value that is no zero hasn't the key of -0
other_key : (x : Float) → T (fits binary64 x) → eq x nought ≡ false → key x + 1 ≡ plus_zero → ⊥
other_key x f e h =
    let m : x ≡ fin true 0 (pos 0) = key_inj x (fin true 0 (pos 0)) f (zero-fits true) (omega (arith, minus_is)) in
    true_not_false (eq (fin true 0 (pos 0)) nought) (rw nought-is (eq_zeros true false (pos 0) (pos 0))) (subst (λ (z : Float). eq z nought ≡ false) m e)

plain-rises : (x y : Float) → T (fits binary64 x) → T (fits binary64 y) → key x ≤ key y → key (one_zero x) ≤ key (one_zero y)
unfolding one_zero
plain-rises x y f g h = ⊎_elim
    (λ (a : eq x nought ≡ true). ⊎_elim
    (λ (b : eq y nought ≡ true). rw (a, b) (le_refl (key nought)))
    (λ (b : eq y nought ≡ false). rw (a, b) (beside (key x) (key y) (zero_range x f a).0 h (other_key y g b)))
    (which (eq y nought)))
    (λ (a : eq x nought ≡ false). ⊎_elim
    (λ (b : eq y nought ≡ true). rw (a, b) (omega (arith, nought-key, (zero_range y g b).1)))
    (λ (b : eq y nought ≡ false). rw (a, b) h)
    (which (eq y nought)))
    (which (eq x nought))
  where
    beside : (k l : ℕ) → plus_zero ≤ k + 1 → k ≤ l → (l + 1 ≡ plus_zero → ⊥) → key nought ≤ l
    beside k l a b n = ⊎_elim
        (λ (c : l < plus_zero). absurd (n (omega arith)))
        (λ (c : plus_zero ≤ l). omega (arith, nought-key))
        (lt_or_le l plus_zero)

-- ---- a rising map keeps the entry of a rank

plain_fits : (x : Float) → T (fits binary64 x) → T (fits binary64 (one_zero x))
unfolding one_zero
plain_fits x f = by_pick (λ (z : Float). T (fits binary64 z)) (eq x nought) nought x (λ e. nought-plain.proper.fit) (λ e. f)

fewer-below : (m : Float) (xs : List Float) → T (fits binary64 m) → Each Proper xs → ranks.below (key (one_zero m)) (map one_zero xs) ≤ ranks.below (key m) xs
unfolding ranks.below
fewer-below m [] f none = le_refl 0
fewer-below m (x ∷ xs) f (more h r) =
    let ih = fewer-below m xs f r in
    ⊎_elim
    (λ (l : key x < key m). omega (arith, ih, one_lt x (key m) l, one_le (ltb (key (one_zero x)) (key (one_zero m)))))
    (λ (l : key m ≤ key x). omega (arith, ih, one_ge (one_zero x) (key (one_zero m)) (plain-rises m x f h.fit l)))
    (lt_or_le (key x) (key m))

more-below : (m : Float) (xs : List Float) → T (fits binary64 m) → Each Proper xs
    → ranks.below (suc (key m)) xs ≤ ranks.below (suc (key (one_zero m))) (map one_zero xs)
unfolding ranks.below
more-below m [] f none = le_refl 0
more-below m (x ∷ xs) f (more h r) =
    let ih = more-below m xs f r in
    ⊎_elim
    (λ (l : key x < suc (key m)).
    omega (arith, ih, one_le (ltb (key x) (suc (key m))), one_lt (one_zero x) (suc (key (one_zero m))) (omega (arith, plain-rises x m h.fit f (omega arith)))))
    (λ (l : suc (key m) ≤ key x). omega (arith, ih, one_ge x (suc (key m)) l))
    (lt_or_le (key x) (suc (key m)))

-- each entry is a value of the format
pub each_fits : {xs : List Float} → Each Plain xs → AllFit xs
each_fits none k = nan-fits binary64
each_fits (more p r) zero = p.proper.fit
each_fits (more p r) (suc k) = each_fits r k

pub median-plain : (w : List Float) → 0 < length w → Each Proper w → median_of (map one_zero w) ≡ one_zero (median_of w)
unfolding median_of
median-plain w some h =
    let i = length w / 2 in
    let l : i < length w = omega arith in
    let m = get_or (sort w) i nan in
    let f : T (fits binary64 m) = (each_at {P = Proper} i nan (sort_each h) (omega (arith, (same-sort w).len))).fit in
    let e = length-map w one_zero in
    rw e (sym (rank_is_sort (map one_zero w) i (one_zero m) (each_fits (plains h)) (plain_fits m f) (omega (arith, e))
    (omega (arith, fewer-below m w f h, sort-low w i l))
    (omega (arith, more-below m w f h, sort-high w i l))))
