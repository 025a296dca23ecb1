-- Floats compared, and keys: `x < p` says that the key of x lies below p's first key, and `x <= p` that it lies below p's key past. Away from
-- a zero both come to the key of p itself. Assumes nothing.
use Prim.Native.Nat.{ℕ, zero, suc, ◌+◌, ◌-◌, ◌*◌, ◌≤◌, ◌<◌, zero-le}
use mathlib.Core.Path.{◌≡◌, refl, sym, ap, ◌∙◌, subst}
use mathlib.Core.Logic.{◌⊎◌, inl, inr, ⊎_elim}
use mathlib.Core.Bool.{Bool, true, false, ◌&&◌, ◌||◌, beq}
use native.Mathlib.Nat.{zero-mul, le_refl, le_of_eq, le_antisymm, mul-pos, eq-zero-or-pos}
use native.Mathlib.Omega.{arith}
use lib.IntN.{ℤ, pos}
use lib.Dec.{T, eqb}
use lib.Ieee.{Float, nan, inf, fin, binary64, up, down, lt, le, eq, fits, to_bits}
use lib.Ieee.Fits.{up_pos, down_pos}
use borrow.Author.Tests.{ltb-true, ltb-false, eqb-true, lt-ltb, eq-eqb}
use Rattle.numbers.proofs.Tests.{which, true_not_false, and_left, and_right, or_left, or_right}
use Rattle.floats.specs.TotalOrder.{key, turned}
use Rattle.floats.proofs.TotalOrder.{key_inj, key_lt, turned-at, mag, mag_mono, mag_small, mag_inf, units, units_mono, bits_fin}
use Rattle.median.specs.Choice.{plus_zero, past, first_key, past_key}
use Rattle.median.proofs.Ranks.{same_or_not}
use Rattle.median.proofs.Absolutes.{zero-plain}

-- ---- keys

key_plus : (m : ℕ) (e : ℤ) → T (fits binary64 (fin false m e)) → key (fin false m e) ≡ plus_zero + mag (units m e)
unfolding key
key_plus m e h = ⊎_elim
    (λ w. omega (arith, w, bits_fin false m e))
    (λ w. omega (arith, w, bits_fin false m e, mag_small false m e h))
    (turned-at (to_bits binary64 (fin false m e)))

key-minus : (m : ℕ) (e : ℤ) → key (fin true m e) ≡ plus_zero - 1 - mag (units m e)
unfolding key
key-minus m e = ⊎_elim
    (λ w. omega (arith, w, bits_fin true m e))
    (λ w. omega (arith, w, bits_fin true m e))
    (turned-at (to_bits binary64 (fin true m e)))

key_nan : key nan ≡ 18444492273895866368
unfolding key turned to_bits
key_nan = refl

key_top : key (inf false) ≡ 18442240474082181120
unfolding key turned to_bits
key_top = refl

key_bottom : key (inf true) ≡ 4503599627370495
unfolding key turned to_bits
key_bottom = refl

-- each key lies below `past`
pub key-past : (x : Float) → T (fits binary64 x) → key x < past
key-past nan f = omega (arith, key_nan)
key-past (inf true) f = omega (arith, key_bottom)
key-past (inf false) f = omega (arith, key_top)
key-past (fin true m e) f = omega (arith, key-minus m e)
key-past (fin false m e) f = omega (arith, key_plus m e f, mag_inf false m e f)

pub zero-fits : (s : Bool) → T (fits binary64 (fin s 0 (pos 0)))
unfolding fits
zero-fits s = tt

-- a zero's key is one of two
key-zero : (s : Bool) → (key (fin s 0 (pos 0)) ≡ plus_zero) ⊎ (key (fin s 0 (pos 0)) + 1 ≡ plus_zero)
unfolding key turned to_bits
key-zero true = inr refl
key-zero false = inl refl

key-nought : (s : Bool) (e : ℤ) → T (fits binary64 (fin s 0 e)) → (key (fin s 0 e) ≡ plus_zero) ⊎ (key (fin s 0 e) + 1 ≡ plus_zero)
key-nought s e f =
    subst (λ (z : ℤ). (key (fin s 0 z) ≡ plus_zero) ⊎ (key (fin s 0 z) + 1 ≡ plus_zero)) (sym (zero-plain s e f)) (key-zero s)

-- ---- the two ends

first_fin : (s : Bool) (m : ℕ) (e : ℤ) → T (fits binary64 (fin s m e)) → first_key (fin s m e) ≤ key (fin s m e)
unfolding first_key
first_fin s zero e f = ⊎_elim (λ w. omega arith) (λ w. omega arith) (key-nought s e f)
first_fin s (suc m) e f = le_refl _

first_top : (p : Float) → T (fits binary64 p) → first_key p ≤ key (inf false)
unfolding first_key
first_top nan f = zero-le
first_top (inf true) f = omega (arith, key_top, key_bottom)
first_top (inf false) f = le_refl _
first_top (fin true m e) f = omega (arith, first_fin true m e f, key_top, key-minus m e)
first_top (fin false m e) f = omega (arith, first_fin false m e f, key_top, key_plus m e f, mag_inf false m e f)

first_past : (p : Float) → first_key p ≤ past_key p
unfolding first_key past_key
first_past nan = le_refl 0
first_past (inf s) = omega arith
first_past (fin s zero e) = omega arith
first_past (fin s (suc m) e) = omega arith

-- ---- a product that is nothing

no_units : (m : ℕ) (e d : ℤ) → m * up e * down d ≡ 0 → m ≡ 0
no_units m e d h = ⊎_elim
    (λ (z : m ≡ 0). z)
    (λ (p : 0 < m). absurd (sized (m * up e * down d) (mul-pos (mul-pos p (up_pos e)) (down_pos d)) h))
    (eq-zero-or-pos m)
  where
    sized : (x : ℕ) → 0 < x → x ≡ 0 → ⊥
    sized x p q = omega arith

nothing : (e d : ℤ) → 0 * up e * down d ≡ 0
nothing e d = ap (λ z. z * down d) (zero-mul (up e)) ∙ zero-mul (down d)

-- ---- below

below-minus : (x : Float) (t : Bool) → lt x (fin t 0 (pos 0)) ≡ true → lt x (fin true 0 (pos 0)) ≡ true
unfolding lt
below-minus nan t e = e
below-minus (inf s) t e = e
below-minus (fin true m k) true e = e
below-minus (fin true m k) false e = lt-ltb (0 * 1 * down k) (m * up k * 1) (omega (arith, ltb-true 0 (m * up k * 1 + 0 * 1 * down k) e, nothing (pos 0) k))
below-minus (fin false m k) true e = e
below-minus (fin false m k) false e = absurd (none (m * up k * 1) (0 * 1 * down k) (ltb-true (m * up k * 1) (0 * 1 * down k) e) (nothing (pos 0) k))
  where
    none : (a b : ℕ) → a < b → b ≡ 0 → ⊥
    none a b h q = omega arith

pub minus_is : key (fin true 0 (pos 0)) ≡ plus_zero - 1
unfolding key turned to_bits
minus_is = refl

below_none : (x : Float) → lt x nan ≡ true → ⊥
unfolding lt
below_none nan h = true_not_false false h refl
below_none (inf s) h = true_not_false false h refl
below_none (fin s m k) h = true_not_false false h refl

pub plus_is : key (fin false 0 (pos 0)) ≡ plus_zero
unfolding key turned to_bits
plus_is = refl

pub lt_first : (x p : Float) → T (fits binary64 x) → T (fits binary64 p) → lt x p ≡ true → key x < first_key p
unfolding first_key
lt_first x nan f g e = absurd (below_none x e)
lt_first x (inf t) f g e = key_lt x (inf t) f g (subst T (sym e) tt)
lt_first x (fin t zero d) f g e =
    let p : d ≡ pos 0 = zero-plain t d g in
    let h = below-minus x t (subst (λ (z : ℤ). lt x (fin t 0 z) ≡ true) p e) in
    omega (arith, key_lt x (fin true 0 (pos 0)) f (zero-fits true) (subst T (sym h) tt), minus_is)
lt_first x (fin t (suc n) d) f g e = key_lt x (fin t (suc n) d) f g (subst T (sym e) tt)

first_nan : (k : ℕ) → first_key nan ≤ k
unfolding first_key
first_nan k = zero-le

first_inf : (s : Bool) → first_key (inf s) ≤ key (inf s)
unfolding first_key
first_inf s = le_refl _

zeros : (m : ℕ) (k : ℤ) (n : ℕ) (d : ℤ) → T (fits binary64 (fin true m k)) → m ≡ 0 → n ≡ 0 → first_key (fin false n d) ≤ key (fin true m k)
unfolding first_key
zeros m k n d f zm zn =
    let h : plus_zero - 1 ≤ key (fin true 0 k) = first_fin true 0 k (subst (λ (z : ℕ). T (fits binary64 (fin true z k))) zm f) in
    subst (λ (z : ℕ). first_key (fin false z d) ≤ key (fin true m k)) (sym zn) (subst (λ (z : ℕ). plus_zero - 1 ≤ key (fin true z k)) (sym zm) h)

pub not_lt_first : (x p : Float) → T (fits binary64 x) → T (fits binary64 p) → lt x p ≡ false → first_key p ≤ key x
unfolding lt
not_lt_first nan p f g e = omega (arith, first_top p g, key_top, key_nan)
not_lt_first (inf false) p f g e = first_top p g
not_lt_first (inf true) nan f g e = first_nan (key (inf true))
not_lt_first (inf true) (inf true) f g e = first_inf true
not_lt_first (inf true) (inf false) f g e = true_not_false true refl e
not_lt_first (inf true) (fin t n d) f g e = true_not_false true refl e
not_lt_first (fin s m k) nan f g e = first_nan (key (fin s m k))
not_lt_first (fin true m k) (inf true) f g e = omega (arith, first_inf true, key_bottom, key-minus m k, mag_inf true m k f)
not_lt_first (fin false m k) (inf true) f g e = omega (arith, first_inf true, key_bottom, key_plus m k f)
not_lt_first (fin s m k) (inf false) f g e = true_not_false true refl e
not_lt_first (fin false m k) (fin true n d) f g e = omega (arith, first_fin true n d g, key-minus n d, key_plus m k f)
not_lt_first (fin false m k) (fin false n d) f g e = omega (
  arith,
  first_fin false n d g,
  key_plus n d g,
  key_plus m k f,
  mag_mono (units n d) (units m k) (units_mono n d m k (ltb-false (m * up k * down d) (n * up d * down k) e)),
)
not_lt_first (fin true m k) (fin true n d) f g e = omega (
  arith,
  first_fin true n d g,
  key-minus n d,
  key-minus m k,
  mag_mono (units m k) (units n d) (units_mono m k n d (ltb-false (n * up d * down k) (m * up k * down d) e)),
)
not_lt_first (fin true m k) (fin false n d) f g e =
    let h = ltb-false 0 (m * up k * down d + n * up d * down k) e in
    zeros m k n d f (no_units m k d (omega arith)) (no_units n d k (omega arith))

-- ---- up to

nought-past : (s : Bool) (m : ℕ) (k : ℤ) → T (fits binary64 (fin s m k)) → m ≡ 0 → key (fin s m k) < plus_zero + 1
nought-past s m k f z =
    let h = key-nought s k (subst (λ (n : ℕ). T (fits binary64 (fin s n k))) z f) in
    subst (λ (n : ℕ). key (fin s n k) < plus_zero + 1) (sym z) (⊎_elim (λ w. omega arith) (λ w. omega arith) h)

level_mag : (m : ℕ) (k : ℤ) (n : ℕ) (d : ℤ) → m * up k * down d ≡ n * up d * down k → mag (units m k) ≡ mag (units n d)
level_mag m k n d e = le_antisymm
    (mag_mono (units m k) (units n d) (units_mono m k n d (le_of_eq e)))
    (mag_mono (units n d) (units m k) (units_mono n d m k (le_of_eq (sym e))))

level_past : (s t : Bool) (n m : ℕ) (k d : ℤ) → T (fits binary64 (fin s m k)) → T (fits binary64 (fin t (suc n) d)) →
    m * up k * down d ≡ suc n * up d * down k → (beq s t || eqb (m * up k * down d) 0) ≡ true → key (fin s m k) < suc (key (fin t (suc n) d))
level_past true true n m k d f g e h = omega (arith, key-minus m k, key-minus (suc n) d, level_mag m k (suc n) d e)
level_past false false n m k d f g e h = omega (arith, key_plus m k f, key_plus (suc n) d g, level_mag m k (suc n) d e)
level_past true false n m k d f g e h = omega (arith, key-minus m k, key_plus (suc n) d g)
level_past false true n m k d f g e h =
    let z : suc n ≡ 0 = no_units (suc n) d k (sym e ∙ eqb-true (m * up k * down d) 0 h) in
    absurd (omega arith)

level_size : (s t : Bool) (a b : ℕ) → (eqb a b && (beq s t || eqb a 0)) ≡ true → a ≡ b
level_size s t a b e = eqb-true a b (and_left (eqb a b) (beq s t || eqb a 0) e)

eq_past : (x p : Float) → T (fits binary64 x) → T (fits binary64 p) → eq x p ≡ true → key x < past_key p
unfolding eq past_key
eq_past nan p f g e = true_not_false false e refl
eq_past (inf s) nan f g e = true_not_false false e refl
eq_past (inf true) (inf true) f g e = omega arith
eq_past (inf true) (inf false) f g e = true_not_false false e refl
eq_past (inf false) (inf true) f g e = true_not_false false e refl
eq_past (inf false) (inf false) f g e = omega arith
eq_past (inf s) (fin t n d) f g e = true_not_false false e refl
eq_past (fin s m k) nan f g e = true_not_false false e refl
eq_past (fin s m k) (inf t) f g e = true_not_false false e refl
eq_past (fin s m k) (fin t zero d) f g e = nought-past s m k f (no_units m k d (level_size s t _ _ e ∙ nothing d k))
eq_past (fin s m k) (fin t (suc n) d) f g e = level_past s t n m k d f g (level_size s t _ _ e)
    (and_right (eqb (m * up k * down d) (suc n * up d * down k)) (beq s t || eqb (m * up k * down d) 0) e)

pub le_past : (x p : Float) → T (fits binary64 x) → T (fits binary64 p) → le x p ≡ true → key x < past_key p
unfolding le
le_past x p f g e = ⊎_elim
    (λ h. omega (arith, lt_first x p f g h, first_past p))
    (λ h. eq_past x p f g (subst (λ (b : Bool). (b || eq x p) ≡ true) h e))
    (which (lt x p))

eq_inf : (s : Bool) → eq (inf s) (inf s) ≡ true
unfolding eq
eq_inf true = refl
eq_inf false = refl

eq_fin : (s : Bool) (m : ℕ) (k : ℤ) → eq (fin s m k) (fin s m k) ≡ true
unfolding eq
eq_fin true m k = rw (eq-eqb (m * up k * down k) (m * up k * down k) refl) refl
eq_fin false m k = rw (eq-eqb (m * up k * down k) (m * up k * down k) refl) refl

or-true : (b : Bool) → (b || true) ≡ true
or-true true = refl
or-true false = refl

pub eq_zeros : (s t : Bool) (e d : ℤ) → eq (fin s 0 e) (fin t 0 d) ≡ true
unfolding eq
eq_zeros s t e d =
    rw (nothing e d, nothing d e) (or-true (beq s t))

-- values that are not equal have different keys
differ : (x p q : Float) → T (fits binary64 x) → T (fits binary64 p) → eq p q ≡ true → eq x q ≡ false → key x ≡ key p → ⊥
differ x p q f g t e k = true_not_false (eq p q) t (subst (λ (z : Float). eq z q ≡ false) (key_inj x p f g k) e)

past_of : (x p : Float) → T (fits binary64 x) → T (fits binary64 p) → first_key p ≤ key x → eq x p ≡ false → past_key p ≤ key x
unfolding first_key past_key
past_of x nan f g h e = zero-le
past_of x (inf t) f g h e = ⊎_elim (λ q. absurd (differ x (inf t) (inf t) f g (eq_inf t) e q)) (λ n. omega (arith, n)) (same_or_not (key x) (key (inf t)))
past_of x (fin t (suc n) d) f g h e = ⊎_elim
    (λ q. absurd (differ x (fin t (suc n) d) (fin t (suc n) d) f g (eq_fin t (suc n) d) e q))
    (λ n. omega (arith, n))
    (same_or_not (key x) (key (fin t (suc n) d)))
past_of x (fin t zero d) f g h e = ⊎_elim
    (λ q. absurd (differ x (fin true 0 (pos 0)) (fin t 0 d) f (zero-fits true) (eq_zeros true t (pos 0) d) e (q ∙ sym minus_is)))
    (λ n. ⊎_elim
    (λ q. absurd (differ x (fin false 0 (pos 0)) (fin t 0 d) f (zero-fits false) (eq_zeros false t (pos 0) d) e (q ∙ sym plus_is)))
    (λ k. omega (arith, n, k))
    (same_or_not (key x) plus_zero))
    (same_or_not (key x) (plus_zero - 1))

pub not_le_past : (x p : Float) → T (fits binary64 x) → T (fits binary64 p) → le x p ≡ false → past_key p ≤ key x
unfolding le
not_le_past x p f g e = past_of x p f g (not_lt_first x p f g (or_left (lt x p) (eq x p) e)) (or_right (lt x p) (eq x p) e)

-- what equals 0 is a zero
pub only_zeros : (P : Float → Type 0) → ((s : Bool) (d : ℤ) → P (fin s 0 d)) → (v : Float) → eq v (fin false 0 (pos 0)) ≡ true → P v
unfolding eq
only_zeros P h nan e = true_not_false false e refl
only_zeros P h (inf s) e = true_not_false false e refl
only_zeros P h (fin s m k) e =
    subst (λ (z : ℕ). P (fin s z k)) (sym (no_units m k (pos 0) (level_size s false (m * up k * 1) (0 * 1 * down k) e ∙ nothing (pos 0) k))) (h s k)
