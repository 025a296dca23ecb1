-- A property of each entry of a list: of its parts, of a list made by a rule, and from a test of every entry. Assumes nothing.
use mathlib.Core.Path.{◌≡◌, refl}
use mathlib.Core.Bool.{Bool, true}
use mathlib.Core.List.{List, [], ◌∷◌, ◌++◌, map}
use Prim.Native.Nat.{ℕ, zero, suc, ◌+◌, ◌-◌, ◌*◌, ◌≤◌, ◌<◌, min}
use native.Mathlib.Nat.{not-suc-le-zero, le_of_suc-le-suc}
use native.Mathlib.Omega.{arith}
use lib.ListN.{length, get_or, take, drop}
use lib.Ieee.{Float}
use Rattle.numbers.specs.Lists.{tab, every, row, around}
use Rattle.numbers.specs.Limits.{magnitude_fine, value_fine, similarity_fine}
use Rattle.numbers.proofs.Tests.{and_left, and_right, and_both}
use Rattle.sizes.specs.Sizes.{AtMost, Within, Each, none, more}
use Rattle.sizes.proofs.Tests.{magnitude_within, within_magnitude, value-within, within-value, similarity-most, most-similarity}

module _ {A : Type 0} {P : A → Type 0} where
  pub each_head : {x : A} {xs : List A} → Each P (x ∷ xs) → P x
  each_head (more h k) = h

  pub each_tail : {x : A} {xs : List A} → Each P (x ∷ xs) → Each P xs
  each_tail (more h k) = k

  pub each_at : {xs : List A} (i : ℕ) (z : A) → Each P xs → i < length xs → P (get_or xs i z)
  each_at i z none l = absurd (not-suc-le-zero l)
  each_at zero z (more h k) l = h
  each_at (suc i) z (more h k) l = each_at i z k (le_of_suc-le-suc l)

  pub each_by : (xs : List A) (z : A) → ((i : ℕ) → i < length xs → P (get_or xs i z)) → Each P xs
  each_by [] z h = none
  each_by (x ∷ xs) z h = more (h 0 (omega arith)) (each_by xs z (λ i l. h (suc i) (omega arith)))

  pub each_tab : (f : ℕ → A) (s n : ℕ) → ((i : ℕ) → s ≤ i → i < s + n → P (f i)) → Each P (tab f s n)
  each_tab f s zero h = none
  each_tab f s (suc n) h = more (h s (omega arith) (omega arith)) (each_tab f (suc s) n (λ i a b. h i (omega arith) (omega arith)))

  pub each_append : {xs ys : List A} → Each P xs → Each P ys → Each P (xs ++ ys)
  each_append none k = k
  each_append (more h r) k = more h (each_append r k)

  pub each_take : {xs : List A} (n : ℕ) → Each P xs → Each P (take n xs)
  each_take zero h = none
  each_take (suc n) none = none
  each_take (suc n) (more {xs = xs} h k) = more h (each_take {xs = xs} n k)

  pub each_drop : {xs : List A} (n : ℕ) → Each P xs → Each P (drop n xs)
  each_drop zero h = h
  each_drop (suc n) none = none
  each_drop (suc n) (more {xs = xs} h k) = each_drop {xs = xs} n k

  pub each_row : {s : List A} (b t : ℕ) → Each P s → Each P (row s b t)
  unfolding row
  each_row b t h = each_take b (each_drop (t * b) h)

  pub each_around : {c : List A} (w t : ℕ) → Each P c → Each P (around w c t)
  unfolding around
  each_around {c} w t h = each_drop (t - w) (each_take (min (t + w + 1) (length c)) h)

pub each_map : {A : Type 0} {P Q : A → Type 0} {xs : List A} → ((x : A) → P x → Q x) → Each P xs → Each Q xs
each_map f none = none
each_map f (more {x = x} h k) = more (f x h) (each_map f k)

pub each_image : {A B : Type 0} {P : A → Type 0} {Q : B → Type 0} {xs : List A} (g : A → B) → ((x : A) → P x → Q (g x)) → Each P xs → Each Q (map g xs)
each_image g f none = none
each_image g f (more {x = x} h k) = more (f x h) (each_image g f k)

-- ---- a test of every entry

pub every_each : {A : Type 0} (p : A → Bool) (P : A → Type 0) → ((x : A) → p x ≡ true → P x) → (xs : List A) → every p xs ≡ true → Each P xs
unfolding every
every_each p P f [] e = none
every_each p P f (x ∷ xs) e = more (f x (and_left (p x) (every p xs) e)) (every_each p P f xs (and_right (p x) (every p xs) e))

pub each_every : {A : Type 0} (p : A → Bool) (P : A → Type 0) → ((x : A) → P x → p x ≡ true) → {xs : List A} → Each P xs → every p xs ≡ true
unfolding every
each_every p P f none = refl
each_every p P f (more {x = x} {xs = xs} h k) = and_both (p x) (every p xs) (f x h) (each_every p P f k)

pub magnitudes-within : (xs : List Float) → every magnitude_fine xs ≡ true → Each (Within 126) xs
magnitudes-within xs e = every_each magnitude_fine (Within 126) magnitude_within xs e

pub within-magnitudes : {xs : List Float} → Each (Within 126) xs → every magnitude_fine xs ≡ true
within-magnitudes h = each_every magnitude_fine (Within 126) (λ x. within_magnitude) h

pub values-within : (xs : List Float) → every value_fine xs ≡ true → Each (Within 150) xs
values-within xs e = every_each value_fine (Within 150) value-within xs e

pub within-values : {xs : List Float} → Each (Within 150) xs → every value_fine xs ≡ true
within-values h = each_every value_fine (Within 150) (λ x. within-value) h

pub similarities_most : (xs : List Float) → every similarity_fine xs ≡ true → Each (AtMost 1) xs
similarities_most xs e = every_each similarity_fine (AtMost 1) similarity-most xs e

pub most_similarities : {xs : List Float} → Each (AtMost 1) xs → every similarity_fine xs ≡ true
most_similarities h = each_every similarity_fine (AtMost 1) (λ x. most-similarity) h
