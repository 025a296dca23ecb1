-- What rows add: one row more (`gathered-more`); rows of zeros add nothing (`zeros_add`); what holds of each magnitude's term holds of each addend
-- (`gathered_each`); tests that agree gather the same (`gathered_ext`), and rows that do not belong add nothing (`gathered_part`).
use mathlib.Core.Path.{◌≡◌, refl, sym, ap, ◌∙◌}
use mathlib.Core.Bool.{Bool, true, false}
use mathlib.Core.List.{List, [], ◌∷◌, ◌++◌, append_assoc, append-nil}
use Prim.Native.Nat.{ℕ, zero, suc, ◌+◌, ◌-◌, ◌*◌, ◌≤◌, ◌<◌}
use native.Mathlib.Nat.{min-le_left}
use native.Mathlib.Omega.{arith}
use lib.Dec.{T}
use lib.ListN.{length, get_or, drop, length-append, length-take}
use lib.Ieee.{Float, nan, binary64, fits}
use Rattle.numbers.specs.Rounded.{◌⊕◌, nought, pick, sum_from}
use Rattle.numbers.specs.Lists.{row, every}
use Rattle.numbers.proofs.Tests.{and_left, and_right}
use Rattle.numbers.proofs.Overs.{every-row}
use Rattle.sizes.specs.Sizes.{Plus, Each, none, more}
use Rattle.sizes.proofs.Exact.{add-nought}
use Rattle.feature_bins.specs.Bins.{bin_count}
use Rattle.feature_lanes.specs.Addends.{strength_fine, addends, gathered}
use Rattle.feature_sums.specs.Lanes.{all}

length_row_most : (m : List Float) (b t : ℕ) → length (row m b t) ≤ b
unfolding row
length_row_most m b t = rw (length-take b (drop (t * b) m)) (min-le_left b (length (drop (t * b) m)))

module _ (term : Float → Float) (bin : ℕ → Bool) where
  -- ---- rows

  pub gathered-more : (belongs : ℕ → Bool) (m : List Float) (n t : ℕ) → belongs (t + n) ≡ true
      → gathered term bin belongs m t (n + 1) ≡ gathered term bin belongs m t n ++ addends term bin 0 (row m bin_count (t + n))
  unfolding gathered
  gathered-more belongs m zero t h =
      let e : t + 0 ≡ t = omega arith in
      rw (e, ap belongs (sym e) ∙ h) (append-nil (addends term bin 0 (row m bin_count t)))
  gathered-more belongs m (suc n) t h =
      let e : t + suc n ≡ suc t + n = omega arith in
      let z : suc n + 1 ≡ suc (n + 1) = omega arith in
      let head = pick (belongs t) (addends term bin 0 (row m bin_count t)) [] in
      ap (gathered term bin belongs m t) z
      ∙ ap (λ (r : List Float). head ++ r) (gathered-more belongs m n (suc t) (ap belongs (sym e) ∙ h))
      ∙ sym (append_assoc head (gathered term bin belongs m (suc t) n) (addends term bin 0 (row m bin_count (suc t + n))))
      ∙ ap (λ (j : ℕ). (head ++ gathered term bin belongs m (suc t) n) ++ addends term bin 0 (row m bin_count j)) (sym e)

  -- zeros add nothing
  pub zeros_add : (xs : List Float) (k : ℕ) (acc : Float) → term nought ≡ nought → T (fits binary64 acc) → Plus acc
      → ((i : ℕ) → i < length xs → get_or xs i nan ≡ nought) → sum_from acc (addends term bin k xs) ≡ acc
  unfolding addends sum_from
  zeros_add [] k acc e f p z = refl
  zeros_add (x ∷ xs) k acc e f p z = go (bin k) (zeros_add xs (suc k) acc e f p (λ i h. z (suc i) (omega arith)))
    where
      here : acc ⊕ term x ≡ acc
      here = ap (λ (y : Float). acc ⊕ term y) (z 0 (omega arith)) ∙ ap (λ (y : Float). acc ⊕ y) e ∙ add-nought binary64 f p

      go : (b : Bool) → sum_from acc (addends term bin (suc k) xs) ≡ acc
          → sum_from acc (pick b (term x ∷ addends term bin (suc k) xs) (addends term bin (suc k) xs)) ≡ acc
      go true rest = ap (λ (y : Float). sum_from y (addends term bin (suc k) xs)) here ∙ rest
      go false rest = rest

  -- ---- each addend

  module _ (Q : Float → Type 0) (q : (x : Float) → strength_fine x ≡ true → Q (term x)) where
    addends_each : (xs : List Float) (k : ℕ) → every strength_fine xs ≡ true → Each Q (addends term bin k xs)
    unfolding addends every
    addends_each [] k h = none
    addends_each (x ∷ xs) k h = go (bin k) (addends_each xs (suc k) (and_right (strength_fine x) (every strength_fine xs) h))
      where
        go : (b : Bool) → Each Q (addends term bin (suc k) xs) → Each Q (pick b (term x ∷ addends term bin (suc k) xs) (addends term bin (suc k) xs))
        go true rest = more (q x (and_left (strength_fine x) (every strength_fine xs) h)) rest
        go false rest = rest

    each_append : {xs ys : List Float} → Each Q xs → Each Q ys → Each Q (xs ++ ys)
    each_append none k = k
    each_append (more a h) k = more a (each_append h k)

    pub gathered_each : (belongs : ℕ → Bool) (m : List Float) (n t : ℕ) → every strength_fine m ≡ true → Each Q (gathered term bin belongs m t n)
    unfolding gathered
    gathered_each belongs m zero t h = none
    gathered_each belongs m (suc n) t h = each_append (go (belongs t)) (gathered_each belongs m n (suc t) h)
      where
        go : (b : Bool) → Each Q (pick b (addends term bin 0 (row m bin_count t)) [])
        go true = addends_each (row m bin_count t) 0 (every-row strength_fine m bin_count t h)
        go false = none

  -- ---- how many

  addends-length : (xs : List Float) (k : ℕ) → length (addends term bin k xs) ≤ length xs
  unfolding addends
  addends-length [] k = omega arith
  addends-length (x ∷ xs) k = go (bin k) (addends-length xs (suc k))
    where
      go : (b : Bool) → length (addends term bin (suc k) xs) ≤ length xs
          → length (pick b (term x ∷ addends term bin (suc k) xs) (addends term bin (suc k) xs)) ≤ suc (length xs)
      go true h = omega arith
      go false h = omega arith

  pub gathered-length : (belongs : ℕ → Bool) (m : List Float) (n t : ℕ) → length (gathered term bin belongs m t n) ≤ n * bin_count
  unfolding gathered
  gathered-length belongs m zero t = omega arith
  gathered-length belongs m (suc n) t =
      let h = gathered-length belongs m n (suc t) in
      let e = length-append (pick (belongs t) (addends term bin 0 (row m bin_count t)) []) (gathered term bin belongs m (suc t) n) in
      let k = go (belongs t) in
      omega arith
    where
      go : (b : Bool) → length (pick b (addends term bin 0 (row m bin_count t)) []) ≤ bin_count
      go true = omega (arith, addends-length (row m bin_count t) 0, length_row_most m bin_count t)
      go false = omega arith

-- ---- tests that agree

addends_ext : (term : Float → Float) (bin bin' : ℕ → Bool) (n : ℕ) (xs : List Float) (k : ℕ) → k + length xs ≤ n → ((j : ℕ) → j < n → bin j ≡ bin' j)
    → addends term bin k xs ≡ addends term bin' k xs
unfolding addends
addends_ext term bin bin' n [] k h same = refl
addends_ext term bin bin' n (x ∷ xs) k h same =
    rw (same k (omega arith), addends_ext term bin bin' n xs (suc k) (omega arith) same)

pub gathered_ext : (term : Float → Float) (bin bin' belongs belongs' : ℕ → Bool) (m : List Float) (n t : ℕ)
    → ((j : ℕ) → j < bin_count → bin j ≡ bin' j) → ((u : ℕ) → t ≤ u → u < t + n → belongs u ≡ belongs' u)
    → gathered term bin belongs m t n ≡ gathered term bin' belongs' m t n
unfolding gathered
gathered_ext term bin bin' belongs belongs' m zero t same same' = refl
gathered_ext term bin bin' belongs belongs' m (suc n) t same same' =
    rw (
      same' t (omega arith) (omega arith),
      addends_ext term bin bin' bin_count (row m bin_count t) 0 (omega (arith, length_row_most m bin_count t)) same,
      gathered_ext term bin bin' belongs belongs' m n (suc t) same (λ u a b. same' u (omega arith) (omega arith)),
    )

-- ---- rows that do not belong

module _ (term : Float → Float) (bin belongs : ℕ → Bool) (m : List Float) where
  gathered_none : (n t : ℕ) → ((u : ℕ) → t ≤ u → u < t + n → belongs u ≡ false) → gathered term bin belongs m t n ≡ []
  unfolding gathered
  gathered_none zero t h = refl
  gathered_none (suc n) t h = rw (h t (omega arith) (omega arith)) (gathered_none n (suc t) (λ u a b. h u (omega arith) (omega arith)))

  gathered_split : (n k t : ℕ) → gathered term bin belongs m t (n + k) ≡ gathered term bin belongs m t n ++ gathered term bin belongs m (t + n) k
  unfolding gathered
  gathered_split zero k t = let e : t + 0 ≡ t = omega arith in let z : 0 + k ≡ k = omega arith in rw (e, z)
  gathered_split (suc n) k t =
      let e : t + suc n ≡ suc t + n = omega arith in
      let z : suc n + k ≡ suc (n + k) = omega arith in
      let head = pick (belongs t) (addends term bin 0 (row m bin_count t)) [] in
      ap (λ (j : ℕ). gathered term bin belongs m t j) z
      ∙ ap (λ (r : List Float). head ++ r) (gathered_split n k (suc t))
      ∙ sym (append_assoc head (gathered term bin belongs m (suc t) n) (gathered term bin belongs m (suc t + n) k))
      ∙ ap (λ (j : ℕ). (head ++ gathered term bin belongs m (suc t) n) ++ gathered term bin belongs m j k) (sym e)

  -- of all rows those from row t up to row u alone belong
  pub gathered_part : (rows t u : ℕ) → t ≤ u → u ≤ rows → ((v : ℕ) → v < t → belongs v ≡ false) → ((v : ℕ) → t ≤ v → v < u → belongs v ≡ true)
      → ((v : ℕ) → u ≤ v → v < rows → belongs v ≡ false)
      → gathered term bin belongs m 0 rows ≡ gathered term bin all m t (u - t)
  gathered_part rows t u h k before inside after =
      let e : t + (u - t + (rows - u)) ≡ rows = omega arith in
      let z : 0 + t ≡ t = omega arith in
      let w : t + (u - t) ≡ u = omega arith in
      let middle = gathered term bin belongs m t (u - t) in
      ap (gathered term bin belongs m 0) (sym e)
      ∙ gathered_split t (u - t + (rows - u)) 0
      ∙ ap (λ (r : List Float). r ++ gathered term bin belongs m (0 + t) (u - t + (rows - u))) (gathered_none t 0 (λ v a b. before v (omega arith)))
      ∙ ap (λ (j : ℕ). gathered term bin belongs m j (u - t + (rows - u))) z
      ∙ gathered_split (u - t) (rows - u) t
      ∙ ap (λ (j : ℕ). middle ++ gathered term bin belongs m j (rows - u)) w
      ∙ ap (λ (r : List Float). middle ++ r) (gathered_none (rows - u) u (λ v a b. after v a (omega arith)))
      ∙ append-nil middle
      ∙ gathered_ext term bin bin belongs all m (u - t) t (λ j a. refl) (λ v a b. inside v a (omega arith))
