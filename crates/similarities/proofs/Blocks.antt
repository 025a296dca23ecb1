-- A block of rows, turned, and the slots of a row from its block.
use mathlib.Core.Path.{◌≡◌, refl, sym, ap, ◌∙◌}
use mathlib.Core.Bool.{Bool, true, false, ◌||◌}
use mathlib.Core.List.{List}
use mathlib.Core.Logic.{◌⊎◌, inl, inr}
use Prim.Native.Nat.{ℕ, ◌+◌, ◌-◌, ◌*◌, ◌/◌, ◌%◌, ◌≤◌, ◌<◌, min}
use native.Mathlib.Omega.{arith}
use lib.ListN.{length, get_or, replicate, length-replicate, get_or-replicate}
use lib.Seq.{ext_get_or}
use lib.Ieee.{Float, nan, of_bits}
use Rattle.numbers.specs.Rounded.{◌⊗◌, ◌⊘◌, nought}
use Rattle.numbers.specs.Lists.{filled}
use Rattle.numbers.proofs.Tests.{lt_or_le, pick_true}
use Rattle.numbers.proofs.Overs.{length-row, get_or-row}
use Rattle.numbers.proofs.Tabs.{get_or-curve, filled_ext, get_or_filled_in, get_or_filled_high}
use Rattle.roots.specs.Roots.{sqrt_of}
use Rattle.roots.proofs.Roots.{sqrt_of_nought}
use Rattle.row_pairs.specs.Pairs.{feature_row, dot_of, norm_of, is_zero, settled, slot_at, similarity_at}
use Rattle.similarities.specs.Lanes.{turned_at, turned_column, square_at, root_at, Block, lane_quotient, settled_from}
use Rattle.row_pairs.proofs.Slots.{slot_past, slot_of_lem, norm-is, slot_at_lem}

-- ---- a block of rows, turned

pub turned-is : (features : List Float) (first r k : ℕ) → r < 128 → turned_at features first (k * 128 + r) ≡ get_or features ((first + r) * 16 + k) nan
unfolding turned_at
turned-is features first r k h =
    let e : (first + (k * 128 + r) % 128) * 16 + (k * 128 + r) / 128 ≡ (first + r) * 16 + k = omega arith in
    ap (λ (p : ℕ). get_or features p nan) e

pub length-column : (turned : List Float) (r : ℕ) → length (turned_column turned r) ≡ 16
unfolding turned_column
length-column turned r = refl

pub get_or-column : (turned : List Float) (r k : ℕ) → k < 16 → get_or (turned_column turned r) k nan ≡ get_or turned (k * 128 + r) nan
unfolding turned_column
get_or-column turned r k h = get_or-curve (λ k. get_or turned (k * 128 + r) nan) 16 k nan h

-- a block made: the values turned, then the sums of the squares over zeros, then the norms over any array
pub block_made : (features : List Float) (first count : ℕ) (turned squares norms was : List Float) → count ≤ 128 → length was ≡ 128
    → ((r k : ℕ) → r < count → k < 16 → get_or turned (k * 128 + r) nan ≡ get_or features ((first + r) * 16 + k) nan)
    → squares ≡ filled (square_at features first) (replicate 128 nought) 0 count
    → norms ≡ filled (root_at squares) was 0 128
    → Block features first count turned squares norms
unfolding root_at
block_made features first count turned squares norms was few m t s n =
    let z : length (replicate 128 nought) ≡ 128 = length-replicate 128 nought in
    record {
      column = t;
      square = λ r h.
          ap (λ (x : List Float). get_or x r nan) s
          ∙ get_or_filled_in (square_at features first) (replicate 128 nought) 0 count (omega arith) (omega arith) r nan (omega arith) h;
      none = λ r h out.
          ap (λ (x : List Float). get_or x r nan) s
          ∙ get_or_filled_high (square_at features first) (replicate 128 nought) 0 count (omega arith) (omega arith) r nan out
          ∙ get_or-replicate 128 r nought nan h;
      norm = λ r h.
          ap (λ (x : List Float). get_or x r nan) n
          ∙ get_or_filled_in (root_at squares) was 0 128 (omega arith) (omega arith) r nan (omega arith) h;
    }

-- ---- the slots of a row from its block

or-true : (b : Bool) → (b || true) ≡ true
or-true true = refl
or-true false = refl

-- +0 where the second norm is
settled-none : (quotient norm : Float) → settled quotient norm nought ≡ nought
unfolding settled is_zero of_bits
settled-none quotient norm = pick_true _ _ _ (or-true (is_zero norm))

module _ (features : List Float) (rows first : ℕ) (turned squares norms : List Float) (whole : length features ≡ rows * 16)
    (b : Block features first (min 128 (rows - first)) turned squares norms) where
  -- a row of the block that there is: its values and its norm
  module _ (r : ℕ) (in_block : r < 128) (there : first + r < rows) where
    held-row : r < min 128 (rows - first)
    held-row = omega arith

    pub column-is : turned_column turned r ≡ feature_row features (first + r)
    column-is =
        ext_get_or nan (turned_column turned r) (feature_row features (first + r))
        (length-column turned r ∙ sym (length-row features rows 16 (first + r) whole there))
        (λ k h.
        let h' : k < 16 = omega (arith, length-column turned r) in
        get_or-column turned r k h' ∙ b.column r k held-row h' ∙ sym (get_or-row features 16 (first + r) k nan h'))

    pub own_square : get_or squares r nan ≡ dot_of (feature_row features (first + r)) (feature_row features (first + r))
    unfolding square_at
    own_square = b.square r held-row

    pub own_norm : get_or norms r nan ≡ norm_of (feature_row features (first + r))
    own_norm = b.norm r in_block ∙ ap sqrt_of own_square ∙ norm-is (feature_row features (first + r))

  -- past the last row the norm is 0
  no_norm : (r : ℕ) → r < 128 → rows ≤ first + r → get_or norms r nan ≡ nought
  no_norm r h k = b.norm r h ∙ ap sqrt_of (b.none r h (omega arith)) ∙ sqrt_of_nought

  -- the slots of the row in column c, from its seventeen dot products
  module _ (c d : ℕ) (few : c < 112) (there : first + c < rows) (band : d < 17) (sums : List Float)
      (own : get_or sums 0 nan ≡ get_or squares c nan)
      (others : (e : ℕ) → 0 < e → e < 17 → get_or sums e nan ≡ dot_of (feature_row features (first + c)) (turned_column turned (c + e))) where
    its_dot : first + c + d < rows → get_or sums d nan ≡ dot_of (feature_row features (first + c)) (feature_row features (first + c + d))
    its_dot h = go (lt_or_le 0 d)
      where
        go : (0 < d) ⊎ (d ≤ 0) → get_or sums d nan ≡ dot_of (feature_row features (first + c)) (feature_row features (first + c + d))
        go (inl p) =
            let e : first + (c + d) ≡ first + c + d = omega arith in
            others d p band
            ∙ ap (dot_of (feature_row features (first + c))) (column-is (c + d) (omega arith) (omega arith) ∙ ap (feature_row features) e)
        go (inr p) =
            let z : d ≡ 0 = omega arith in
            let e : first + c ≡ first + c + d = omega arith in
            ap (λ (k : ℕ). get_or sums k nan) z ∙ own ∙ own_square c (omega arith) there
            ∙ ap (λ (k : ℕ). dot_of (feature_row features (first + c)) (feature_row features k)) e

    pub block_slot : settled (get_or sums d nan ⊘ (get_or norms c nan ⊗ get_or norms (c + d) nan)) (get_or norms c nan) (get_or norms (c + d) nan)
        ≡ slot_at features rows (first + c) d
    block_slot = go (lt_or_le (first + c + d) rows)
      where
        go : (first + c + d < rows) ⊎ (rows ≤ first + c + d)
            → settled (get_or sums d nan ⊘ (get_or norms c nan ⊗ get_or norms (c + d) nan)) (get_or norms c nan) (get_or norms (c + d) nan) ≡ slot_at features
            rows (first + c) d
        go (inl h) =
            let e : first + (c + d) ≡ first + c + d = omega arith in
            slot_of_lem features rows (first + c) d h (get_or sums d nan) (get_or norms c nan) (get_or norms (c + d) nan) (its_dot h)
            (own_norm c (omega arith) there)
            (own_norm (c + d) (omega arith) (omega arith) ∙ ap (λ (k : ℕ). norm_of (feature_row features k)) e)
        go (inr h) =
            ap (λ (n : Float). settled (get_or sums d nan ⊘ (get_or norms c nan ⊗ n)) (get_or norms c nan) n) (no_norm (c + d) (omega arith) (omega arith))
            ∙ settled-none _ _ ∙ sym (slot_past features rows (first + c) d h)

  -- all seventeen, laid out
  pub row-slots : (i c : ℕ) → first + c ≡ i → c < 112 → i < rows → (sums quotients : List Float) → length sums ≡ 17
      → get_or sums 0 nan ≡ get_or squares c nan
      → ((e : ℕ) → 0 < e → e < 17 → get_or sums e nan ≡ dot_of (feature_row features i) (turned_column turned (c + e)))
      → quotients ≡ filled (lane_quotient sums norms c) sums 0 17
      → (d : List Float) → filled (settled_from quotients norms c (i * 17)) d (i * 17) (i * 17 + 17) ≡ filled (similarity_at features rows) d (i * 17)
      (i * 17 + 17)
  unfolding settled_from lane_quotient
  row-slots i c place few there sums quotients m own others q d =
      filled_ext (settled_from quotients norms c (i * 17)) (similarity_at features rows) d (i * 17) (i * 17 + 17)
      (λ k low high.
      let e = k - i * 17 in
      let e-in : e < 17 = omega arith in
      let back : i * 17 + e ≡ k = omega arith in
      let there' : first + c < rows = omega arith in
      let value : get_or quotients e nan ≡ get_or sums e nan ⊘ (get_or norms c nan ⊗ get_or norms (c + e) nan) =
      ap (λ (x : List Float). get_or x e nan) q
      ∙ get_or_filled_in (lane_quotient sums norms c) sums 0 17 (omega arith) (omega arith) e nan (omega arith) e-in in
      ap (λ (x : Float). settled x (get_or norms c nan) (get_or norms (c + e) nan)) value
      ∙ block_slot c e few there' e-in sums own (λ n p r. others n p r ∙ ap (λ (j : ℕ). dot_of (feature_row features j) (turned_column turned (c + n)))
      (sym place))
      ∙ ap (λ (j : ℕ). slot_at features rows j e) place
      ∙ sym (slot_at_lem features rows i e e-in)
      ∙ ap (similarity_at features rows) back)
