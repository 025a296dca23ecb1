-- Several rows of the novelty curve at once.
use mathlib.Core.Path.{◌≡◌, sym, ap, ◌∙◌}
use mathlib.Core.List.{List}
use mathlib.Core.Logic.{⊎_elim}
use Prim.Native.Nat.{ℕ, ◌+◌, ◌-◌, ◌*◌, ◌≤◌, ◌<◌}
use native.Mathlib.Nat.{le_of_lt, min-eq_left, min-eq_right, max-eq_left, max-eq_right}
use native.Mathlib.Omega.{arith}
use lib.ListN.{length, get_or}
use lib.Ieee.{Float, nan}
use Rattle.numbers.specs.Rounded.{◌⊕◌, ◌⊗◌, nought}
use Rattle.numbers.specs.Lists.{filled}
use Rattle.numbers.proofs.Tests.{lt_or_le}
use Rattle.numbers.proofs.Tabs.{length-filled, get_or_filled_low, get_or_filled_in, filled_ext, filled_join}
use Rattle.kernels.specs.Kernel.{kernel_at}
use Rattle.novelties.specs.Novelty.{slot_of, likeness, add_term, add_row, novelty_at}
use Rattle.novelties.specs.Lanes.{laid_apart, Gathered, near_slot, near_term, near_row, lane_whole, lane_from}
use Rattle.novelties.proofs.Terms.{turns_same, slot_rising, slot_falling, is-inside, term_added}

-- slots i up to e more of a curve, from lanes that hold those of a block from slot s on
pub lanes_join : (f : ℕ → Float) (values d : List Float) (a s i e : ℕ) → a ≤ i → s ≤ i → i ≤ e → e ≤ s + 24 → e ≤ length d
    → ((j : ℕ) → j < 24 → get_or values j nan ≡ f (s + j))
    → filled (lane_from values s) (filled f d a i) i e ≡ filled f d a e
unfolding lane_from
lanes_join f values d a s i e h k l m n same =
    filled_ext (lane_from values s) f (filled f d a i) i e
    (λ j p q. let back : s + (j - s) ≡ j = omega arith in same (j - s) (omega arith) ∙ ap f back)
    ∙ filled_join f d a i e h l nan n

-- ---- similarities gathered by distance

-- those of one distance more
pub gathered-more : (similarity near next : List Float) (first n : ℕ) → n < 16 → Gathered similarity first n near
    → next ≡ filled (laid_apart similarity first n) near (n * 40) (n * 40 + 39) → Gathered similarity first (n + 1) next
unfolding laid_apart
gathered-more similarity near next first n h g e =
    let f : ℕ → Float = laid_apart similarity first n in
    let m : length near ≡ 640 = g.whole in
    record {
      whole = ap length e ∙ length-filled f near (n * 40) (n * 40 + 39) (omega arith) (omega arith) ∙ m;
      slots = λ d r p q.
          ap (λ (x : List Float). get_or x (d * 40 + r) nan) e ∙ ⊎_elim
          (λ (l : d < n). get_or_filled_low f near (n * 40) (n * 40 + 39) (omega arith) (omega arith) (d * 40 + r) nan (omega arith) ∙ g.slots d r l q)
          (λ (l : n ≤ d).
          let k : first + n + 17 * (d * 40 + r - n * 40) ≡ first + d + 17 * r = omega arith in
          get_or_filled_in f near (n * 40) (n * 40 + 39) (omega arith) (omega arith) (d * 40 + r) nan (omega arith) (omega arith)
          ∙ ap (λ (k : ℕ). get_or similarity k nan) k)
          (lt_or_le d n);
    }

pub near_rising : (u v : ℕ) → u ≤ v → near_slot u v ≡ (v - u) * 40 + u
unfolding near_slot
near_rising u v h = rw (min-eq_left h, max-eq_right h)

pub near_falling : (u v : ℕ) → v ≤ u → near_slot u v ≡ (u - v) * 40 + v
unfolding near_slot
near_falling u v h = rw (min-eq_right h, max-eq_left h)

-- the slots of all lanes lie inside
pub near_below : (u v : ℕ) → u < 16 → v < 16 → near_slot u v + 24 ≤ 640
near_below u v h k =
    ⊎_elim (λ (l : u < v). rw (near_rising u v (le_of_lt l)) (omega arith)) (λ (l : v ≤ u). rw (near_falling u v l) (omega arith)) (lt_or_le u v)

-- what stands there is the pair's similarity
near_value : (similarity near : List Float) (first u v j : ℕ) → Gathered similarity first 16 near → u < 16 → v < 16 → j < 24
    → get_or near (near_slot u v + j) nan ≡ get_or similarity (first + slot_of u v + 17 * j) nan
near_value similarity near first u v j g h k l =
    ⊎_elim
    (λ (m : u < v).
    let a : (v - u) * 40 + u + j ≡ (v - u) * 40 + (u + j) = omega arith in
    let b : first + (v - u) + 17 * (u + j) ≡ first + (u * 17 + (v - u)) + 17 * j = omega arith in
    rw (near_rising u v (le_of_lt m), slot_rising u v (le_of_lt m))
    (ap (λ (n : ℕ). get_or near n nan) a ∙ g.slots (v - u) (u + j) (omega arith) (omega arith) ∙ ap (λ (n : ℕ). get_or similarity n nan) b))
    (λ (m : v ≤ u).
    let a : (u - v) * 40 + v + j ≡ (u - v) * 40 + (v + j) = omega arith in
    let b : first + (u - v) + 17 * (v + j) ≡ first + (v * 17 + (u - v)) + 17 * j = omega arith in
    rw (near_falling u v m, slot_falling u v m)
    (ap (λ (n : ℕ). get_or near n nan) a ∙ g.slots (u - v) (v + j) (omega arith) (omega arith) ∙ ap (λ (n : ℕ). get_or similarity n nan) b))
    (lt_or_le u v)

-- ---- rows i to i + 23, whose kernels lie inside

module _ (similarity near : List Float) (rows i j : ℕ) (low : 8 ≤ i) (high : i + 31 ≤ rows) (lane : j < 24)
    (g : Gathered similarity ((i - 8) * 17) 16 near) where
  -- the slot of a pair, seventeen slots after that of the lane before
  lane_slot : (u v : ℕ) → u < 16 → v < 16 → slot_of (i + j + u - 8) (i + j + v - 8) ≡ (i - 8) * 17 + slot_of u v + 17 * j
  lane_slot u v at-u at-v =
      ⊎_elim
      (λ (h : u < v). rw (slot_rising u v (le_of_lt h)) (slot_rising (i + j + u - 8) (i + j + v - 8) (omega arith) ∙ omega arith))
      (λ (h : v ≤ u). rw (slot_falling u v h) (slot_falling (i + j + u - 8) (i + j + v - 8) (omega arith) ∙ omega arith))
      (lt_or_le u v)

  lane_term_lem : (u v : ℕ) → u < 16 → v < 16 → (sum : Float) → near_term near j u v sum ≡ add_term similarity rows (i + j) u v sum
  unfolding near_term likeness
  lane_term_lem u v at-u at-v sum =
      ap (λ (x : Float). sum ⊕ kernel_at u v ⊗ x)
      (near_value similarity near ((i - 8) * 17) u v j g at-u at-v lane ∙ ap (λ (n : ℕ). get_or similarity n nan) (sym (lane_slot u v at-u at-v)))
      ∙ sym (term_added similarity rows (i + j) u v sum
      (is-inside rows (i + j) u (omega arith) (omega arith))
      (is-inside rows (i + j) v (omega arith) (omega arith)))

  -- the sum of lane j is the novelty of its row
  pub lane-novelty : lane_whole near j ≡ novelty_at similarity rows (i + j)
  unfolding lane_whole near_row novelty_at add_row
  lane-novelty =
      turns_same (near_row near j) (add_row similarity rows (i + j)) 0 16 nought
      (λ u l h y. turns_same (near_term near j u) (add_term similarity rows (i + j) u) 0 16 y (λ v m k x. lane_term_lem u v (omega arith) (omega arith) x))
