-- The two rows that are kept, and a slab with one row more. Assumes nothing.
use mathlib.Core.Path.{◌≡◌, refl, sym, ap, ◌∙◌}
use mathlib.Core.Bool.{Bool, true, false, ◌&&◌}
use mathlib.Core.List.{List, [], ◌∷◌, ◌++◌, append-nil}
use Prim.Native.Nat.{ℕ, zero, suc, ◌+◌, ◌-◌, ◌*◌, ◌≤◌, ◌<◌, min}
use native.Mathlib.Omega.{arith}
use lib.Ieee.{Float}
use lib.ListN.{length, take, drop, length-drop, length-append, drop_of_length-le}
use lib.Seq.{paste, drop_at, take_at, take_all, take-append-le, drop-append-le}
use Rattle.numbers.proofs.Overs.{row_end}
use Rattle.numbers.specs.Limits.{slab_of}
use Rattle.numbers.specs.Lists.{row, every}
use Rattle.numbers.specs.Rounded.{sum_of}
use Rattle.flux.proofs.Fluxes.{flux-from, flux-same, flux-first}
use Rattle.flux.specs.Flux.{rises, flux_at}
use Rattle.report_npy.specs.Values.{row_read}
use Rattle.report.specs.Input.{values_of}
use Rattle.report.proofs.Values.{row-values}

-- ---- the second of two rows becomes the first

-- as `copy_within` leaves them
pub row-moved : (was : List Float) (bins : ℕ) → length was ≡ 2 * bins → paste was 0 (drop bins was) (2 * bins - bins) ≡ drop bins was ++ drop bins was
row-moved was bins e =
    let d = drop bins was in
    let n : 2 * bins - bins ≡ bins = omega arith in
    let z : 0 + bins ≡ bins = omega arith in
    let l : length d ≤ bins = simp length-drop (omega arith) in
    ap (paste was 0 d) n
    ∙ ap (λ (r : List Float). r ++ drop (0 + bins) was) (take_all bins d l)
    ∙ ap (λ (k : ℕ). d ++ drop k was) z

-- the row of these bytes is read behind it
pub kept_put : (kept whole ys : List Float) (bytes : List ℕ) (bins : ℕ) → length kept ≡ 2 * bins → length bytes ≡ bins * 4
    → whole ≡ drop bins kept ++ drop bins kept → ys ≡ row_read bytes (take (length whole - bins) (drop bins whole))
    → take bins whole ++ (ys ++ drop (length whole - bins) (drop bins whole)) ≡ drop bins kept ++ values_of bytes
kept_put kept whole ys bytes bins e h w y =
    let d = drop bins kept in
    let l : length d ≡ bins = simp length-drop (omega arith) in
    let n : length whole - bins ≡ bins = omega (arith, ap length w ∙ length-append d d) in
    let back : drop bins whole ≡ d = ap (drop bins) w ∙ drop_at d d bins l in
    let part : take (length whole - bins) (drop bins whole) ≡ d = ap (take (length whole - bins)) back ∙ take_all (length whole - bins) d (omega arith) in
    let rest : drop (length whole - bins) (drop bins whole) ≡ [] = ap (drop (length whole - bins)) back
    ∙ drop_of_length-le d {i = length whole - bins} (omega arith) in
    let row : ys ≡ values_of bytes = y ∙ ap (row_read bytes) part ∙ row-values bytes d bins h l in
    ap (λ (x : List Float). x ++ (ys ++ drop (length whole - bins) (drop bins whole))) (ap (take bins) w ∙ take_at d d bins l)
    ∙ ap (λ (x : List Float). d ++ (ys ++ x)) rest
    ∙ ap (λ (x : List Float). d ++ x) (append-nil ys ∙ row)

-- the second of two rows
pub kept_part : (whole d v : List Float) (bins : ℕ) → length d ≡ bins → length v ≡ bins → whole ≡ d ++ v
    → take (length whole - bins) (drop bins whole) ≡ v
kept_part whole d v bins l m w =
    let n : length whole - bins ≡ bins = omega (arith, ap length w ∙ length-append d v) in
    ap (take (length whole - bins)) (ap (drop bins) w ∙ drop_at d v bins l) ∙ take_all (length whole - bins) v (omega arith)

-- ---- a slab with one row more

every_both : {A : Type 0} (p : A → Bool) (s t : List A) → every p (s ++ t) ≡ (every p s && every p t)
unfolding every
every_both p [] t = refl
every_both {A} p (x ∷ s) t = go (p x) (every_both p s t)
  where
    go : (b : Bool) → every p (s ++ t) ≡ (every p s && every p t) → (b && every p (s ++ t)) ≡ ((b && every p s) && every p t)
    go true h = h
    go false h = refl

module _ {A : Type 0} (s v : List A) (b : ℕ) where
  -- the rows before it stay
  pub row-front : (u : ℕ) → u * b + b ≤ length s → row (s ++ v) b u ≡ row s b u
  unfolding row
  row-front u h =
      let k : b ≤ length (drop (u * b) s) = simp length-drop (omega arith) in
      ap (take b) (drop-append-le (u * b) s v (omega arith)) ∙ take-append-le b (drop (u * b) s) v k

  -- the last row is the one behind them
  pub row-behind : (t : ℕ) → length s ≡ t * b → length v ≡ b → row (s ++ v) b t ≡ v
  unfolding row
  row-behind t e f = ap (take b) (drop_at s v (t * b) e) ∙ take_all b v (omega arith)

  -- the first of two rows
  pub row_first : length s ≡ b → row (s ++ v) b 0 ≡ s
  unfolding row
  row_first e =
      let z : 0 * b ≡ 0 = omega arith in
      ap (λ (k : ℕ). take b (drop k (s ++ v))) z ∙ take_at s v b e

-- a slot is the same however many rows its slab has
pub any_rows : (s : List Float) (m n b t : ℕ) → flux_at s (slab_of m b) t ≡ flux_at s (slab_of n b) t
unfolding flux_at
any_rows s m n b zero = refl
any_rows s m n b (suc t) = refl

-- the flux of the row behind, from it and the row before it alone
pub kept-flux : (slab kept v : List Float) (b t : ℕ) → length slab ≡ t * b → length kept ≡ b → length v ≡ b
    → (0 < t → kept ≡ row slab b (t - 1)) → flux_at (kept ++ v) (slab_of 2 b) (min t 1) ≡ flux_at (slab ++ v) (slab_of (t + 1) b) t
kept-flux slab kept v b zero e k l last =
    let z : min 0 1 ≡ 0 = omega arith in
    ap (flux_at (kept ++ v) (slab_of 2 b)) z ∙ flux-first (kept ++ v) (slab_of 2 b) ∙ sym (flux-first (slab ++ v) (slab_of 1 b))
kept-flux slab kept v b (suc t) e k l last =
    let z : min (suc t) 1 ≡ 1 = omega arith in
    let u : suc t - 1 ≡ t = omega arith in
    let one : length kept ≡ 1 * b = omega arith in
    let first : row (kept ++ v) b 0 ≡ row (slab ++ v) b t
    = row_first kept v b k ∙ last (omega arith) ∙ ap (row slab b) u ∙ sym (row-front slab v b t (omega (arith, row_end t (suc t) b (omega arith)))) in
    let second : row (kept ++ v) b 1 ≡ row (slab ++ v) b (suc t) = row-behind kept v b 1 one l ∙ sym (row-behind slab v b (suc t) e l) in
    ap (flux_at (kept ++ v) (slab_of 2 b)) z
    ∙ flux-from (kept ++ v) (slab_of 2 b) 0 1 (omega arith)
    ∙ ap (λ (r : List Float). sum_of (rises r (row (kept ++ v) b 1))) first
    ∙ ap (λ (r : List Float). sum_of (rises (row (slab ++ v) b t) r)) second
    ∙ sym (flux-from (slab ++ v) (slab_of (suc t + 1) b) t (suc t) (omega arith))

-- the slots before it stay
pub flux-before : (slab v : List Float) (b t : ℕ) → length slab ≡ t * b → (u : ℕ) → u < t
    → flux_at (slab ++ v) (slab_of (t + 1) b) u ≡ flux_at slab (slab_of t b) u
flux-before slab v b t e u h =
    flux-same slab (slab ++ v) (slab_of (t + 1) b) u
    (row-front slab v b (u - 1) (omega (arith, row_end (u - 1) t b (omega arith))))
    (row-front slab v b u (omega (arith, row_end u t b h)))
    ∙ any_rows slab (t + 1) t b u

pub every_more : {A : Type 0} (p : A → Bool) (s t : List A) (fine : Bool) → fine ≡ every p s → (fine && every p t) ≡ every p (s ++ t)
every_more p s t fine e = ap (λ (b : Bool). b && every p t) e ∙ sym (every_both p s t)
