-- The meter (request No. 4): the downbeats are every meter-th beat from one on, with a meter of 1 they are all beats, and with a meter of 4 they are
-- those of document 01's own rule, which is written out here once more. Assumes nothing.
use mathlib.Core.Path.{◌≡◌, refl, sym, ap, ◌∙◌}
use mathlib.Core.Bool.{Bool, true, false, ◌&&◌}
use mathlib.Core.Logic.{◌⊎◌, inl, inr, ⊎_elim}
use mathlib.Core.List.{List, [], ◌∷◌, map}
use Prim.Native.Nat.{ℕ, zero, suc, ◌+◌, ◌-◌, ◌*◌, ◌≤◌, ◌<◌, ◌/◌, ◌%◌}
use native.Mathlib.Nat.{mod-lt, div-add-mod', zero-mod, zero-mul, suc-mul, suc-add}
use native.Mathlib.Omega.{arith}
use borrow.Author.Tests.{eq-eqb, ne_eqb}
use lib.Arith.{digits_mod}
use lib.Dec.{leb}
use lib.ListN.{length, get_or}
use lib.Ieee.{Float, lt}
use Rattle.numbers.specs.Rounded.{pick, sum_of}
use Rattle.numbers.specs.Limits.{most_rows, value_fine, frame_fine}
use Rattle.numbers.specs.Refusals.{lowest}
use Rattle.numbers.specs.Lists.{every}
use Rattle.numbers.proofs.Tests.{lt_or_le, and-true}
use Rattle.options.specs.Options.{with_meter, options_fine}
use Rattle.options.specs.declared.TempoOpts.{TempoOpts}
use Rattle.lists.specs.Greatest.{greatest, first_greatest}
use Rattle.lists.specs.declared.Best.{Best}
use Rattle.lists.proofs.Greatest.{first_below, first_ext}
use Rattle.bars.specs.Downbeats.{
  downbeat_numbers_fine,
  downbeat_room_fine,
  downbeat_refusal,
  beat_flux,
  in_phase,
  phase_sum,
  downbeat_phase,
  downbeats_of,
}

-- the phase is one of 0 to meter - 1
pub phase_below : (envelope : List Float) (beats : List ℕ) (meter : ℕ) → 1 ≤ meter → downbeat_phase envelope beats meter < meter
unfolding downbeat_phase
phase_below envelope beats meter some = first_below (phase_sum envelope beats meter) meter some

-- ---- every meter-th

-- every meter-th entry of a list, after `wait` entries that are passed over
unfoldable pub strided : (meter wait : ℕ) → List ℕ → List ℕ
strided meter wait [] = []
strided meter zero (x ∷ xs) = x ∷ strided meter (meter - 1) xs
strided meter (suc wait) (x ∷ xs) = strided meter wait xs

-- entry k of them is entry wait + k·meter of the list, and there are no others: past the last, both sides are the default
pub strided_at : (meter wait : ℕ) (xs : List ℕ) (k d : ℕ) → 1 ≤ meter → get_or (strided meter wait xs) k d ≡ get_or xs (wait + k * meter) d
unfolding strided
strided_at meter wait [] k d some = refl
strided_at meter zero (x ∷ xs) zero d some =
    let none : 0 ≡ 0 + 0 * meter = omega (arith, zero-mul meter) in
    ap (λ (i : ℕ). get_or (x ∷ xs) i d) none
strided_at meter zero (x ∷ xs) (suc k) d some =
    let step : suc (meter - 1 + k * meter) ≡ zero + suc k * meter = omega (arith, suc-mul k meter) in
    strided_at meter (meter - 1) xs k d some ∙ ap (λ (i : ℕ). get_or (x ∷ xs) i d) step
strided_at meter (suc wait) (x ∷ xs) k d some =
    strided_at meter wait xs k d some ∙ ap (λ (i : ℕ). get_or (x ∷ xs) i d) (sym (suc-add wait (k * meter)))

module _ (meter phase : ℕ) (some : 1 ≤ meter) (below : phase < meter) where
  -- one place on, the remainder is one more, or begins anew
  abbrev Next : (i : ℕ) → Type 0
  Next i = ((suc i % meter ≡ suc (i % meter)) × (suc (i % meter) < meter)) ⊎ ((suc i % meter ≡ 0) × (suc (i % meter) ≡ meter))

  next_place : (i : ℕ) → Next i
  next_place i =
      let q = i / meter in
      let r = i % meter in
      let is : q * meter + r ≡ i = div-add-mod' i meter in
      ⊎_elim
      (λ (h : suc r < meter).
      let more : suc i ≡ q * meter + suc r = omega (arith, is) in
      inl (ap (λ (n : ℕ). n % meter) more ∙ digits_mod q h, h))
      (λ (h : meter ≤ suc r).
      let full : suc r ≡ meter = omega (arith, h, mod-lt i some) in
      let more : suc i ≡ suc q * meter + 0 = omega (arith, is, full, suc-mul q meter) in
      inr (ap (λ (n : ℕ). n % meter) more ∙ digits_mod (suc q) some, full)) (lt_or_le (suc r) meter)

  abbrev Waiting : (i wait : ℕ) → Type 0
  Waiting i wait = (i % meter + wait ≡ phase) ⊎ (i % meter + wait ≡ phase + meter)

  -- one place on, there is one place less to wait
  wait_less : (i wait : ℕ) → suc wait < meter → Waiting i (suc wait) → Waiting (suc i) wait
  wait_less i wait few (inl e) = by (next_place i)
    where
      by : Next i → Waiting (suc i) wait
      by (inl n) = inl (omega (arith, e, n.0))
      by (inr n) = absurd (omega (arith, e, n.1))
  wait_less i wait few (inr e) = by (next_place i)
    where
      by : Next i → Waiting (suc i) wait
      by (inl n) = inr (omega (arith, e, n.0))
      by (inr n) = inl (omega (arith, e, n.0, n.1))

  -- and where the phase is reached, all but one of the meter's
  wait_anew : (i : ℕ) → i % meter ≡ phase → Waiting (suc i) (meter - 1)
  wait_anew i e = by (next_place i)
    where
      by : Next i → Waiting (suc i) (meter - 1)
      by (inl n) = inr (omega (arith, e, n.0))
      by (inr n) = inl (omega (arith, e, n.0, n.1))

  reached : (i : ℕ) → Waiting i 0 → i % meter ≡ phase
  reached i (inl e) = omega (arith, e)
  reached i (inr e) = absurd (omega (arith, e, mod-lt i some))

  unreached : (i wait : ℕ) → suc wait < meter → Waiting i (suc wait) → i % meter ≡ phase → ⊥
  unreached i wait few (inl e) h = omega (arith, e, h)
  unreached i wait few (inr e) h = omega (arith, e, h)

  -- from place i on, where `wait` places come before the phase does
  waits : (i wait : ℕ) (xs : List ℕ) → wait < meter → Waiting i wait → in_phase meter phase i xs ≡ strided meter wait xs
  unfolding in_phase strided
  waits i wait [] few at = refl
  waits i zero (x ∷ xs) few at =
      let e = reached i at in
      rw (eq-eqb (i % meter) phase e) (ap (λ (l : List ℕ). x ∷ l) (waits (suc i) (meter - 1) xs (omega arith) (wait_anew i e)))
  waits i (suc wait) (x ∷ xs) few at =
      rw (ne_eqb (i % meter) phase (unreached i wait few at)) (waits (suc i) wait xs (omega arith) (wait_less i wait few at))

  pub phase_strided : (xs : List ℕ) → in_phase meter phase 0 xs ≡ strided meter phase xs
  phase_strided xs = waits 0 phase xs below (inl (omega (arith, zero-mod meter)))

-- The downbeats are every meter-th beat, from the one at the place of the phase on.
pub downbeats-stride : (envelope : List Float) (beats : List ℕ) (meter : ℕ) → 1 ≤ meter
    → downbeats_of envelope beats meter ≡ strided meter (downbeat_phase envelope beats meter) beats
unfolding downbeats_of
downbeats-stride envelope beats meter some =
    phase_strided meter (downbeat_phase envelope beats meter) some (phase_below envelope beats meter some) beats

-- ---- with a meter of 1 every beat is a downbeat

strided_one : (xs : List ℕ) → strided 1 0 xs ≡ xs
unfolding strided
strided_one [] = refl
strided_one (x ∷ xs) = ap (λ (l : List ℕ). x ∷ l) (strided_one xs)

pub meter_one : (envelope : List Float) (beats : List ℕ) → downbeats_of envelope beats 1 ≡ beats
meter_one envelope beats =
    let zeroth : downbeat_phase envelope beats 1 ≡ 0 = omega (arith, phase_below envelope beats 1 (omega arith)) in
    downbeats-stride envelope beats 1 (omega arith) ∙ ap (λ (p : ℕ). strided 1 p beats) zeroth ∙ strided_one beats

-- ---- document 01's rule, written out once more: it knows bars of four alone

-- every fourth beat, after `wait` beats
unfoldable pub fourths : (wait : ℕ) → List ℕ → List ℕ
fourths wait [] = []
fourths zero (beat ∷ beats) = beat ∷ fourths 3 beats
fourths (suc wait) (beat ∷ beats) = fourths wait beats

-- a phase's flux sum
abbrev pub sum_before : List Float → List ℕ → (phase : ℕ) → Float
sum_before envelope beats phase = sum_of (map (beat_flux envelope) (fourths phase beats))

-- the later of two phases where its sum is greater, and else the earlier
abbrev pub later_if_greater : (sums : ℕ → Float) (earlier later : ℕ) → ℕ
later_if_greater sums earlier later = pick (lt (sums earlier) (sums later)) later earlier

-- "of phases 0 to 3, the first with the greatest flux sum"
abbrev pub phase_before : List Float → List ℕ → ℕ
phase_before envelope beats =
    let better = later_if_greater (sum_before envelope beats) in
    better (better (better 0 1) 2) 3

abbrev pub downbeats_before : List Float → List ℕ → List ℕ
downbeats_before envelope beats = fourths (phase_before envelope beats) beats

-- what was refused: 1 for N or a listed beat, 3, 4
abbrev pub refusal_before : List Float → List ℕ → (room : ℕ) → ℕ
refusal_before envelope beats room =
    lowest (leb (length envelope) most_rows && every frame_fine beats) true (leb (length beats) room) (every value_fine envelope)

-- ---- with a meter of 4 it answers so still

strided_fourths : (wait : ℕ) (xs : List ℕ) → strided 4 wait xs ≡ fourths wait xs
unfolding strided fourths
strided_fourths wait [] = refl
strided_fourths zero (x ∷ xs) = ap (λ (l : List ℕ). x ∷ l) (strided_fourths 3 xs)
strided_fourths (suc wait) (x ∷ xs) = strided_fourths wait xs

abbrev of : (f : ℕ → Float) (k : ℕ) → Best
of f k = record { value = f k; at = k }

-- one value more: its place, where it is greater than the best so far
one_more : (f : ℕ → Float) (j k n : ℕ) → greatest f k (suc n) (of f j) ≡ greatest f (suc k) n (of f (later_if_greater f j k))
unfolding greatest
one_more f j k n = ap (greatest f (suc k) n) (by (lt (f j) (f k)))
  where
    by : (b : Bool) → pick b (of f k) (of f j) ≡ of f (pick b k j)
    by true = refl
    by false = refl

-- the first greatest of four
first_of_four : (f : ℕ → Float) → first_greatest f 4 ≡ later_if_greater f (later_if_greater f (later_if_greater f 0 1) 2) 3
unfolding first_greatest greatest
first_of_four f =
    ap (λ (b : Best). b.at)
    (one_more f 0 1 2 ∙ one_more f (later_if_greater f 0 1) 2 1 ∙ one_more f (later_if_greater f (later_if_greater f 0 1) 2) 3 0)

module _ (envelope : List Float) (beats : List ℕ) where
  sum_same : (phase : ℕ) → phase < 4 → phase_sum envelope beats 4 phase ≡ sum_before envelope beats phase
  unfolding phase_sum
  sum_same phase h =
      ap (λ (l : List ℕ). sum_of (map (beat_flux envelope) l)) (phase_strided 4 phase (omega arith) h beats ∙ strided_fourths phase beats)

  phase_same : downbeat_phase envelope beats 4 ≡ phase_before envelope beats
  unfolding downbeat_phase
  phase_same =
      first_ext (phase_sum envelope beats 4) (sum_before envelope beats) 4 (omega arith) sum_same ∙ first_of_four (sum_before envelope beats)

  pub four_as_before : downbeats_of envelope beats 4 ≡ downbeats_before envelope beats
  four_as_before =
      downbeats-stride envelope beats 4 (omega arith)
      ∙ strided_fourths (downbeat_phase envelope beats 4) beats
      ∙ ap (λ (p : ℕ). fourths p beats) phase_same

  -- nor is more or less refused
  pub four_refused_as_before : (o : TempoOpts) (room : ℕ) → downbeat_refusal envelope beats (with_meter 4 o) room ≡ refusal_before envelope beats room
  unfolding downbeat_refusal downbeat_numbers_fine downbeat_room_fine options_fine
  four_refused_as_before o room =
      ap (λ (b : Bool). lowest (leb (length envelope) most_rows && b) true (leb (length beats) room) (every value_fine envelope))
      (sym (and-true (every frame_fine beats)))
