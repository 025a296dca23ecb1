-- The walk over the peaks of a curve: from a slot to the next peak, from a peak to the end of its group, and the list that is written
-- on the way. Assumes nothing.
use Prim.Native.Nat.{ℕ, suc, ◌+◌, ◌-◌, ◌≤◌, ◌<◌}
use mathlib.Core.Path.{◌≡◌, refl, sym, ap, ◌∙◌}
use mathlib.Core.Bool.{Bool, true, false}
use mathlib.Core.List.{List, [], ◌∷◌, ◌++◌, append-nil}
use native.Mathlib.Nat.{le_refl}
use native.Mathlib.Numerals.{add-one}
use native.Mathlib.Omega.{arith}
use lib.Ieee.{Float, lt}
use lib.ListN.{length, set, length-append}
use lib.Seq.{append_snoc}
use Rattle.numbers.proofs.Tabs.{listed-none, listed_more}
use Rattle.numbers.specs.Lists.{listed}
use Rattle.numbers.specs.Rounded.{pick}
use Rattle.onsets.specs.Peaks.{at, is_peak, those, peaks_of, joins, better, bests, suppressed}
use Rattle.section_peaks.specs.Steps.{peaks_from, kept_from}

module _ (curve : List Float) (level : Float) where
  -- past the last slot that can be a peak
  pub peaks_end : (t : ℕ) → length curve - 1 ≤ t → peaks_from curve level t ≡ []
  unfolding peaks_from those
  peaks_end t h = let e : length curve - 1 - t ≡ 0 = omega arith in rw e

  -- slot t is no peak, or is one
  pub peaks-past : (t : ℕ) → t < length curve - 1 → is_peak curve level t ≡ false → peaks_from curve level t ≡ peaks_from curve level (t + 1)
  unfolding peaks_from those
  peaks-past t h e = let n : length curve - 1 - t ≡ suc (length curve - 1 - (t + 1)) = omega arith in rw (n, e, add-one t)

  pub peaks_here : (t : ℕ) → t < length curve - 1 → is_peak curve level t ≡ true → peaks_from curve level t ≡ t ∷ peaks_from curve level (t + 1)
  unfolding peaks_from those
  peaks_here t h e = let n : length curve - 1 - t ≡ suc (length curve - 1 - (t + 1)) = omega arith in rw (n, e, add-one t)

  module _ (gap : ℕ) where
    pub kept-all : kept_from curve level gap 1 ≡ suppressed curve gap (peaks_of curve (λ _. level))
    unfolding kept_from peaks_of
    kept-all = let e : length curve - 1 - 1 ≡ length curve - 2 = omega arith in rw e

    pub kept_end : (t : ℕ) → length curve - 1 ≤ t → kept_from curve level gap t ≡ []
    unfolding kept_from suppressed
    kept_end t h = rw (peaks_end t h)

    -- from the first peak on
    pub kept_next : (t r : ℕ) → peaks_from curve level t ≡ peaks_from curve level r → kept_from curve level gap t ≡ kept_from curve level gap r
    unfolding kept_from
    kept_next t r e = rw e

    -- a peak opens a group
    pub kept_here : (t : ℕ) → t < length curve - 1 → is_peak curve level t ≡ true
        → bests curve gap t (peaks_from curve level (t + 1)) ≡ kept_from curve level gap t
    unfolding kept_from suppressed
    kept_here t h e = rw (peaks_here t h e)

    -- the next peak joins it, or doesn't, or there is none
    pub bests_join : (best t : ℕ) → t < length curve - 1 → is_peak curve level t ≡ true → joins gap best t ≡ true
        → bests curve gap best (peaks_from curve level t) ≡ bests curve gap (better curve best t) (peaks_from curve level (t + 1))
    unfolding bests
    bests_join best t h e j = rw (peaks_here t h e, j)

    pub bests_part : (best t : ℕ) → t < length curve - 1 → is_peak curve level t ≡ true → joins gap best t ≡ false
        → bests curve gap best (peaks_from curve level t) ≡ best ∷ kept_from curve level gap t
    unfolding bests
    bests_part best t h e j = rw (← kept_here t h e, peaks_here t h e, j)

    pub bests_end : (best t : ℕ) → length curve - 1 ≤ t → bests curve gap best (peaks_from curve level t) ≡ best ∷ kept_from curve level gap t
    unfolding bests
    bests_end best t h = rw (kept_end t h, peaks_end t h)

-- the better of a best and a peak past it is no later than the peak
pub better-most : (curve : List Float) (best t : ℕ) → best ≤ t → better curve best t ≤ t
better-most curve best t h = go (lt (at curve best) (at curve t))
  where
    go : (b : Bool) → pick b t best ≤ t
    go true = le_refl t
    go false = h

-- ---- a list that is written entry by entry

-- The first entries of the whole are listed; the rest follows.
pub record Sofar {A : Type 0} (whole rest was now : List A) (count : ℕ) : Type 0 where
  pub done : List A
  pub all : done ++ rest ≡ whole
  pub many : count ≡ length done
  pub slots : now ≡ listed done was

module _ {A : Type 0} where
  pub sofar_start : (whole was : List A) → Sofar whole whole was was 0
  sofar_start whole was = record { done = []; all = refl; many = refl; slots = sym (listed-none was) }

  pub sofar_more : {whole rest was now : List A} {count : ℕ} (x : A) → count < length was → Sofar whole (x ∷ rest) was now count
      → Sofar whole rest was (set now count x) (count + 1)
  sofar_more {whole} {rest} {was} {now} {count} x h s = record {
    done = s.done ++ (x ∷ []);
    all = append_snoc s.done x rest ∙ s.all;
    many = simp length-append (omega (arith, s.many));
    slots =
        let e : length s.done < length was = omega (arith, s.many) in
        ap (λ (r : List A). set r count x) s.slots ∙ ap (λ (k : ℕ). set (listed s.done was) k x) s.many ∙ listed_more s.done was x x e;
  }

  pub sofar_end : {whole was now : List A} {count : ℕ} → Sofar whole [] was now count → (count ≡ length whole) × (now ≡ listed whole was)
  sofar_end {whole} {was} s =
      let e : s.done ≡ whole = sym (append-nil s.done) ∙ s.all in
      (s.many ∙ ap length e, s.slots ∙ ap (λ (r : List A). listed r was) e)
