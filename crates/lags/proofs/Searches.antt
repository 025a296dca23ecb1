-- A search over a list, left at the first entry that passes: one step of it, and its end. Assumes nothing.
use mathlib.Core.Path.{◌≡◌, ◌∙◌}
use mathlib.Core.Bool.{Bool, true, false}
use mathlib.Core.List.{List}
use Prim.Native.Nat.{ℕ, ◌+◌, ◌≤◌, ◌<◌}
use native.Mathlib.Numerals.{add-one}
use lib.ListN.{length, get_or, drop, drop_of_length-le}
use lib.Seq.{drop-cons}
use Rattle.numbers.specs.Rounded.{pick}
use Rattle.numbers.proofs.Tests.{pick_true, pick-false}
use Rattle.lags.specs.Pairs.{some}

module _ {A : Type 0} (p : A → Bool) (s : List A) (i : ℕ) where
  some_step : (z : A) → i < length s → some p (drop i s) ≡ pick (p (get_or s i z)) true (some p (drop (i + 1) s))
  unfolding some
  some_step z h = rw (add-one, drop-cons s i z)

  -- the entry at i passes
  pub some-found : (z : A) → i < length s → p (get_or s i z) ≡ true → some p (drop i s) ≡ true
  some-found z h e = some_step z h ∙ pick_true _ _ _ e

  -- it does not: on to the next
  pub some_next : (z : A) → i < length s → p (get_or s i z) ≡ false → some p (drop i s) ≡ some p (drop (i + 1) s)
  some_next z h e = some_step z h ∙ pick-false _ _ _ e

  pub some_end : length s ≤ i → some p (drop i s) ≡ false
  unfolding some
  some_end h = rw drop_of_length-le
