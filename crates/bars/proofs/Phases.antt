-- The beats of a phase, one beat at a time.
use mathlib.Core.Path.{◌≡◌, refl, sym, ap, ◌∙◌}
use mathlib.Core.Bool.{Bool, true, false}
use mathlib.Core.List.{List, [], ◌∷◌, ◌++◌, map, append-nil, append_assoc}
use Prim.Native.Nat.{ℕ, suc, ◌+◌, ◌≤◌, ◌<◌, ◌%◌}
use native.Mathlib.Nat.{add-zero, add-suc, suc-add}
use native.Mathlib.Numerals.{add-one}
use native.Mathlib.Omega.{arith}
use lib.Dec.{eqb}
use lib.ListN.{length, get_or, take, drop, length-append, drop_of_length-le}
use lib.Seq.{drop-cons, take-suc, length-take-le}
use lib.Ieee.{Float}
use Rattle.numbers.specs.Rounded.{◌⊕◌, pick, sum_from}
use Rattle.bars.specs.Downbeats.{in_phase}

-- one entry, or none
abbrev pub kept : Bool → ℕ → List ℕ
kept b x = pick b (x ∷ []) []

sum_kept : (f : ℕ → Float) (acc : Float) (b : Bool) (x : ℕ) (xs : List ℕ) → sum_from (pick b (acc ⊕ f x) acc) (map f xs) ≡ sum_from acc (map f (kept b x ++ xs))
unfolding sum_from
sum_kept f acc true x xs = refl
sum_kept f acc false x xs = refl

module _ (meter phase : ℕ) where
  -- the first beat of a list, by whether its place belongs to the phase
  phase_cons : (i x : ℕ) (xs : List ℕ) (b : Bool) → eqb (i % meter) phase ≡ b → in_phase meter phase i (x ∷ xs) ≡ kept b x ++ in_phase meter phase (suc i) xs
  unfolding in_phase
  phase_cons i x xs true e = rw e
  phase_cons i x xs false e = rw e

  -- the sum of a phase, from place i on
  pub phase_sum_step : (f : ℕ → Float) (acc next : Float) (beats : List ℕ) (i : ℕ) (b : Bool) → i < length beats → eqb (i % meter) phase ≡ b
      → next ≡ pick b (acc ⊕ f (get_or beats i 0)) acc
      → sum_from next (map f (in_phase meter phase (i + 1) (drop (i + 1) beats))) ≡ sum_from acc (map f (in_phase meter phase i (drop i beats)))
  phase_sum_step f acc next beats i b h e n =
      rw (n, add-one, drop-cons beats i 0, phase_cons i (get_or beats i 0) (drop (suc i) beats) b e) (sum_kept f acc b (get_or beats i 0) _)

  pub phase_sum_end : (f : ℕ → Float) (acc : Float) (beats : List ℕ) (i : ℕ) → length beats ≤ i
      → sum_from acc (map f (in_phase meter phase i (drop i beats))) ≡ acc
  unfolding in_phase sum_from
  phase_sum_end f acc beats i h = rw drop_of_length-le

  phase_append : (i : ℕ) (xs ys : List ℕ) → in_phase meter phase i (xs ++ ys) ≡ in_phase meter phase i xs ++ in_phase meter phase (i + length xs) ys
  unfolding in_phase
  phase_append i [] ys = ap (λ (k : ℕ). in_phase meter phase k ys) (sym (add-zero i))
  phase_append i (x ∷ xs) ys =
      phase_cons i x (xs ++ ys) _ refl
      ∙ ap (λ (l : List ℕ). kept (eqb (i % meter) phase) x ++ l) (phase_append (suc i) xs ys)
      ∙ sym (append_assoc (kept (eqb (i % meter) phase) x) (in_phase meter phase (suc i) xs) (in_phase meter phase (suc i + length xs) ys))
      ∙ ap (λ (l : List ℕ). l ++ in_phase meter phase (suc i + length xs) ys) (sym (phase_cons i x xs _ refl))
      ∙ ap (λ (k : ℕ). in_phase meter phase i (x ∷ xs) ++ in_phase meter phase k ys) (suc-add i (length xs) ∙ sym (add-suc i (length xs)))

  -- the list of a phase, one more beat
  pub phase_more : (beats : List ℕ) (i : ℕ) (b : Bool) → i < length beats → eqb (i % meter) phase ≡ b
      → in_phase meter phase 0 (take (i + 1) beats) ≡ in_phase meter phase 0 (take i beats) ++ kept b (get_or beats i 0)
  unfolding in_phase
  phase_more beats i b h e =
      let x = get_or beats i 0 in
      let at : 0 + length (take i beats) ≡ i = omega (arith, length-take-le i beats (omega arith)) in
      ap (λ (k : ℕ). in_phase meter phase 0 (take k beats)) (add-one i)
      ∙ ap (in_phase meter phase 0) (take-suc beats i 0 h)
      ∙ phase_append 0 (take i beats) (x ∷ [])
      ∙ ap (λ (k : ℕ). in_phase meter phase 0 (take i beats) ++ in_phase meter phase k (x ∷ [])) at
      ∙ ap (λ (l : List ℕ). in_phase meter phase 0 (take i beats) ++ l) (phase_cons i x [] b e ∙ append-nil (kept b x))

  length-kept : (b : Bool) (x : ℕ) → length (kept b x) ≤ 1
  length-kept true x = omega arith
  length-kept false x = omega arith

  pub length_phase : (i : ℕ) (xs : List ℕ) → length (in_phase meter phase i xs) ≤ length xs
  unfolding in_phase
  length_phase i [] = omega arith
  length_phase i (x ∷ xs) =
      let k = kept (eqb (i % meter) phase) x in
      let r = in_phase meter phase (suc i) xs in
      rw (phase_cons i x xs _ refl, length-append k r) (omega (arith, length-kept (eqb (i % meter) phase) x, length_phase (suc i) xs))
