-- Lists written over a lent one, one behind the other. Assumes nothing.
use mathlib.Core.Path.{◌≡◌, sym, ap, ◌∙◌}
use mathlib.Core.List.{List, [], ◌∷◌, ◌++◌, append_assoc}
use Prim.Native.Nat.{ℕ, suc, ◌+◌, ◌≤◌, ◌<◌}
use native.Mathlib.Numerals.{add-one}
use native.Mathlib.Omega.{arith}
use lib.ListN.{length, take, drop, set, length-append}
use lib.Seq.{take-length, set_split, append_snoc, take_at, drop_at, drop-drop, length-take-le}
use Rattle.numbers.specs.Lists.{over, listed}

module _ {A : Type 0} where
  -- what is written, seen as three parts
  pub over-parts : (d : List A) (at : ℕ) (p : List A) → over d at p ≡ (take at d ++ p) ++ drop (at + length p) d
  unfolding over
  over-parts d at p = ap (λ (r : List A). (take at d ++ r) ++ drop (at + length p) d) (take-length p)

  -- as a copy over k slots leaves the list
  pub over-copied : (d : List A) (at k : ℕ) (p : List A) → k ≡ length p → take at d ++ (p ++ drop k (drop at d)) ≡ over d at p
  over-copied d at k p e =
      ap (λ (r : List A). take at d ++ (p ++ r)) (drop-drop k at d ∙ ap (λ (j : ℕ). drop (at + j) d) e)
      ∙ sym (over-parts d at p ∙ append_assoc (take at d) p (drop (at + length p) d))

  pub over-one : (d : List A) (at : ℕ) (x : A) → at < length d → set d at x ≡ over d at (x ∷ [])
  over-one d at x h =
      set_split d at x h
      ∙ sym (append_snoc (take at d) x (drop (suc at) d))
      ∙ ap (λ (k : ℕ). (take at d ++ (x ∷ [])) ++ drop k d) (sym (add-one at))
      ∙ sym (over-parts d at (x ∷ []))

  -- a piece behind another
  pub over_then : (d : List A) (at end : ℕ) (p q : List A) → end ≡ at + length p → at + length p ≤ length d → over (over d at p) end q ≡ over d at (p ++ q)
  over_then d at end p q e h =
      let m : length (take at d ++ p) ≡ end = length-append (take at d) p ∙ ap (λ (k : ℕ). k + length p) (length-take-le at d (omega arith)) ∙ sym e in
      let k : at + length p + length q ≡ at + length (p ++ q) = omega (arith, length-append p q) in
      ap (λ (r : List A). over r end q) (over-parts d at p)
      ∙ over-parts ((take at d ++ p) ++ drop (at + length p) d) end q
      ∙ ap (λ (r : List A). (r ++ q) ++ drop (end + length q) ((take at d ++ p) ++ drop (at + length p) d)) (take_at (take at d ++ p) _ end m)
      ∙ ap (λ (r : List A). ((take at d ++ p) ++ q) ++ r)
      (sym (drop-drop (length q) end ((take at d ++ p) ++ drop (at + length p) d))
      ∙ ap (drop (length q)) (drop_at (take at d ++ p) (drop (at + length p) d) end m)
      ∙ drop-drop (length q) (at + length p) d
      ∙ ap (λ (j : ℕ). drop j d) k)
      ∙ ap (λ (r : List A). r ++ drop (at + length (p ++ q)) d) (append_assoc (take at d) p q)
      ∙ sym (over-parts d at (p ++ q))

  -- a piece at the front
  pub over-front : (d p : List A) → over d 0 p ≡ listed p d
  unfolding listed
  over-front d p =
      let e : 0 + length p ≡ length p = omega arith in
      over-parts d 0 p ∙ ap (λ (k : ℕ). p ++ drop k d) e
