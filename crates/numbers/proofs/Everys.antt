-- A test of every entry of a list.
use mathlib.Core.Path.{◌≡◌, refl, sym, ap, ◌∙◌}
use mathlib.Core.List.{List, [], ◌∷◌, ◌++◌}
use mathlib.Core.Bool.{Bool, true, ◌&&◌}
use Prim.Native.Nat.{ℕ, zero, suc, ◌+◌, ◌-◌, ◌*◌, ◌≤◌, ◌<◌}
use native.Mathlib.Nat.{not-suc-le-zero, le_of_suc-le-suc}
use native.Mathlib.Numerals.{add-one}
use native.Mathlib.Omega.{arith}
use lib.ListN.{length, get_or, take, drop, length-drop, drop_of_length-le}
use lib.Seq.{drop-cons, drop-drop, take-length}
use Rattle.numbers.specs.Lists.{tab, every}
use Rattle.numbers.proofs.Tests.{and-true, and_left, and_right, and_both, and_assoc, and_assoc_4, and_push, and_push_4}

module _ {A : Type 0} (p : A → Bool) where
  -- the list from slot i on: its first entry, then the rest
  pub every_step : (s : List A) (i : ℕ) (z : A) → i < length s → every p (drop i s) ≡ (p (get_or s i z) && every p (drop (i + 1) s))
  unfolding every
  every_step s i z h = rw (add-one, drop-cons s i z)

  pub every_end : (s : List A) (i : ℕ) → length s ≤ i → every p (drop i s) ≡ true
  unfolding every
  every_end s i h = rw drop_of_length-le

  -- what is left from slot i on, and what was found before it: what the test answers of the entry goes to what was found
  pub every_step_1 : (s : List A) (i : ℕ) (z : A) (fine : Bool) {here all : Bool} → i < length s → here ≡ p (get_or s i z)
      → all ≡ (every p (drop i s) && fine) → all ≡ (every p (drop (i + 1) s) && (here && fine))
  every_step_1 s i z fine {here} h e f =
      f ∙ ap (λ (b : Bool). b && fine) (every_step s i z h ∙ ap (λ (b : Bool). b && every p (drop (i + 1) s)) (sym e)) ∙ and_push here _ fine

  -- what is left of four lists from slot i on, and what was found before it
  abbrev pub every_4 : List A → List A → List A → List A → ℕ → Bool → Bool
  every_4 a b c d i fine = every p (drop i a) && (every p (drop i b) && (every p (drop i c) && (every p (drop i d) && fine)))

  module _ (a b c d : List A) (i : ℕ) (fine : Bool) where
    pub every_step_4 : (w x y z : A) {fa fb fc fd all : Bool} → i < length a → i < length b → i < length c → i < length d
        → fa ≡ p (get_or a i w) → fb ≡ p (get_or b i x) → fc ≡ p (get_or c i y) → fd ≡ p (get_or d i z)
        → all ≡ every_4 a b c d i fine → all ≡ every_4 a b c d (i + 1) (fa && (fb && (fc && (fd && fine))))
    every_step_4 w x y z {fa} {fb} {fc} {fd} ha hb hc hd ea eb ec ed e =
        let rest : List A → Bool = λ s. every p (drop (i + 1) s) in
        e ∙ rw (every_step a i w ha, every_step b i x hb, every_step c i y hc, every_step d i z hd, ← ea, ← eb, ← ec, ← ed)
        (and_push_4 fa fb fc fd (rest a) (rest b) (rest c) (rest d) fine)

    -- at the end of each list what was found is the test of all four
    pub every_end_4 : length a ≤ i → length b ≤ i → length c ≤ i → length d ≤ i → every_4 a b c d 0 true ≡ every_4 a b c d i fine
        → fine ≡ (every p a && (every p b && (every p c && every p d)))
    every_end_4 ha hb hc hd e =
        let found : every_4 a b c d i fine ≡ fine = rw (every_end a i ha, every_end b i hb, every_end c i hc, every_end d i hd) in
        sym (e ∙ found) ∙ rw (sym (and-true (every p d)))

  pub every-at : (s : List A) (i : ℕ) (z : A) → every p s ≡ true → i < length s → p (get_or s i z) ≡ true
  unfolding every
  every-at [] i z e h = absurd (not-suc-le-zero h)
  every-at (x ∷ xs) zero z e h = and_left _ _ e
  every-at (x ∷ xs) (suc i) z e h = every-at xs i z (and_right (p x) _ e) (le_of_suc-le-suc h)

  pub every_by : (s : List A) (z : A) → ((i : ℕ) → i < length s → p (get_or s i z) ≡ true) → every p s ≡ true
  unfolding every
  every_by [] z h = refl
  every_by (x ∷ xs) z h = and_both (p x) _ (h 0 (omega arith)) (every_by xs z (λ i k. h (suc i) (omega arith)))

  pub every_drop : (s : List A) (i : ℕ) → every p s ≡ true → every p (drop i s) ≡ true
  unfolding every
  every_drop s zero e = e
  every_drop [] (suc i) e = refl
  every_drop (x ∷ xs) (suc i) e = every_drop xs i (and_right (p x) _ e)

  pub every_split : (s : List A) (i : ℕ) → every p s ≡ (every p (take i s) && every p (drop i s))
  unfolding every
  every_split s zero = refl
  every_split [] (suc i) = refl
  every_split (x ∷ xs) (suc i) = ap (λ (b : Bool). p x && b) (every_split xs i) ∙ sym (and_assoc (p x) (every p (take i xs)) (every p (drop i xs)))

  -- the test of the slots from a up to, not including, e
  abbrev every_part : List A → ℕ → ℕ → Bool
  every_part s a e = every p (take (e - a) (drop a s))

  every_next : (s : List A) (q a e : ℕ) → e ≡ a + q → every p (drop a s) ≡ (every_part s a e && every p (drop e s))
  every_next s q a e h =
      let n : e - a ≡ q = omega arith in
      rw n (every_split (drop a s) q ∙ ap (λ (l : List A). every p (take q (drop a s)) && every p l) (drop-drop q a s ∙ ap (λ (n : ℕ). drop n s) (sym h)))

  every-last : (s : List A) (a : ℕ) → every p (drop a s) ≡ every_part s a (length s)
  every-last s a = ap (every p) (sym (take-length (drop a s)) ∙ ap (λ (n : ℕ). take n (drop a s)) (length-drop a s))

  -- four quarters, and what is left
  pub every_quarters : (s : List A) (q : ℕ) → every p s ≡ ((every_part s 0 q
      && (every_part s q (2 * q) && (every_part s (2 * q) (3 * q) && every_part s (3 * q) (4 * q)))) && every_part s (4 * q) (length s))
  every_quarters s q =
      let e₁ = every_next s q 0 q (omega arith) in
      let e₂ = every_next s q q (2 * q) (omega arith) in
      let e₃ = every_next s q (2 * q) (3 * q) (omega arith) in
      let e₄ = every_next s q (3 * q) (4 * q) (omega arith) in
      let e₅ = every-last s (4 * q) in
      let a = and_assoc_4 (every_part s 0 q) (every_part s q (2 * q)) (every_part s (2 * q) (3 * q)) (every_part s (3 * q) (4 * q))
      (every_part s (4 * q) (length s)) in
      cc

  pub every_take : (s : List A) (i : ℕ) → every p s ≡ true → every p (take i s) ≡ true
  unfolding every
  every_take s zero e = refl
  every_take [] (suc i) e = refl
  every_take (x ∷ xs) (suc i) e = rw (and_left (p x) (every p xs) e) (every_take xs i (and_right (p x) _ e))

  pub every_append : (s t : List A) → every p s ≡ true → every p t ≡ true → every p (s ++ t) ≡ true
  unfolding every
  every_append [] t e h = h
  every_append (x ∷ xs) t e h = rw (and_left (p x) (every p xs) e) (every_append xs t (and_right (p x) _ e) h)

  pub every-tab : (f : ℕ → A) (s n : ℕ) → ((i : ℕ) → s ≤ i → i < s + n → p (f i) ≡ true) → every p (tab f s n) ≡ true
  unfolding every
  every-tab f s zero h = refl
  every-tab f s (suc n) h = rw (h s (omega arith) (omega arith)) (every-tab f (suc s) n (λ i a b. h i (omega arith) (omega arith)))
