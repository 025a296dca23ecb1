-- Four runs of slots, one as long as the other and as far apart, that are written side by side: one slot more of each, and all of them.
use mathlib.Core.List.{List}
use mathlib.Core.Logic.{◌⊎◌, inl, ⊎_elim}
use mathlib.Core.Path.{◌≡◌, refl, sym, ap, ◌∙◌}
use Prim.Native.Nat.{ℕ, ◌+◌, ◌*◌, ◌≤◌, ◌<◌}
use native.Mathlib.Omega.{arith}
use lib.ListN.{length, get_or, set, length-set}
use lib.Seq.{get_or-set_same, get_or-set_other, ext_get_or}
use Rattle.numbers.proofs.Tabs.{length-filled, get_or_filled_low, get_or_filled_in, get_or_filled_high, filled_outside, filled_none, filled-to, filled_join}
use Rattle.numbers.proofs.Tests.{lt_or_le}
use Rattle.numbers.specs.Lists.{filled}

module _ {A : Type 0} (f : ℕ → A) (z : A) where
  -- a store outside the slots that are written may be made before them
  set_outside : (d : List A) (a t : ℕ) → a ≤ t → t ≤ length d → (i : ℕ) (x : A) → i < length d → (i < a) ⊎ (t ≤ i)
      → set (filled f d a t) i x ≡ filled f (set d i x) a t
  set_outside d a t h k i x b o =
      let l : length (filled f d a t) ≡ length d = length-filled f d a t h k in
      let m : length (set d i x) ≡ length d = length-set d i x in
      let n : t ≤ length (set d i x) = omega (arith, m) in
      let r : length (filled f (set d i x) a t) ≡ length (set d i x) = length-filled f (set d i x) a t h n in
      let at_i : get_or (filled f (set d i x) a t) i z ≡ x = filled_outside f (set d i x) a t h n i z o ∙ get_or-set_same d i x z b in
      ext_get_or z _ _ (length-set (filled f d a t) i x ∙ l ∙ sym (r ∙ m))
      (λ j u. ⊎_elim
      (λ (v : j < i). elsewhere j (λ (e : j ≡ i). absurd (omega arith)))
      (λ (v : i ≤ j). ⊎_elim
      (λ (w : i < j). elsewhere j (λ (e : j ≡ i). absurd (omega arith)))
      (λ (w : j ≤ i).
      let e : j ≡ i = omega arith in
      ap (λ (p : ℕ). get_or (set (filled f d a t) i x) p z) e ∙ get_or-set_same (filled f d a t) i x z (omega (arith, l))
      ∙ sym (ap (λ (p : ℕ). get_or (filled f (set d i x) a t) p z) e ∙ at_i))
      (lt_or_le i j))
      (lt_or_le j i))
    where
      elsewhere : (j : ℕ) → (j ≡ i → ⊥) → get_or (set (filled f d a t) i x) j z ≡ get_or (filled f (set d i x) a t) j z
      elsewhere j e =
          let n : t ≤ length (set d i x) = omega (arith, length-set d i x) in
          let away : get_or (set d i x) j z ≡ get_or d j z = get_or-set_other d i j x z e in
          get_or-set_other (filled f d a t) i j x z e
          ∙ ⊎_elim
          (λ (u : j < a). get_or_filled_low f d a t h k j z u ∙ sym (get_or_filled_low f (set d i x) a t h n j z u ∙ away))
          (λ (u : a ≤ j). ⊎_elim
          (λ (v : j < t). get_or_filled_in f d a t h k j z u v ∙ sym (get_or_filled_in f (set d i x) a t h n j z u v))
          (λ (v : t ≤ j). get_or_filled_high f d a t h k j z v ∙ sym (get_or_filled_high f (set d i x) a t h n j z v ∙ away))
          (lt_or_le j t))
          (lt_or_le j a)

  -- four runs of k slots of a list, q slots apart, from slot a on
  abbrev pub quartered : List A → (a q k : ℕ) → List A
  quartered d a q k = filled f (filled f (filled f (filled f d a (a + k)) (a + q) (a + q + k)) (a + 2 * q) (a + 2 * q + k)) (a + 3 * q) (a + 3 * q + k)

  nothing : (d : List A) (a t : ℕ) → t ≡ a → filled f d a t ≡ d
  nothing d a t e = ap (filled f d a) e ∙ filled_none f d a

  pub quartered_none : (d : List A) (a q : ℕ) → quartered d a q 0 ≡ d
  quartered_none d a q =
      nothing _ (a + 3 * q) (a + 3 * q + 0) (omega arith)
      ∙ nothing _ (a + 2 * q) (a + 2 * q + 0) (omega arith)
      ∙ nothing _ (a + q) (a + q + 0) (omega arith)
      ∙ nothing d a (a + 0) (omega arith)

  -- a store before a run, and its next slot; it stays as long as it is
  module _ (n : ℕ) (e : List A) (s j i : ℕ) (whole : length e ≡ n) where
    before_run : (x : A) → s + j ≤ n → i < s → set (filled f e s (s + j)) i x ≡ filled f (set e i x) s (s + j)
    before_run x h k = set_outside e s (s + j) (omega arith) (omega arith) i x (omega arith) (inl k)

    next_slot : s + j < n → i ≡ s + j → set (filled f e s (s + j)) i (f i) ≡ filled f e s (s + (j + 1))
    next_slot h k = ap (λ (p : ℕ). set (filled f e s (s + j)) p (f p)) k ∙ filled-to f e s (s + j) (s + (j + 1)) (omega arith) z (omega arith) (omega arith)

  as_long : (n : ℕ) (e : List A) (s j : ℕ) → length e ≡ n → s + j ≤ n → length (filled f e s (s + j)) ≡ n
  as_long n e s j whole h = length-filled f e s (s + j) (omega arith) (omega arith) ∙ whole

  module _ (d : List A) (a q k : ℕ) (inside : k < q) (fits : a + 4 * q ≤ length d) where
    abbrev one : ℕ → List A
    one j = filled f d a (a + j)

    abbrev two : ℕ → List A → List A
    two j e = filled f e (a + q) (a + q + j)

    abbrev three : ℕ → List A → List A
    three j e = filled f e (a + 2 * q) (a + 2 * q + j)

    abbrev four : ℕ → List A → List A
    four j e = filled f e (a + 3 * q) (a + 3 * q + j)

    in_one : set (four k (three k (two k (one k)))) (a + k) (f (a + k)) ≡ four k (three k (two k (one (k + 1))))
    in_one =
        let l1 = as_long (length d) d a k refl (omega arith) in
        let l2 = as_long (length d) (one k) (a + q) k l1 (omega arith) in
        let l3 = as_long (length d) (two k (one k)) (a + 2 * q) k l2 (omega arith) in
        before_run (length d) (three k (two k (one k))) (a + 3 * q) k (a + k) l3 (f (a + k)) (omega arith) (omega arith)
        ∙ ap (four k) (before_run (length d) (two k (one k)) (a + 2 * q) k (a + k) l2 (f (a + k)) (omega arith) (omega arith))
        ∙ ap (λ (e : List A). four k (three k e)) (before_run (length d) (one k) (a + q) k (a + k) l1 (f (a + k)) (omega arith) (omega arith))
        ∙ ap (λ (e : List A). four k (three k (two k e))) (next_slot (length d) d a k (a + k) refl (omega arith) refl)

    in_two : (e : List A) → length e ≡ length d → set (four k (three k (two k e))) (a + k + q) (f (a + k + q)) ≡ four k (three k (two (k + 1) e))
    in_two e l =
        let i = a + k + q in
        let l2 = as_long (length d) e (a + q) k l (omega arith) in
        let l3 = as_long (length d) (two k e) (a + 2 * q) k l2 (omega arith) in
        before_run (length d) (three k (two k e)) (a + 3 * q) k i l3 (f i) (omega arith) (omega arith)
        ∙ ap (four k) (before_run (length d) (two k e) (a + 2 * q) k i l2 (f i) (omega arith) (omega arith))
        ∙ ap (λ (e : List A). four k (three k e)) (next_slot (length d) e (a + q) k i l (omega arith) (omega arith))

    in_three : (e : List A) → length e ≡ length d → set (four k (three k e)) (a + k + 2 * q) (f (a + k + 2 * q)) ≡ four k (three (k + 1) e)
    in_three e l =
        let i = a + k + 2 * q in
        let l3 = as_long (length d) e (a + 2 * q) k l (omega arith) in
        before_run (length d) (three k e) (a + 3 * q) k i l3 (f i) (omega arith) (omega arith)
        ∙ ap (four k) (next_slot (length d) e (a + 2 * q) k i l (omega arith) (omega arith))

    in_four : (e : List A) → length e ≡ length d → set (four k e) (a + k + 3 * q) (f (a + k + 3 * q)) ≡ four (k + 1) e
    in_four e l = next_slot (length d) e (a + 3 * q) k (a + k + 3 * q) l (omega arith) (omega arith)

    -- one slot more of each run
    pub quartered_more : set (set (set (set (quartered d a q k) (a + k) (f (a + k))) (a + k + q) (f (a + k + q))) (a + k + 2 * q) (f (a + k + 2 * q)))
        (a + k + 3 * q) (f (a + k + 3 * q))
        ≡ quartered d a q (k + 1)
    quartered_more =
        let l1 = as_long (length d) d a (k + 1) refl (omega arith) in
        let l2 = as_long (length d) (one (k + 1)) (a + q) (k + 1) l1 (omega arith) in
        let l3 = as_long (length d) (two (k + 1) (one (k + 1))) (a + 2 * q) (k + 1) l2 (omega arith) in
        ap (λ (e : List A). set (set (set e (a + k + q) (f (a + k + q))) (a + k + 2 * q) (f (a + k + 2 * q))) (a + k + 3 * q) (f (a + k + 3 * q))) in_one
        ∙ ap (λ (e : List A). set (set e (a + k + 2 * q) (f (a + k + 2 * q))) (a + k + 3 * q) (f (a + k + 3 * q))) (in_two (one (k + 1)) l1)
        ∙ ap (λ (e : List A). set e (a + k + 3 * q) (f (a + k + 3 * q))) (in_three (two (k + 1) (one (k + 1))) l2)
        ∙ in_four (three (k + 1) (two (k + 1) (one (k + 1)))) l3

  pub length_quartered : (d : List A) (a q k : ℕ) → k ≤ q → a + 4 * q ≤ length d → length (quartered d a q k) ≡ length d
  length_quartered d a q k h fits =
      let l1 = as_long (length d) d a k refl (omega arith) in
      let l2 = as_long (length d) _ (a + q) k l1 (omega arith) in
      let l3 = as_long (length d) _ (a + 2 * q) k l2 (omega arith) in
      as_long (length d) _ (a + 3 * q) k l3 (omega arith)

  -- runs that meet are one
  meet : (d : List A) (a t s u : ℕ) → a ≤ t → s ≡ t → t ≤ u → u ≤ length d → filled f (filled f d a t) s u ≡ filled f d a u
  meet d a t s u h e k l = ap (λ (p : ℕ). filled f (filled f d a t) p u) e ∙ filled_join f d a t u h k z l

  pub quartered_all : (d : List A) (a q : ℕ) → a + 4 * q ≤ length d → quartered d a q q ≡ filled f d a (a + 4 * q)
  quartered_all d a q fits =
      let three_quarters : List A → List A = λ (e : List A). filled f e (a + 3 * q) (a + 3 * q + q) in
      let half : List A → List A = λ (e : List A). filled f e (a + 2 * q) (a + 2 * q + q) in
      ap (λ (e : List A). three_quarters (half e)) (meet d a (a + q) (a + q) (a + q + q) (omega arith) refl (omega arith) (omega arith))
      ∙ ap three_quarters (meet d a (a + q + q) (a + 2 * q) (a + 2 * q + q) (omega arith) (omega arith) (omega arith) (omega arith))
      ∙ meet d a (a + 2 * q + q) (a + 3 * q) (a + 3 * q + q) (omega arith) (omega arith) (omega arith) (omega arith)
      ∙ (let e : a + 3 * q + q ≡ a + 4 * q = omega arith in ap (filled f d a) e)
