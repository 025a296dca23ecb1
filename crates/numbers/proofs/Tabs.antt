-- A list by its rule, and a lent list with some slots written by a rule. `local_curve` is the law of locality from which every patch follows.
use mathlib.Core.Path.{◌≡◌, refl, sym, ap, ◌∙◌}
use mathlib.Core.List.{List, [], ◌∷◌, ◌++◌, append_assoc, append-nil}
use mathlib.Core.Logic.{◌⊎◌, inl, inr, ⊎_elim}
use Prim.Native.Nat.{ℕ, zero, suc, ◌+◌, ◌-◌, ◌≤◌, ◌<◌}
use native.Mathlib.Nat.{not-suc-le-zero, le_of_suc-le-suc, add-zero, add-suc, suc-add, le_refl, zero-add, sub-zero}
use native.Mathlib.Numerals.{add-one}
use native.Mathlib.Omega.{arith}
use lib.ListN.{length, get_or, set, take, drop, length-append, length-drop, take-append-drop, get_or-append}
use lib.Seq.{drop-cons, take_at, set_at, append_snoc, length-take-le, get_or-append-add, get_or-drop, get_or-take, ext_get_or}
use Rattle.numbers.specs.Lists.{tab, curve, filled, listed}
use Rattle.numbers.proofs.Tests.{lt_or_le}

module _ {A : Type 0} where
  pub length-tab : (f : ℕ → A) (s n : ℕ) → length (tab f s n) ≡ n
  length-tab f s zero = refl
  length-tab f s (suc n) = ap suc (length-tab f (suc s) n)

  pub get_or-tab : (f : ℕ → A) (s n i : ℕ) (d : A) → i < n → get_or (tab f s n) i d ≡ f (s + i)
  get_or-tab f s zero i d h = absurd (not-suc-le-zero h)
  get_or-tab f s (suc n) zero d h = ap f (sym (add-zero s))
  get_or-tab f s (suc n) (suc i) d h = get_or-tab f (suc s) n i d (le_of_suc-le-suc h) ∙ ap f (suc-add s i ∙ sym (add-suc s i))

  -- slot i of a curve
  pub get_or-curve : (f : ℕ → A) (n i : ℕ) (d : A) → i < n → get_or (curve f n) i d ≡ f i
  get_or-curve f n i d h = get_or-tab f 0 n i d h ∙ ap f (zero-add i)

  -- two rules that agree on the range make one list
  pub tab_ext : (f g : ℕ → A) (s n : ℕ) → ((i : ℕ) → s ≤ i → i < s + n → f i ≡ g i) → tab f s n ≡ tab g s n
  tab_ext f g s zero h = refl
  tab_ext f g s (suc n) h =
      ap (λ (x : A). x ∷ tab f (suc s) n) (h s (le_refl s) (omega arith))
      ∙ ap (λ (r : List A). g s ∷ r) (tab_ext f g (suc s) n (λ i a b. h i (omega arith) (omega arith)))

  pub tab_snoc : (f : ℕ → A) (s n : ℕ) → tab f s (suc n) ≡ tab f s n ++ (f (s + n) ∷ [])
  tab_snoc f s zero = ap (λ (k : ℕ). f k ∷ []) (omega arith)
  tab_snoc f s (suc n) = ap (λ (r : List A). f s ∷ r) (tab_snoc f (suc s) n ∙ ap (λ (k : ℕ). tab f (suc s) n ++ (f k ∷ [])) (omega arith))

  -- a list is the curve of its entries
  pub curve_of_lem : (xs : List A) (d : A) → curve (λ i. get_or xs i d) (length xs) ≡ xs
  curve_of_lem xs d =
      ext_get_or d _ _ (length-tab _ 0 (length xs))
      (λ i h. get_or-curve (λ i. get_or xs i d) (length xs) i d (omega (arith, length-tab (λ i. get_or xs i d) 0 (length xs))))

  -- ---- slots from a up to t by the rule f

  pub filled_none : (f : ℕ → A) (d : List A) (a : ℕ) → filled f d a a ≡ d
  unfolding filled
  filled_none f d a =
      let z : a - a ≡ 0 = omega arith in
      ap (λ (k : ℕ). take a d ++ tab f a k ++ drop a d) z
      ∙ ap (λ (r : List A). r ++ drop a d) (append-nil (take a d)) ∙ take-append-drop a d

  module _ (f : ℕ → A) (d : List A) (a t : ℕ) (h : a ≤ t) where
    length_head : t ≤ length d → length (take a d ++ tab f a (t - a)) ≡ t
    length_head k = simp (length-append, length-tab, length-take-le a d (omega arith)) (omega arith)

    pub length-filled : t ≤ length d → length (filled f d a t) ≡ length d
    unfolding filled
    length-filled k = length-append (take a d ++ tab f a (t - a)) (drop t d) ∙ simp (length_head k, length-drop) (omega arith)

    -- one more slot
    pub filled_more : (z : A) → t < length d → set (filled f d a t) t (f t) ≡ filled f d a (t + 1)
    unfolding filled
    filled_more z k =
        let p : List A = take a d ++ tab f a (t - a) in
        let e : t + 1 - a ≡ suc (t - a) = omega arith in
        let g : a + (t - a) ≡ t = omega arith in
        ap (λ (r : List A). set (p ++ r) t (f t)) (drop-cons d t z k)
        ∙ set_at p (get_or d t z) (drop (suc t) d) (f t) t (length_head (omega arith))
        ∙ sym (append_snoc p (f t) (drop (suc t) d))
        ∙ ap (λ (r : List A). r ++ drop (suc t) d)
        (append_assoc (take a d) (tab f a (t - a)) (f t ∷ [])
        ∙ ap (λ (k : ℕ). take a d ++ (tab f a (t - a) ++ (f k ∷ []))) (sym g)
        ∙ ap (λ (r : List A). take a d ++ r) (sym (tab_snoc f a (t - a)) ∙ ap (tab f a) (sym e)))
        ∙ ap (λ (k : ℕ). take a d ++ tab f a (t + 1 - a) ++ drop k d) (sym (add-one t))

    -- what stands where
    module _ (k : t ≤ length d) (i : ℕ) (z : A) where
      pub get_or_filled_low : i < a → get_or (filled f d a t) i z ≡ get_or d i z
      unfolding filled
      get_or_filled_low b =
          let p : i < length (take a d ++ tab f a (t - a)) = simp (length_head k) (omega arith) in
          let q : i < length (take a d) = simp (length-take-le a d (omega arith)) b in
          get_or-append (take a d ++ tab f a (t - a)) (drop t d) z i p
          ∙ get_or-append (take a d) (tab f a (t - a)) z i q
          ∙ get_or-take a d i z b

      pub get_or_filled_in : a ≤ i → i < t → get_or (filled f d a t) i z ≡ f i
      unfolding filled
      get_or_filled_in b e =
          let p : i < length (take a d ++ tab f a (t - a)) = simp (length_head k) e in
          let q : length (take a d) + (i - a) ≡ i = simp (length-take-le a d (omega arith)) (omega arith) in
          let g : a + (i - a) ≡ i = omega arith in
          get_or-append (take a d ++ tab f a (t - a)) (drop t d) z i p
          ∙ ap (λ (j : ℕ). get_or (take a d ++ tab f a (t - a)) j z) (sym q)
          ∙ get_or-append-add (take a d) (tab f a (t - a)) (i - a) z
          ∙ get_or-tab f a (t - a) (i - a) z (omega arith)
          ∙ ap f g

      pub get_or_filled_high : t ≤ i → get_or (filled f d a t) i z ≡ get_or d i z
      unfolding filled
      get_or_filled_high b =
          let q : length (take a d ++ tab f a (t - a)) + (i - t) ≡ i = simp (length_head k) (omega arith) in
          let g : t + (i - t) ≡ i = omega arith in
          ap (λ (j : ℕ). get_or (take a d ++ tab f a (t - a) ++ drop t d) j z) (sym q)
          ∙ get_or-append-add (take a d ++ tab f a (t - a)) (drop t d) (i - t) z
          ∙ get_or-drop t d (i - t) z
          ∙ ap (λ (j : ℕ). get_or d j z) g

  -- what `filled` leaves alone
  pub filled_outside : (f : ℕ → A) (d : List A) (a t : ℕ) → a ≤ t → t ≤ length d → (i : ℕ) (z : A) → (i < a) ⊎ (t ≤ i)
      → get_or (filled f d a t) i z ≡ get_or d i z
  filled_outside f d a t h k i z (inl u) = get_or_filled_low f d a t h k i z u
  filled_outside f d a t h k i z (inr u) = get_or_filled_high f d a t h k i z u

  -- filling from 0 is the curve, and then what was there
  pub filled-whole : (f : ℕ → A) (d : List A) (n : ℕ) → filled f d 0 n ≡ curve f n ++ drop n d
  unfolding filled
  filled-whole f d n = ap (λ (k : ℕ). tab f 0 k ++ drop n d) (sub-zero n)

  -- the slots that were filled from 0 on are the curve
  pub filled-first : (f : ℕ → A) (d : List A) (n : ℕ) → take n (filled f d 0 n) ≡ curve f n
  filled-first f d n = ap (take n) (filled-whole f d n) ∙ take_at (curve f n) (drop n d) n (length-tab f 0 n)

  -- a curve that fills its room whole
  pub filled-all : (f : ℕ → A) (d : List A) (n : ℕ) → length d ≡ n → filled f d 0 n ≡ curve f n
  filled-all f d n e =
      ext_go (filled-whole f d n)
    where
      ext_go : filled f d 0 n ≡ curve f n ++ drop n d → filled f d 0 n ≡ curve f n
      ext_go p = p ∙ ap (λ (r : List A). curve f n ++ r) (none d n e) ∙ append-nil (curve f n)
        where
          none : (d : List A) (n : ℕ) → length d ≡ n → drop n d ≡ []
          none [] zero h = refl
          none [] (suc n) h = refl
          none (x ∷ xs) zero h = absurd (omega arith)
          none (x ∷ xs) (suc n) h = none xs n (omega arith)

  -- two rules that agree on the slots written write the same
  pub filled_ext : (f g : ℕ → A) (d : List A) (a t : ℕ) → ((i : ℕ) → a ≤ i → i < t → f i ≡ g i) → filled f d a t ≡ filled g d a t
  unfolding filled
  filled_ext f g d a t h = ap (λ (r : List A). take a d ++ r ++ drop t d) (tab_ext f g a (t - a) (λ i p q. h i p (omega arith)))

  filled_on : (f : ℕ → A) (d : List A) (a t k : ℕ) → a ≤ t → A → t + k ≤ length d → filled f (filled f d a t) t (t + k) ≡ filled f d a (t + k)
  filled_on f d a t zero h z l =
      let e : t + 0 ≡ t = omega arith in
      ap (filled f (filled f d a t) t) e ∙ filled_none f (filled f d a t) t ∙ ap (filled f d a) (sym e)
  filled_on f d a t (suc k) h z l =
      let e : t + suc k ≡ t + k + 1 = omega arith in
      let m : length (filled f d a t) ≡ length d = length-filled f d a t h (omega arith) in
      ap (filled f (filled f d a t) t) e
      ∙ sym (filled_more f (filled f d a t) t (t + k) (omega arith) z (omega (arith, m)))
      ∙ ap (λ (r : List A). set r (t + k) (f (t + k))) (filled_on f d a t k h z (omega arith))
      ∙ filled_more f d a (t + k) (omega arith) z (omega arith)
      ∙ ap (filled f d a) (sym e)

  -- two runs of slots, one behind the other
  pub filled_join : (f : ℕ → A) (d : List A) (a t u : ℕ) → a ≤ t → t ≤ u → A → u ≤ length d → filled f (filled f d a t) t u ≡ filled f d a u
  filled_join f d a t u h g z l =
      let e : u ≡ t + (u - t) = omega arith in
      ap (filled f (filled f d a t) t) e ∙ filled_on f d a t (u - t) h z (omega arith) ∙ ap (filled f d a) (sym e)

  -- two runs of slots, the second of which begins within the first
  pub filled-over : (f : ℕ → A) (d : List A) (a s t u : ℕ) → a ≤ s → s ≤ t → t ≤ u → A → u ≤ length d → filled f (filled f d a t) s u ≡ filled f d a u
  filled-over f d a s t u h o g z l =
      let x = filled f d a t in
      let m : length x ≡ length d = length-filled f d a t (omega arith) (omega arith) in
      ext_get_or z _ _ (length-filled f x s u (omega arith) (omega arith) ∙ m ∙ sym (length-filled f d a u (omega arith) l))
      (λ i b.
      ⊎_elim
      (λ (p : i < s).
      get_or_filled_low f x s u (omega arith) (omega arith) i z p
      ∙ ⊎_elim
      (λ (q : i < a). get_or_filled_low f d a t (omega arith) (omega arith) i z q ∙ sym (get_or_filled_low f d a u (omega arith) l i z q))
      (λ (q : a ≤ i). get_or_filled_in f d a t (omega arith) (omega arith) i z q (omega arith) ∙ sym (get_or_filled_in f d a u (omega arith) l i z q (omega arith)))
      (lt_or_le i a))
      (λ (p : s ≤ i).
      ⊎_elim
      (λ (q : i < u). get_or_filled_in f x s u (omega arith) (omega arith) i z p q ∙ sym (get_or_filled_in f d a u (omega arith) l i z (omega arith) q))
      (λ (q : u ≤ i). get_or_filled_high f x s u (omega arith) (omega arith) i z q
      ∙ get_or_filled_high f d a t (omega arith) (omega arith) i z (omega arith) ∙ sym (get_or_filled_high f d a u (omega arith) l i z q))
      (lt_or_le i u))
      (lt_or_le i s))

  -- one more slot, with the next number given
  pub filled-to : (f : ℕ → A) (d : List A) (a t u : ℕ) → a ≤ t → A → t < length d → u ≡ t + 1 → set (filled f d a t) t (f t) ≡ filled f d a u
  filled-to f d a t u h z k e = filled_more f d a t h z k ∙ ap (filled f d a) (sym e)

  -- A curve whose rule changes from f to g at slots a up to t alone: the old curve with those slots written again is the new curve.
  pub local_curve : (f g : ℕ → A) (n a t : ℕ) (z : A) → a ≤ t → t ≤ n → ((i : ℕ) → i < n → (i < a) ⊎ (t ≤ i) → g i ≡ f i)
      → filled g (curve f n) a t ≡ curve g n
  local_curve f g n a t z h k same =
      let l : length (curve f n) ≡ n = length-tab f 0 n in
      let m : t ≤ length (curve f n) = omega arith in
      ext_get_or z _ _ (length-filled g (curve f n) a t h m ∙ l ∙ sym (length-tab g 0 n))
      (λ i b.
      let c : i < n = omega (arith, length-filled g (curve f n) a t h m) in
      let at_g : get_or (curve g n) i z ≡ g i = get_or-curve g n i z c in
      let at_f : get_or (curve f n) i z ≡ f i = get_or-curve f n i z c in
      ⊎_elim
      (λ (u : i < a). get_or_filled_low g (curve f n) a t h m i z u ∙ at_f ∙ sym (same i c (inl u)) ∙ sym at_g)
      (λ (u : a ≤ i). ⊎_elim
      (λ (v : i < t). get_or_filled_in g (curve f n) a t h m i z u v ∙ sym at_g)
      (λ (v : t ≤ i). get_or_filled_high g (curve f n) a t h m i z v ∙ at_f ∙ sym (same i c (inr v)) ∙ sym at_g)
      (lt_or_le i t))
      (lt_or_le i a))

  -- ---- entries first

  pub listed-none : (d : List A) → listed [] d ≡ d
  unfolding listed
  listed-none d = refl

  pub length-listed : (xs d : List A) → length xs ≤ length d → length (listed xs d) ≡ length d
  unfolding listed
  length-listed xs d h = simp (length-append, length-drop) (omega arith)

  -- one more entry
  pub listed_more : (xs d : List A) (x z : A) → length xs < length d → set (listed xs d) (length xs) x ≡ listed (xs ++ (x ∷ [])) d
  unfolding listed
  listed_more xs d x z h =
      let e : length (xs ++ (x ∷ [])) ≡ suc (length xs) = simp length-append (omega arith) in
      ap (λ (r : List A). set (xs ++ r) (length xs) x) (drop-cons d (length xs) z h)
      ∙ set_at xs (get_or d (length xs) z) (drop (suc (length xs)) d) x (length xs) refl
      ∙ sym (append_snoc xs x (drop (suc (length xs)) d))
      ∙ ap (λ (k : ℕ). (xs ++ (x ∷ [])) ++ drop k d) (sym e)

  pub get_or_listed_in : (xs d : List A) (i : ℕ) (z : A) → i < length xs → get_or (listed xs d) i z ≡ get_or xs i z
  unfolding listed
  get_or_listed_in xs d i z h = get_or-append xs (drop (length xs) d) z i h

  pub get_or_listed_past : (xs d : List A) (i : ℕ) (z : A) → length xs ≤ i → get_or (listed xs d) i z ≡ get_or d i z
  unfolding listed
  get_or_listed_past xs d i z h =
      let e : length xs + (i - length xs) ≡ i = omega arith in
      ap (λ (k : ℕ). get_or (xs ++ drop (length xs) d) k z) (sym e)
      ∙ get_or-append-add xs (drop (length xs) d) (i - length xs) z
      ∙ get_or-drop (length xs) d (i - length xs) z
      ∙ ap (λ (k : ℕ). get_or d k z) e

  -- the first slots, as many as there are entries
  pub listed-first : (xs d : List A) → take (length xs) (listed xs d) ≡ xs
  unfolding listed
  listed-first xs d = take_at xs (drop (length xs) d) (length xs) refl
