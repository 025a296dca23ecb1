-- A list written over a lent one, and rows of a slab: which rows a patch leaves alone.
use mathlib.Core.Path.{◌≡◌, sym, ap, ◌∙◌}
use mathlib.Core.Logic.{◌⊎◌, inl, inr}
use mathlib.Core.List.{List, [], ◌++◌}
use mathlib.Core.Bool.{Bool, true}
use Prim.Native.Nat.{ℕ, ◌+◌, ◌-◌, ◌*◌, ◌≤◌, ◌<◌, min}
use native.Mathlib.Nat.{add-mul, suc-mul, mul-le-mul_right, min-le_left}
use native.Mathlib.Omega.{arith}
use lib.ListN.{length, get_or, take, drop, length-take, length-drop, get_or-append}
use lib.Seq.{paste-zero, length-paste, length_paste_head, length-take-le, get_or-take, get_or-drop, get_or-append-add, ext_get_or}
use Rattle.numbers.specs.Lists.{row, over, every}
use Rattle.numbers.proofs.Everys.{every_append, every_take, every_drop}

pub row_end : (t n b : ℕ) → t < n → t * b + b ≤ n * b
row_end t n b h = rw (← suc-mul) (mul-le-mul_right b h)

module _ {A : Type 0} where
  pub length-row : (s : List A) (n b t : ℕ) → length s ≡ n * b → t < n → length (row s b t) ≡ b
  unfolding row
  length-row s n b t e h = length-take-le b (drop (t * b) s) (simp length-drop (omega (arith, row_end t n b h)))

  pub get_or-row : (s : List A) (b t i : ℕ) (z : A) → i < b → get_or (row s b t) i z ≡ get_or s (t * b + i) z
  unfolding row
  get_or-row s b t i z h = get_or-take b (drop (t * b) s) i z h ∙ get_or-drop (t * b) s i z

  pub every-row : (p : A → Bool) (s : List A) (b t : ℕ) → every p s ≡ true → every p (row s b t) ≡ true
  unfolding row
  every-row p s b t e = every_take p (drop (t * b) s) b (every_drop p s (t * b) e)

  -- a row is its elements
  pub row_same : (s s' : List A) (b t : ℕ) (z : A) → length s' ≡ length s
      → ((i : ℕ) → i < b → get_or s' (t * b + i) z ≡ get_or s (t * b + i) z) → row s' b t ≡ row s b t
  unfolding row
  row_same s s' b t z e h =
      ext_get_or z _ _ (simp (length-take, length-drop, e))
      (λ i k.
      let k' : i < min b (length s' - t * b) = simp (length-take, length-drop) at k in
      let u : i < b = omega (arith, min-le_left b (length s' - t * b)) in
      get_or-take b (drop (t * b) s') i z u ∙ get_or-drop (t * b) s' i z ∙ h i u
      ∙ sym (get_or-take b (drop (t * b) s) i z u ∙ get_or-drop (t * b) s i z))

  pub over_none : (s : List A) (k : ℕ) → over s k [] ≡ s
  unfolding over
  over_none s k = sym (paste-zero s k [])

  module _ (d : List A) (at : ℕ) (src : List A) (fits : at + length src ≤ length d) where
    pub length_over : length (over d at src) ≡ length d
    unfolding over
    length_over = length-paste d at src (length src) fits (omega arith)

    pub get_or_over_out : (j : ℕ) (z : A) → (j < at) ⊎ (at + length src ≤ j) → get_or (over d at src) j z ≡ get_or d j z
    unfolding over
    get_or_over_out j z (inl u) =
        let h : length (take at d ++ take (length src) src) ≡ at + length src = length_paste_head d at src (length src) (omega arith) (omega arith) in
        get_or-append (take at d ++ take (length src) src) (drop (at + length src) d) z j (omega arith)
        ∙ get_or-append (take at d) (take (length src) src) z j (omega (arith, length-take-le at d (omega arith)))
        ∙ get_or-take at d j z u
    get_or_over_out j z (inr u) =
        let h : length (take at d ++ take (length src) src) ≡ at + length src = length_paste_head d at src (length src) (omega arith) (omega arith) in
        let q : length (take at d ++ take (length src) src) + (j - (at + length src)) ≡ j = omega arith in
        let g : at + length src + (j - (at + length src)) ≡ j = omega arith in
        ap (λ (k : ℕ). get_or (take at d ++ take (length src) src ++ drop (at + length src) d) k z) (sym q)
        ∙ get_or-append-add (take at d ++ take (length src) src) (drop (at + length src) d) (j - (at + length src)) z
        ∙ get_or-drop (at + length src) d (j - (at + length src)) z
        ∙ ap (λ (k : ℕ). get_or d k z) g

  pub every-over : (p : A → Bool) (s : List A) (k : ℕ) (new : List A) → every p s ≡ true → every p new ≡ true → every p (over s k new) ≡ true
  unfolding over
  every-over p s k new h g =
      every_append p (take k s ++ take (length new) new) (drop (k + length new) s)
      (every_append p (take k s) (take (length new) new) (every_take p s k h) (every_take p new (length new) g))
      (every_drop p s (k + length new) h)

  -- k rows from row a on are replaced by new
  module _ (s new : List A) (n b a k : ℕ) (z : A) (whole : length s ≡ n * b) (rows : length new ≡ k * b) (inside : a + k ≤ n) where
    pub patch_fits : a * b + length new ≤ length s
    patch_fits = omega (arith, add-mul a k b, mul-le-mul_right b inside)

    pub length_patched : length (over s (a * b) new) ≡ n * b
    length_patched = length_over s (a * b) new patch_fits ∙ whole

    -- a row that is not replaced stays
    pub row-over : (t : ℕ) → (t < a) ⊎ (a + k ≤ t) → row (over s (a * b) new) b t ≡ row s b t
    row-over t (inl u) =
        row_same s _ b t z (length_over s (a * b) new patch_fits)
        (λ i h. get_or_over_out s (a * b) new patch_fits (t * b + i) z (inl (omega (arith, row_end t a b u))))
    row-over t (inr u) =
        row_same s _ b t z (length_over s (a * b) new patch_fits)
        (λ i h. get_or_over_out s (a * b) new patch_fits (t * b + i) z (inr (omega (arith, add-mul a k b, mul-le-mul_right b u))))

    written_in_lem : (i : ℕ) → i < length new → get_or (over s (a * b) new) (a * b + i) z ≡ get_or new i z
    unfolding over
    written_in_lem i h =
        let l : length (take (a * b) s) ≡ a * b = length-take-le (a * b) s (omega (arith, patch_fits)) in
        let e : length (take (a * b) s ++ take (length new) new) ≡ a * b + length new =
        length_paste_head s (a * b) new (length new) (omega (arith, patch_fits)) (omega arith) in
        get_or-append (take (a * b) s ++ take (length new) new) (drop (a * b + length new) s) z (a * b + i) (omega arith)
        ∙ ap (λ (m : ℕ). get_or (take (a * b) s ++ take (length new) new) (m + i) z) (sym l)
        ∙ get_or-append-add (take (a * b) s) (take (length new) new) i z ∙ get_or-take (length new) new i z h

    -- a replaced row is the new one
    pub row_over_in : (j : ℕ) → j < k → row (over s (a * b) new) b (a + j) ≡ row new b j
    row_over_in j h =
        ext_get_or z _ _ (length-row _ n b (a + j) length_patched (omega arith) ∙ sym (length-row new k b j rows h))
        (λ i u.
        let v : i < b = omega (arith, length-row (over s (a * b) new) n b (a + j) length_patched (omega arith)) in
        let p : (a + j) * b + i ≡ a * b + (j * b + i) = omega (arith, add-mul a j b) in
        get_or-row _ b (a + j) i z v ∙ ap (λ (m : ℕ). get_or (over s (a * b) new) m z) p
        ∙ written_in_lem (j * b + i) (omega (arith, row_end j k b h)) ∙ sym (get_or-row new b j i z v))
