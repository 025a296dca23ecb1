-- A curve made of windows of another curve, cut at its ends: which of its slots a change of the other can change.
use mathlib.Core.Path.{◌≡◌, sym, ap, ◌∙◌}
use mathlib.Core.Logic.{◌⊎◌, inl, inr, ⊎_elim}
use mathlib.Core.List.{List}
use Prim.Native.Nat.{ℕ, ◌+◌, ◌-◌, ◌≤◌, ◌<◌, min}
use native.Mathlib.Omega.{arith}
use lib.ListN.{length, get_or, take}
use lib.Seq.{slice, get_or-take, get_or-drop, ext_get_or, length-slice}
use Rattle.numbers.specs.Lists.{curve, filled, around}
use Rattle.numbers.proofs.Tabs.{local_curve}

module _ {A : Type 0} where
  pub length-around : (w : ℕ) (c : List A) (t : ℕ) → length (around w c t) ≡ min (t + w + 1) (length c) - (t - w)
  unfolding around
  length-around w c t = length-slice (t - w) (min (t + w + 1) (length c)) c (omega arith)

  -- two curves that agree on the window have one window there
  pub around-same : (w : ℕ) (c d : List A) (t : ℕ) (z : A) → length c ≡ length d
      → ((i : ℕ) → t ≤ i + w → i ≤ t + w → i < length c → get_or c i z ≡ get_or d i z) → around w c t ≡ around w d t
  unfolding around
  around-same w c d t z e h =
      let m = min (t + w + 1) (length c) in
      let m≤ : m ≤ length c = omega arith in
      let same : min (t + w + 1) (length d) ≡ m = ap (λ (k : ℕ). min (t + w + 1) k) (sym e) in
      let lc : length (slice (t - w) m c) ≡ m - (t - w) = length-slice (t - w) m c m≤ in
      let m≤' : m ≤ length d = omega arith in
      let ld : length (slice (t - w) m d) ≡ m - (t - w) = length-slice (t - w) m d m≤' in
      rw same
      (ext_get_or z (slice (t - w) m c) (slice (t - w) m d) (lc ∙ sym ld)
      (λ i k.
      let u : t - w + i < m = omega arith in
      get_or-drop (t - w) (take m c) i z ∙ get_or-take m c (t - w + i) z u
      ∙ h (t - w + i) (omega arith) (omega arith) (omega arith)
      ∙ sym (get_or-drop (t - w) (take m d) i z ∙ get_or-take m d (t - w + i) z u)))

  -- a rule on windows, as a threshold is
  module _ {B : Type 0} (w : ℕ) (rule : List A → B) where
    abbrev pub windowed : List A → ℕ → B
    windowed c t = rule (around w c t)

    -- c and d agree outside a up to e: the windowed curve of c with slots a - w up to e + w written again is that of d
    pub windowed_local : (c d : List A) (n a e : ℕ) (z : A) (y : B) → length c ≡ n → length d ≡ n → a ≤ e → a ≤ n
        → ((i : ℕ) → i < n → (i < a) ⊎ (e ≤ i) → get_or d i z ≡ get_or c i z)
        → filled (windowed d) (curve (windowed c) n) (a - w) (min (e + w) n) ≡ curve (windowed d) n
    windowed_local c d n a e z y lc ld h g same =
        local_curve (windowed c) (windowed d) n (a - w) (min (e + w) n) y (omega arith) (omega arith)
        (λ i b. ⊎_elim
        (λ (u : i < a - w). ap rule (around-same w d c i z (ld ∙ sym lc) (λ j p q r. same j (omega arith) (inl (omega arith)))))
        (λ (u : min (e + w) n ≤ i). ap rule (around-same w d c i z (ld ∙ sym lc) (λ j p q r. same j (omega arith) (inr (omega arith))))))
