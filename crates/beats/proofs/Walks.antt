-- The links walked back: where every link leads to an earlier frame, any number of steps above the frame gives the same beats.
use mathlib.Core.Path.{◌≡◌, refl, sym, ap, ◌∙◌}
use mathlib.Core.Logic.{◌⊎◌, inl, inr, ⊎_elim}
use mathlib.Core.List.{List, [], ◌∷◌, ◌++◌}
use Prim.Native.Nat.{ℕ, zero, suc, ◌+◌, ◌≤◌, ◌<◌}
use native.Mathlib.Nat.{not-suc-le-zero, le_of_suc-le-suc}
use native.Mathlib.Numerals.{add-one}
use native.Mathlib.Omega.{arith}
use borrow.Author.Tests.{eq-eqb, ne_eqb, eqb-true, eqb-false}
use lib.Dec.{eqb}
use lib.ListN.{length, get_or, length-append}
use Rattle.numbers.specs.Rounded.{pick}
use Rattle.numbers.proofs.Tests.{which, pick_true, pick-false}
use Rattle.beat_links.specs.Extensions.{no_link}
use Rattle.beats.specs.Grids.{link_at, walked, beats_to}
use Rattle.beats.specs.Inner.{Descends}

-- what the code reads is the list's link
pub link_read : (links : List ℕ) (t : ℕ) → t < length links → get_or links t 0 ≡ link_at links t
link_read [] t h = absurd (not-suc-le-zero h)
link_read (x ∷ xs) zero h = refl
link_read (x ∷ xs) (suc t) h = link_read xs t (le_of_suc-le-suc h)

module _ (link : ℕ → ℕ) where
  turn : (k t : ℕ) → walked (suc k) link t ≡ pick (eqb (link t) no_link) [] (walked k link (link t)) ++ (t ∷ [])
  unfolding walked
  turn k t = refl

  -- a frame with no link is the first beat
  pub alone : (k t : ℕ) → link t ≡ no_link → walked (suc k) link t ≡ t ∷ []
  alone k t e = turn k t ∙ ap (λ (l : List ℕ). l ++ (t ∷ [])) (pick_true (eqb (link t) no_link) [] (walked k link (link t)) (eq-eqb (link t) no_link e))

  -- any other follows its link's beats
  pub after : (k t : ℕ) → (link t ≡ no_link → ⊥) → walked (suc k) link t ≡ walked k link (link t) ++ (t ∷ [])
  after k t e = turn k t ∙ ap (λ (l : List ℕ). l ++ (t ∷ [])) (pick-false (eqb (link t) no_link) [] (walked k link (link t)) (ne_eqb (link t) no_link e))

  -- a frame has no link, or it has one
  pub ends : (t : ℕ) → (link t ≡ no_link) ⊎ (link t ≡ no_link → ⊥)
  ends t = ⊎_elim (λ e. inl (eqb-true (link t) no_link e)) (λ e. inr (eqb-false (link t) no_link e)) (which (eqb (link t) no_link))

  module _ (top : ℕ) (down : Descends link top) where
    enough : (j k t : ℕ) → t ≤ top → t < j → t < k → walked j link t ≡ walked k link t
    enough zero k t h a b = absurd (omega arith)
    enough (suc j) zero t h a b = absurd (omega arith)
    enough (suc j) (suc k) t h a b =
        ⊎_elim
        (λ e. alone j t e ∙ sym (alone k t e))
        (λ e.
        let d = down t h e in
        after j t e ∙ ap (λ (l : List ℕ). l ++ (t ∷ [])) (enough j k (link t) (omega (arith, d)) (omega (arith, d)) (omega (arith, d))) ∙ sym (after k t e))
        (ends t)

    few : (k t : ℕ) → t ≤ top → t < k → length (walked k link t) ≤ t + 1
    few zero t h a = absurd (omega arith)
    few (suc k) t h a =
        ⊎_elim
        (λ e. omega (arith, ap length (alone k t e)))
        (λ e.
        let d = down t h e in
        let n = ap length (after k t e) ∙ length-append (walked k link (link t)) (t ∷ []) in
        omega (arith, n, d, few k (link t) (omega (arith, d)) (omega (arith, d))))
        (ends t)

    -- a link lies below its frame
    pub beats-after : (t : ℕ) → t ≤ top → (link t ≡ no_link → ⊥) → beats_to link t ≡ beats_to link (link t) ++ (t ∷ [])
    unfolding beats_to
    beats-after t h e =
        let d = down t h e in
        ap (λ (k : ℕ). walked k link t) (add-one t) ∙ after t t e
        ∙ ap (λ (l : List ℕ). l ++ (t ∷ [])) (enough t (link t + 1) (link t) (omega (arith, d)) d (omega arith))

    -- no more beats than frames
    pub beats-few : (t : ℕ) → t ≤ top → length (beats_to link t) ≤ t + 1
    unfolding beats_to
    beats-few t h = few (t + 1) t h (omega arith)

  pub beats-alone : (t : ℕ) → link t ≡ no_link → beats_to link t ≡ t ∷ []
  unfolding beats_to
  beats-alone t e = ap (λ (k : ℕ). walked k link t) (add-one t) ∙ alone t t e

  -- some beat at least
  pub beats-some : (t : ℕ) → 1 ≤ length (beats_to link t)
  unfolding beats_to
  beats-some t =
      let n = ap (λ (k : ℕ). length (walked k link t)) (add-one t) ∙ ap length (turn t t)
      ∙ length-append (pick (eqb (link t) no_link) [] (walked t link (link t))) (t ∷ []) in
      omega (arith, n)

-- links that agree up to a frame lead through the same beats
module _ (link link' : ℕ → ℕ) (top : ℕ) (same : (u : ℕ) → u ≤ top → link u ≡ link' u) (down : Descends link top) where
  walked_same : (k t : ℕ) → t ≤ top → walked k link t ≡ walked k link' t
  unfolding walked
  walked_same zero t h = refl
  walked_same (suc k) t h =
      ⊎_elim
      (λ e. alone link k t e ∙ sym (alone link' k t (sym (same t h) ∙ e)))
      (λ e.
      after link k t e
      ∙ ap (λ (l : List ℕ). l ++ (t ∷ [])) (walked_same k (link t) (omega (arith, down t h e)) ∙ ap (walked k link') (same t h))
      ∙ sym (after link' k t (λ z. e (same t h ∙ z))))
      (ends link t)

  pub beats-same : (t : ℕ) → t ≤ top → beats_to link t ≡ beats_to link' t
  unfolding beats_to
  beats-same t h = walked_same (t + 1) t h
