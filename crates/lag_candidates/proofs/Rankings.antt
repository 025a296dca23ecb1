-- The ranked maxima, one slot more: the first of them that passes a test is the greatest that does, so that a scan which keeps the
-- greatest so far finds it without a sort. Assumes nothing.
use mathlib.Core.Path.{◌≡◌, refl, sym, ap, ◌∙◌}
use mathlib.Core.Logic.{◌⊎◌, inl, inr, ⊎_elim}
use mathlib.Core.Bool.{Bool, true, false}
use mathlib.Core.List.{List, [], ◌∷◌}
use Prim.Native.Nat.{ℕ, zero, suc, ◌+◌, ◌≤◌, ◌<◌}
use native.Mathlib.Numerals.{add-one}
use native.Mathlib.Omega.{arith}
use borrow.Author.Tests.{eq-eqb, ne_eqb, le-ltb}
use lib.Dec.{eqb}
use lib.ListN.{length, get_or}
use lib.Ieee.{Float, nan, lt, le}
use Rattle.numbers.specs.Rounded.{nought, pick}
use Rattle.numbers.proofs.Tests.{pick_true, pick-false, and_right, by_pick}
use Rattle.sizes.specs.Sizes.{Each, none, more}
use Rattle.sizes.proofs.Lists.{each_map}
use Rattle.sizes.proofs.Order.{lt_is_le, lt_right, not_lt, le_then_lt}
use Rattle.lag_candidates.specs.Candidates.{left_fine, right_fine, maximum_at, ahead, inserted, ranked_to, ranked, first_passing}

-- what the first that passes is: none does, or it has what each has
pub first_cases : (P : ℕ → Type 0) (p : ℕ → Bool) (js : List ℕ) (n : ℕ) → Each P js → (first_passing p js n ≡ n) ⊎ P (first_passing p js n)
unfolding first_passing
first_cases P p [] n none = inl refl
first_cases P p (j ∷ js) n (more h e) =
    by_pick (λ k. (k ≡ n) ⊎ P k) (p j) j (first_passing p js n) (λ t. inr h) (λ t. first_cases P p js n e)

module _ (ws : List Float) where
  abbrev at : ℕ → Float
  at i = get_or ws i nan

  -- a list of slots below t, of weights above 0, none less than a later one
  data Falling (t : ℕ) : List ℕ → Type 0 where
    empty : Falling t []
    first : {j : ℕ} {js : List ℕ} → j < t → lt nought (at j) ≡ true → Each (λ k. le (at k) (at j) ≡ true) js → Falling t js → Falling t (j ∷ js)

  falling_on : {t : ℕ} {js : List ℕ} → Falling t js → Falling (suc t) js
  falling_on empty = empty
  falling_on {t} (first {j} h p e f) = let k : j < suc t = omega arith in first k p e (falling_on f)

  -- among lower slots the weight alone decides
  ahead-later : (t j : ℕ) → j < t → ahead ws t j ≡ lt (at j) (at t)
  unfolding ahead
  ahead-later t j h = rw (le-ltb t j (omega arith)) (go (lt (at j) (at t)) (lt (at t) (at j)))
    where
      go : (a b : Bool) → pick a true (pick b false false) ≡ a
      go true b = refl
      go false true = refl
      go false false = refl

  -- what holds of each and of one more
  each_inserted : (P : ℕ → Type 0) (t : ℕ) (js : List ℕ) → P t → Each P js → Each P (inserted ws t js)
  unfolding inserted
  each_inserted P t [] p e = more p none
  each_inserted P t (j ∷ js) p (more q e) =
      by_pick (Each P) (ahead ws t j) _ _ (λ b. more p (more q e)) (λ b. more q (each_inserted P t js p e))

  -- no weight of the list is above that of its first slot
  module _ (t : ℕ) (pos : lt nought (at t) ≡ true) where
    not_less : (j : ℕ) → lt nought (at j) ≡ true → j < t → ahead ws t j ≡ false → le (at t) (at j) ≡ true
    not_less j q h b = not_lt (at j) (at t) (lt_right nought (at j) q) (lt_right nought (at t) pos) (sym (ahead-later t j h) ∙ b)

    -- slot t stands before slots j and js
    all-below : (j : ℕ) (js : List ℕ) → j < t → lt nought (at j) ≡ true → ahead ws t j ≡ true → Each (λ k. le (at k) (at j) ≡ true) js
        → Each (λ k. lt (at k) (at t) ≡ true) (j ∷ js)
    all-below j js h q b e =
        let above : lt (at j) (at t) ≡ true = sym (ahead-later t j h) ∙ b in
        more above (each_map (λ k l. le_then_lt (at k) (at j) (at t) l above) e)

    falling_inserted : {js : List ℕ} → Falling t js → Falling (suc t) (inserted ws t js)
    unfolding inserted
    falling_inserted empty = let k : t < suc t = omega arith in first k pos none empty
    falling_inserted (first {j} {js} h q e f) =
        by_pick (Falling (suc t)) (ahead ws t j) _ _
        (λ b. let k : t < suc t = omega arith in first k pos (each_map (λ k l. lt_is_le (at k) (at t) l) (all-below j js h q b e)) (falling_on (first h q e f)))
        (λ b. let k : j < suc t = omega arith in first k q (each_inserted (λ k. le (at k) (at j) ≡ true) t js (not_less j q h b) e) (falling_inserted f))

    -- the greater of slot t and the first that passes so far, which is n where none does
    abbrev leader : (n b : ℕ) → ℕ
    leader n b = pick (eqb b n) t (pick (lt (at b) (at t)) t b)

    leader_new : (n b : ℕ) → (b ≡ n) ⊎ (lt (at b) (at t) ≡ true) → leader n b ≡ t
    leader_new n b (inl e) = pick_true _ _ _ (eq-eqb b n e)
    leader_new n b (inr e) = rw e (by_pick (λ k. k ≡ t) (eqb b n) t t (λ u. refl) (λ u. refl))

    leader_old : (n b : ℕ) → b < n → lt (at b) (at t) ≡ false → leader n b ≡ b
    leader_old n b h e = rw (ne_eqb b n (λ u. omega arith), e)

    -- a slot j that slot t stands behind
    behind : (a b : Bool) (n j f : ℕ) → leader n j ≡ j → pick a j (pick b (leader n f) f) ≡ pick b (leader n (pick a j f)) (pick a j f)
    behind true true n j f e = sym e
    behind true false n j f e = refl
    behind false b n j f e = refl

    first-inserted : (p : ℕ → Bool) (n : ℕ) {js : List ℕ} → t ≤ n → Falling t js
        → first_passing p (inserted ws t js) n ≡ pick (p t) (leader n (first_passing p js n)) (first_passing p js n)
    unfolding inserted first_passing
    first-inserted p n l empty = rw (eq-eqb n n refl) refl
    first-inserted p n l (first {j} {js} h q e f) =
        let x : ℕ = pick (p j) j (first_passing p js n) in
        by_pick (λ (ks : List ℕ). first_passing p ks n ≡ pick (p t) (leader n x) x) (ahead ws t j) (t ∷ j ∷ js) (j ∷ inserted ws t js)
        (λ b. ap (λ (k : ℕ). pick (p t) k x) (sym (leader_new n x (first_cases (λ k. lt (at k) (at t) ≡ true) p (j ∷ js) n (all-below j js h q b e)))))
        (λ b. ap (λ (k : ℕ). pick (p j) j k) (first-inserted p n l f)
        ∙ behind (p j) (p t) n j (first_passing p js n) (leader_old n j (omega arith) (sym (ahead-later t j h) ∙ b)))

  -- the maxima below t are so ranked
  maximum_above : (t : ℕ) → maximum_at ws t ≡ true → lt nought (at t) ≡ true
  unfolding maximum_at
  maximum_above t e = and_right (right_fine ws t) _ (and_right (left_fine ws t) _ e)

  ranked_falling : (t : ℕ) → Falling t (ranked_to ws t)
  unfolding ranked_to
  ranked_falling zero = empty
  ranked_falling (suc t) =
      by_pick (Falling (suc t)) (maximum_at ws t) _ _
      (λ b. falling_inserted t (maximum_above t b) (ranked_falling t))
      (λ b. falling_on (ranked_falling t))

  falling_below : {t : ℕ} {js : List ℕ} → Falling t js → Each (λ j. j < t) js
  falling_below empty = none
  falling_below (first h p e f) = more h (falling_below f)

  pub ranked-below : (t : ℕ) → Each (λ j. j < t) (ranked_to ws t)
  ranked-below t = falling_below (ranked_falling t)

  -- the first that passes is a slot, where there is one
  pub first_slot : (p : ℕ → Bool) (b : ℕ) → b ≡ first_passing p (ranked ws) (length ws) → (b ≡ length ws → ⊥) → b < length ws
  unfolding ranked
  first_slot p b e a =
      ⊎_elim (λ (u : b ≡ length ws). absurd (a u)) (λ u. u)
      (rw (← e) at (first_cases (λ j. j < length ws) p (ranked_to ws (length ws)) (length ws) (ranked-below (length ws))))

  -- ---- one slot more, by what it is

  module _ (p : ℕ → Bool) (n t best : ℕ) (l : t < n) (is : best ≡ first_passing p (ranked_to ws t) n) where
    step_kept : maximum_at ws t ≡ false → first_passing p (ranked_to ws (t + 1)) n ≡ best
    unfolding ranked_to
    step_kept e = rw add-one (ap (λ (ks : List ℕ). first_passing p ks n) (pick-false _ _ _ e) ∙ sym is)

    step : maximum_at ws t ≡ true → first_passing p (ranked_to ws (t + 1)) n ≡ pick (p t) (pick (eqb best n) t (pick (lt (at best) (at t)) t best)) best
    unfolding ranked_to
    step e =
        rw add-one
        (ap (λ (ks : List ℕ). first_passing p ks n) (pick_true _ _ _ e)
        ∙ first-inserted t (maximum_above t e) p n (omega arith) (ranked_falling t)
        ∙ ap (λ (b : ℕ). pick (p t) (pick (eqb b n) t (pick (lt (at b) (at t)) t b)) b) (sym is))

    -- no maximum
    pub next_no_maximum : maximum_at ws t ≡ false → best ≡ first_passing p (ranked_to ws (t + 1)) n
    next_no_maximum e = sym (step_kept e)

    -- a maximum that fails the test
    pub next_fails : maximum_at ws t ≡ true → p t ≡ false → best ≡ first_passing p (ranked_to ws (t + 1)) n
    next_fails e f = sym (step e ∙ pick-false _ _ _ f)

    -- the first that passes
    pub next_alone : maximum_at ws t ≡ true → p t ≡ true → best ≡ n → t ≡ first_passing p (ranked_to ws (t + 1)) n
    next_alone e f a = sym (step e ∙ pick_true _ _ _ f ∙ pick_true _ _ _ (eq-eqb best n a))

    -- another that passes: a slot holds the best so far, and the greater of the two is the best
    module _ (e : maximum_at ws t ≡ true) (f : p t ≡ true) (a : best ≡ n → ⊥) where
      pub best_below : best < t
      best_below =
          ⊎_elim (λ (u : best ≡ n). absurd (a u)) (λ u. u)
          (rw (← is) at (first_cases (λ j. j < t) p (ranked_to ws t) n (ranked-below t)))

      pub next_greater : lt (at best) (at t) ≡ true → t ≡ first_passing p (ranked_to ws (t + 1)) n
      next_greater g = sym (step e ∙ pick_true _ _ _ f ∙ pick-false _ _ _ (ne_eqb best n a) ∙ pick_true _ _ _ g)

      pub next_not_greater : lt (at best) (at t) ≡ false → best ≡ first_passing p (ranked_to ws (t + 1)) n
      next_not_greater g = sym (step e ∙ pick_true _ _ _ f ∙ pick-false _ _ _ (ne_eqb best n a) ∙ pick-false _ _ _ g)
