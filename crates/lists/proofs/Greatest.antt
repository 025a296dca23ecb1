-- The first greatest of a run of values, one value at a time; and what the place that is found has, for every list and for one without a NaN.
use Rattle.std.proofs.Common.{◌≡◌, ℕ, zero, suc, ◌+◌, ◌-◌, ◌<◌, ◌≤◌, Bool, true, false, not, T, sym, refl, ap, ◌∙◌, subst, ⊎_elim, zero-le, le_refl, add-one, arith}
use lib.Ieee.{Float, is_nan, lt, le}
use Rattle.numbers.specs.Rounded.{pick}
use Rattle.numbers.proofs.Tests.{which, lt_or_le, true_not_false}
use Rattle.sizes.proofs.Order.{lt_is_le, lt_back, le_back, le_self, lt_right, lt_self, lt_then_lt, lt_then_le, not_lt, not_le}
use Rattle.lists.specs.declared.Best.{Best}
use Rattle.lists.specs.Greatest.{greatest, first_greatest}

abbrev pub best : Float → ℕ → Best
best v a = record { value = v; at = a }

module _ (f : ℕ → Float) where
  turn : (u n : ℕ) (v : Float) (a : ℕ) → greatest f u (suc n) (best v a) ≡ greatest f (suc u) n (pick (lt v (f u)) (best (f u) u) (best v a))
  unfolding greatest
  turn u n v a = refl

  chosen : (b : Bool) (v c : Float) (u a : ℕ) → best (pick b c v) (pick b u a) ≡ pick b (best c u) (best v a)
  chosen true v c u a = refl
  chosen false v c u a = refl

  -- one value, by the way that the comparison came out
  pub greatest_step : (u end : ℕ) (v v' c : Float) (a a' : ℕ) (b : Bool) → u < end → c ≡ f u → lt v c ≡ b → v' ≡ pick b c v → a' ≡ pick b u a
      → greatest f (u + 1) (end - (u + 1)) (best v' a') ≡ greatest f u (end - u) (best v a)
  greatest_step u end v v' c a a' b h ec eb ev ea =
      let n : end - u ≡ suc (end - (u + 1)) = omega arith in
      let l : lt v (f u) ≡ b = ap (lt v) (sym ec) ∙ eb in
      ap (λ (x : Float). greatest f (u + 1) (end - (u + 1)) (best x a')) (ev ∙ ap (λ (x : Float). pick b x v) ec)
      ∙ ap (λ (k : ℕ). greatest f (u + 1) (end - (u + 1)) (best (pick b (f u) v) k)) ea
      ∙ ap (λ (k : ℕ). greatest f k (end - (u + 1)) (best (pick b (f u) v) (pick b u a))) (add-one u)
      ∙ ap (greatest f (suc u) (end - (u + 1))) (chosen b v (f u) u a ∙ ap (λ (t : Bool). pick t (best (f u) u) (best v a)) (sym l))
      ∙ sym (turn u (end - (u + 1)) v a)
      ∙ ap (λ (k : ℕ). greatest f u k (best v a)) (sym n)

  pub greatest_end : (u end : ℕ) (x : Best) → end ≤ u → x ≡ greatest f u (end - u) x
  unfolding greatest
  greatest_end u end x h = let z : end - u ≡ 0 = omega arith in rw z

-- rules that agree on the run have one greatest
pub greatest_ext : (f g : ℕ → Float) (u n : ℕ) (x : Best) → ((i : ℕ) → u ≤ i → i < u + n → f i ≡ g i) → greatest f u n x ≡ greatest g u n x
unfolding greatest
greatest_ext f g u zero x h = refl
greatest_ext f g u (suc n) x h =
    greatest_ext f g (suc u) n _ (λ i p q. h i (omega arith) (omega arith))
    ∙ ap (λ (c : Float). greatest g (suc u) n (pick (lt x.value c) (best c u) x)) (h u (le_refl u) (omega arith))

-- ---- what the greatest is

-- frame k has the first greatest of n values from u on, and it is greater than v
pub record Tops (f : ℕ → Float) (u n : ℕ) (v : Float) (k : ℕ) : Type 0 where
  pub from : u ≤ k
  pub to : k < u + n
  pub above : lt v (f k) ≡ true
  pub most : (i : ℕ) → u ≤ i → i < u + n → lt (f k) (f i) ≡ false
  pub first : (i : ℕ) → u ≤ i → i < k → le (f k) (f i) ≡ false

-- none of them is greater than v
abbrev pub NoneAbove : (ℕ → Float) → (u n : ℕ) → Float → Type 0
NoneAbove f u n v = (i : ℕ) → u ≤ i → i < u + n → lt v (f i) ≡ false

-- which of the two it is, y being the greatest that began with x
pub data Outcome (f : ℕ → Float) (u n : ℕ) (x y : Best) : Type 0 where
  kept : y ≡ x → NoneAbove f u n x.value → Outcome f u n x y
  found : (k : ℕ) → y ≡ best (f k) k → Tops f u n x.value k → Outcome f u n x y

-- a test that cannot be true
pub no_lt : (x y : Float) → (lt x y ≡ true → ⊥) → lt x y ≡ false
no_lt x y h = ⊎_elim (λ e. absurd (h e)) (λ e. e) (which (lt x y))

pub no_le : (x y : Float) → (le x y ≡ true → ⊥) → le x y ≡ false
no_le x y h = ⊎_elim (λ e. absurd (h e)) (λ e. e) (which (le x y))

-- what holds of the first frame and of all later ones
each_from : (P : ℕ → Type 0) (u : ℕ) → P u → ((i : ℕ) → suc u ≤ i → P i) → (i : ℕ) → u ≤ i → P i
each_from P u here later i h = ⊎_elim (λ (g : i < suc u). let z : u ≡ i = omega arith in subst P z here) (λ (g : suc u ≤ i). later i g) (lt_or_le i (suc u))

module _ (f : ℕ → Float) (u n : ℕ) (x y : Best) where
  -- what is said of each frame of the run, and of each before k
  abbrev NotBelow : Float → ℕ → Type 0
  NotBelow v i = i < u + suc n → lt v (f i) ≡ false

  abbrev Less : Float → ℕ → ℕ → Type 0
  Less v k i = i < k → le v (f i) ≡ false

  -- the first value is greater
  starts : lt x.value (f u) ≡ true → Outcome f (suc u) n (best (f u) u) y → Outcome f u (suc n) x y
  starts b (kept e none) =
      found u e
      record {
        from = le_refl u;
        to = omega arith;
        above = b;
        most = each_from (NotBelow (f u)) u (λ q. lt_self (f u)) (λ i p q. none i p (omega arith));
        first = λ i p q. absurd (omega arith);
      }
  starts b (found k e t) =
      found k e
      record {
        from = omega (arith, t.from);
        to = omega (arith, t.to);
        above = lt_then_lt x.value (f u) (f k) b t.above;
        most = each_from (NotBelow (f k)) u (λ q. le_back (f u) (f k) (lt_is_le (f u) (f k) t.above)) (λ i p q. t.most i p (omega arith));
        first = each_from (Less (f k) k) u (λ q. lt_back (f u) (f k) t.above) (λ i p q. t.first i p q);
      }

  -- it is not
  passes : lt x.value (f u) ≡ false → Outcome f (suc u) n x y → Outcome f u (suc n) x y
  passes b (kept e none) = kept e (each_from (NotBelow x.value) u (λ q. b) (λ i p q. none i p (omega arith)))
  passes b (found k e t) =
      let not-above : lt x.value (f u) ≡ true → ⊥ = λ h. true_not_false (lt x.value (f u)) h b in
      found k e
      record {
        from = omega (arith, t.from);
        to = omega (arith, t.to);
        above = t.above;
        most =
            each_from (NotBelow (f k)) u (λ q. no_lt (f k) (f u) (λ g. not-above (lt_then_lt x.value (f k) (f u) t.above g)))
            (λ i p q. t.most i p (omega arith));
        first = each_from (Less (f k) k) u (λ q. no_le (f k) (f u) (λ g. not-above (lt_then_le x.value (f k) (f u) t.above g))) (λ i p q. t.first i p q);
      }

pub outcome : (f : ℕ → Float) (u n : ℕ) (x : Best) → Outcome f u n x (greatest f u n x)
unfolding greatest
outcome f u zero x = kept refl (λ i p q. absurd (omega arith))
outcome f u (suc n) x =
    ⊎_elim
    (λ b. rw b (starts f u n x _ b (outcome f (suc u) n (best (f u) u))))
    (λ b. rw b (passes f u n x _ b (outcome f (suc u) n x)))
    (which (lt x.value (f u)))

-- there is one first greatest
pub tops_unique : (f : ℕ → Float) (u n : ℕ) (v : Float) (j k : ℕ) → Tops f u n v j → Tops f u n v k → j ≡ k
tops_unique f u n v j k s t =
    let clash : (a b : ℕ) → Tops f u n v a → Tops f u n v b → a < b → ⊥ = λ a b p q h.
    true_not_false (le (f b) (f a))
    (not_lt (f a) (f b) (lt_right v (f a) p.above) (lt_right v (f b) q.above) (p.most b q.from q.to))
    (q.first a p.from h)
    in
    ⊎_elim (λ (h : j < k). absurd (clash j k s t h))
    (λ (h : k ≤ j). ⊎_elim (λ (g : k < j). absurd (clash k j t s g)) (λ (g : j ≤ k). omega arith) (lt_or_le k j))
    (lt_or_le j k)

-- so whatever is found to be the first greatest is it
pub greatest-is : (f : ℕ → Float) (u n : ℕ) (x : Best) (k : ℕ) → Tops f u n x.value k → best (f k) k ≡ greatest f u n x
greatest-is f u n x k t = by (outcome f u n x)
  where
    by : Outcome f u n x (greatest f u n x) → best (f k) k ≡ greatest f u n x
    by (kept e none) = true_not_false (lt x.value (f k)) t.above (none k t.from t.to)
    by (found j e s) = ap (λ (i : ℕ). best (f i) i) (tops_unique f u n x.value k j t s) ∙ sym e

-- and where nothing is greater it is what it began with
pub greatest-none : (f : ℕ → Float) (u n : ℕ) (x : Best) → NoneAbove f u n x.value → x ≡ greatest f u n x
greatest-none f u n x none = by (outcome f u n x)
  where
    by : Outcome f u n x (greatest f u n x) → x ≡ greatest f u n x
    by (kept e h) = sym e
    by (found j e s) = true_not_false (lt x.value (f j)) s.above (none j s.from s.to)

-- ---- the first greatest of all

-- rules that agree on every place have one first greatest
pub first_ext : (f g : ℕ → Float) (n : ℕ) → 1 ≤ n → ((i : ℕ) → i < n → f i ≡ g i) → first_greatest f n ≡ first_greatest g n
unfolding first_greatest
first_ext f g n h same =
    ap (λ (b : Best). b.at)
    (greatest_ext f g 1 (n - 1) (best (f 0) 0) (λ i p q. same i (omega arith))
    ∙ ap (λ (v : Float). greatest g 1 (n - 1) (best v 0)) (same 0 (omega arith)))

-- the first greatest is one of them, also where some are NaNs
pub first_below : (f : ℕ → Float) (n : ℕ) → 1 ≤ n → first_greatest f n < n
unfolding first_greatest
first_below f n h = by (outcome f 1 (n - 1) (best (f 0) 0))
  where
    by : Outcome f 1 (n - 1) (best (f 0) 0) (greatest f 1 (n - 1) (best (f 0) 0)) → (greatest f 1 (n - 1) (best (f 0) 0)).at < n
    by (kept e none) = omega (arith, ap (λ (b : Best). b.at) e)
    by (found k e t) = omega (arith, ap (λ (b : Best). b.at) e, t.to)

-- of the first n places, k has the greatest value, and each before it a smaller one
pub record First (f : ℕ → Float) (n k : ℕ) : Type 0 where
  pub below : k < n
  pub most : (i : ℕ) → i < n → le (f i) (f k) ≡ true
  pub before : (i : ℕ) → i < k → lt (f i) (f k) ≡ true

module _ (f : ℕ → Float) (n : ℕ) (some : 1 ≤ n) (numbers : (i : ℕ) → i < n → T (not (is_nan (f i)))) where
  -- what is said of each place
  abbrev Most : ℕ → ℕ → Type 0
  Most k i = i < n → le (f i) (f k) ≡ true

  abbrev Smaller : ℕ → ℕ → Type 0
  Smaller k i = i < k → lt (f i) (f k) ≡ true

  -- no NaN is among them, so a value that is not greater is at most as great
  is-first : (y : Best) → Outcome f 1 (n - 1) (best (f 0) 0) y → First f n y.at
  is-first y (kept e none) =
      let w : First f n 0 =
      record {
        below = omega arith;
        most =
            λ i p.
            each_from (Most 0) 0 (λ q. le_self (f 0) (numbers 0 q))
            (λ j h q. not_lt (f 0) (f j) (numbers 0 (omega arith)) (numbers j q) (none j h (omega arith))) i zero-le p;
        before = λ i p. absurd (omega arith);
      }
      in
      subst (λ (b : Best). First f n b.at) (sym e) w
  is-first y (found k e t) =
      let to : k < n = omega (arith, t.to) in
      let w : First f n k =
      record {
        below = to;
        most =
            λ i p.
            each_from (Most k) 0 (λ q. lt_is_le (f 0) (f k) t.above)
            (λ j h q. not_lt (f k) (f j) (numbers k to) (numbers j q) (t.most j h (omega arith))) i zero-le p;
        before =
            λ i p.
            each_from (Smaller k) 0 (λ q. t.above)
            (λ j h q. not_le (f k) (f j) (numbers k to) (numbers j (omega arith)) (t.first j h q)) i zero-le p;
      }
      in
      subst (λ (b : Best). First f n b.at) (sym e) w

  pub first_is : First f n (first_greatest f n)
  unfolding first_greatest
  first_is = is-first (greatest f 1 (n - 1) (best (f 0) 0)) (outcome f 1 (n - 1) (best (f 0) 0))
