-- The greatest value found eight at a time, and where it first is.
use mathlib.Core.Path.{◌≡◌, refl, sym, ap, ◌∙◌}
use mathlib.Core.Bool.{Bool, true, false}
use mathlib.Core.Logic.{◌⊎◌, inl, inr, ⊎_elim}
use Prim.Native.Nat.{ℕ, ◌+◌, ◌-◌, ◌≤◌, ◌<◌}
use native.Mathlib.Omega.{arith}
use lib.Ieee.{Float, lt, le}
use Rattle.numbers.specs.Rounded.{nought, pick}
use Rattle.numbers.proofs.Tests.{which, lt_or_le, true_not_false}
use Rattle.sizes.proofs.Order.{le_right, lt_is_le, lt_right, lt_self, le_self, lt_then_lt, lt_then_le, le_then_lt, le_then_le, not_lt}
use Rattle.sizes.proofs.Signs.{nought_plus, plus_from_nought}
use Rattle.lists.specs.Greatest.{greatest}
use Rattle.beat_links.specs.Extensions.{unlinked}
use Rattle.beat_links.specs.Inner.{larger, lane, top_of_eight, Reached}
use Rattle.lists.proofs.Greatest.{best, no_lt, no_le, greatest-is, greatest-none}

-- a place of the set that has the value
pub record Hit (f : ℕ → Float) (S : ℕ → Type 0) (r : Float) : Type 0 where
  pub place : ℕ
  pub inside : S place
  pub there : f place ≡ r

-- r is the greatest of 0 and of the values at the places of the set; a NaN counts for nothing
pub record Top (f : ℕ → Float) (S : ℕ → Type 0) (r : Float) : Type 0 where
  pub fine : le nought r ≡ true
  pub most : (i : ℕ) → S i → lt r (f i) ≡ false
  pub has : (r ≡ nought) ⊎ Hit f S r

-- the larger, by the way that the comparison comes out
pub larger_by : (v c : Float) (b : Bool) → lt v c ≡ b → larger v c ≡ pick b c v
unfolding larger
larger_by v c b e = rw e

module _ (f : ℕ → Float) where
  -- a value that is passed over as not above v is not above what is as large
  join : (S R : ℕ → Type 0) (v w : Float) → Top f S v → Top f R w → Top f (λ i. S i ⊎ R i) (larger v w)
  join S R v w s t =
      ⊎_elim
      (λ e. rw (larger_by v w true e)
      record {
        fine = t.fine;
        most = λ i. ⊎_elim (λ h. no_lt w (f i) (λ g. true_not_false (lt v (f i)) (lt_then_lt v w (f i) e g) (s.most i h))) (λ h. t.most i h);
        has = ⊎_elim (λ z. inl z) (λ h. inr (record { place = h.place; inside = inr h.inside; there = h.there })) t.has;
      })
      (λ e. rw (larger_by v w false e)
      record {
        fine = s.fine;
        most = λ i. ⊎_elim (λ h. s.most i h)
            (λ h. no_lt v (f i)
            (λ g. true_not_false (lt v w) (lt_then_le v (f i) w g (not_lt w (f i) (le_right nought w t.fine) (lt_right v (f i) g) (t.most i h))) e));
        has = ⊎_elim (λ z. inl z) (λ h. inr (record { place = h.place; inside = inl h.inside; there = h.there })) s.has;
      })
      (which (lt v w))

  -- one value more
  more : (S : ℕ → Type 0) (v : Float) (k : ℕ) → Top f S v → Top f (λ i. S i ⊎ (i ≡ k)) (larger v (f k))
  more S v k s =
      ⊎_elim
      (λ e. rw (larger_by v (f k) true e)
      record {
        fine = le_then_le nought v (f k) s.fine (lt_is_le v (f k) e);
        most = λ i. ⊎_elim (λ h. no_lt (f k) (f i) (λ g. true_not_false (lt v (f i)) (lt_then_lt v (f k) (f i) e g) (s.most i h)))
            (λ (z : i ≡ k). ap (λ (j : ℕ). lt (f k) (f j)) z ∙ lt_self (f k));
        has = inr (record { place = k; inside = inr refl; there = refl });
      })
      (λ e. rw (larger_by v (f k) false e)
      record {
        fine = s.fine;
        most = λ i. ⊎_elim (λ h. s.most i h) (λ (z : i ≡ k). ap (λ (j : ℕ). lt v (f j)) z ∙ e);
        has = ⊎_elim (λ z. inl z) (λ h. inr (record { place = h.place; inside = inl h.inside; there = h.there })) s.has;
      })
      (which (lt v (f k)))

  none : Top f (λ i. ⊥) nought
  none = record { fine = plus_from_nought nought_plus; most = λ i h. absurd h; has = inl refl }

  abbrev InLane : ℕ → ℕ → Type 0
  InLane u i = (⊥ ⊎ (i ≡ u)) ⊎ (i ≡ u + 4)

  lane_top : (u : ℕ) → Top f (InLane u) (lane f u)
  unfolding lane
  lane_top u = more (λ i. ⊥ ⊎ (i ≡ u)) (larger nought (f u)) (u + 4) (more (λ i. ⊥) nought u none)

  abbrev InEight : ℕ → ℕ → Type 0
  InEight u i = (InLane u i ⊎ InLane (u + 2) i) ⊎ (InLane (u + 1) i ⊎ InLane (u + 3) i)

  eight_lanes : (u : ℕ) → Top f (InEight u) (top_of_eight f u)
  unfolding top_of_eight
  eight_lanes u =
      join (λ i. InLane u i ⊎ InLane (u + 2) i) (λ i. InLane (u + 1) i ⊎ InLane (u + 3) i) _ _
      (join (InLane u) (InLane (u + 2)) _ _ (lane_top u) (lane_top (u + 2)))
      (join (InLane (u + 1)) (InLane (u + 3)) _ _ (lane_top (u + 1)) (lane_top (u + 3)))

  -- the lanes are the eight places
  from-lane : (u v i : ℕ) → InLane v i → u ≤ v → v ≤ u + 3 → (u ≤ i) × (i < u + 8)
  from-lane u v i (inl (inl z)) h g = absurd z
  from-lane u v i (inl (inr z)) h g = (omega arith, omega arith)
  from-lane u v i (inr z) h g = (omega arith, omega arith)

  from_eight : (u i : ℕ) → InEight u i → (u ≤ i) × (i < u + 8)
  from_eight u i (inl (inl z)) = from-lane u u i z (omega arith) (omega arith)
  from_eight u i (inl (inr z)) = from-lane u (u + 2) i z (omega arith) (omega arith)
  from_eight u i (inr (inl z)) = from-lane u (u + 1) i z (omega arith) (omega arith)
  from_eight u i (inr (inr z)) = from-lane u (u + 3) i z (omega arith) (omega arith)

  into_lane : (v i : ℕ) → (i ≡ v) ⊎ (i ≡ v + 4) → InLane v i
  into_lane v i (inl z) = inl (inr z)
  into_lane v i (inr z) = inr z

  into_eight : (u i : ℕ) → u ≤ i → i < u + 8 → InEight u i
  into_eight u i h g =
      ⊎_elim
      (λ (p : i < u + 4). ⊎_elim
      (λ (q : i < u + 2). ⊎_elim
      (λ (r : i < u + 1). inl (inl (into_lane u i (inl (omega arith)))))
      (λ (r : u + 1 ≤ i). inr (inl (into_lane (u + 1) i (inl (omega arith))))) (lt_or_le i (u + 1)))
      (λ (q : u + 2 ≤ i). ⊎_elim
      (λ (r : i < u + 3). inl (inr (into_lane (u + 2) i (inl (omega arith)))))
      (λ (r : u + 3 ≤ i). inr (inr (into_lane (u + 3) i (inl (omega arith))))) (lt_or_le i (u + 3)))
      (lt_or_le i (u + 2)))
      (λ (p : u + 4 ≤ i). ⊎_elim
      (λ (q : i < u + 6). ⊎_elim
      (λ (r : i < u + 5). inl (inl (into_lane u i (inr (omega arith)))))
      (λ (r : u + 5 ≤ i). inr (inl (into_lane (u + 1) i (inr (omega arith))))) (lt_or_le i (u + 5)))
      (λ (q : u + 6 ≤ i). ⊎_elim
      (λ (r : i < u + 7). inl (inr (into_lane (u + 2) i (inr (omega arith)))))
      (λ (r : u + 7 ≤ i). inr (inr (into_lane (u + 3) i (inr (omega arith))))) (lt_or_le i (u + 7)))
      (lt_or_le i (u + 6)))
      (lt_or_le i (u + 4))

  -- the greatest of eight
  pub eight : (u : ℕ) → Top f (λ i. (u ≤ i) × (i < u + 8)) (top_of_eight f u)
  eight u =
      let t = eight_lanes u in
      record {
        fine = t.fine;
        most = λ i h. t.most i (into_eight u i h.0 h.1);
        has = ⊎_elim (λ z. inl z) (λ h. inr (record { place = h.place; inside = from_eight u h.place h.inside; there = h.there })) t.has;
      }

-- ---- the frames from lo up to m are searched, of those up to end

pub data Scan (f : ℕ → Float) (lo m end : ℕ) (value : Float) (at : ℕ) : Type 0 where
  nothing : value ≡ nought → at ≡ end → ((i : ℕ) → lo ≤ i → i < m → lt nought (f i) ≡ false) → Scan f lo m end value at
  something : at < end → Reached f lo m at value → Scan f lo m end value at

module _ (f : ℕ → Float) (lo m end : ℕ) (value : Float) (at : ℕ) where
  -- the value so far is 0 or above it
  so_far : Scan f lo m end value at → le nought value ≡ true
  so_far (nothing z e h) = ap (le nought) z ∙ plus_from_nought nought_plus
  so_far (something h r) = lt_is_le nought value r.above

  -- and no value searched is above it
  searched : Scan f lo m end value at → (i : ℕ) → lo ≤ i → i < m → lt value (f i) ≡ false
  searched (nothing z e h) i p q = ap (λ (x : Float). lt x (f i)) z ∙ h i p q
  searched (something h r) i p q = r.most i p q

  module _ (s m' : ℕ) (above : lo ≤ s) (meets : s ≤ m) (ends : m' ≡ s + 8) (grows : m ≤ m') (inside : m' ≤ end) (was : Scan f lo m end value at) where
    -- the next eight have a greater value
    pub rises : lt value (top_of_eight f s) ≡ true → Scan f lo m' end (top_of_eight f s) s
    rises b =
        let v = top_of_eight f s in
        let t = eight f s in
        let over : lt nought v ≡ true = le_then_lt nought value v (so_far was) b in
        let hit : Hit f (λ i. (s ≤ i) × (i < s + 8)) v =
        ⊎_elim (λ z. true_not_false (lt nought v) over (ap (lt nought) z ∙ lt_self nought)) (λ h. h) t.has in
        something (omega arith)
        record {
          from = above;
          above = over;
          most = λ i p q. ⊎_elim
              (λ (g : i < s). no_lt v (f i) (λ k. true_not_false (lt value (f i)) (lt_then_lt value v (f i) b k) (searched was i p (omega arith))))
              (λ (g : s ≤ i). t.most i (g, omega arith)) (lt_or_le i s);
          before = λ i p q. no_le v (f i) (λ k. true_not_false (lt value (f i)) (lt_then_le value v (f i) b k) (searched was i p (omega arith)));
          place = hit.place;
          since = omega (arith, hit.inside.0);
          inside = omega (arith, hit.inside.1);
          there = hit.there;
        }

    -- they have not
    under : lt value (top_of_eight f s) ≡ false → (i : ℕ) → lo ≤ i → i < m' → lt value (f i) ≡ false
    under b i p q =
        let t = eight f s in
        ⊎_elim (λ (g : i < s). searched was i p (omega arith))
        (λ (g : s ≤ i). no_lt value (f i)
        (λ k. true_not_false (lt value (top_of_eight f s))
        (lt_then_le value (f i) (top_of_eight f s) k
        (not_lt (top_of_eight f s) (f i) (le_right nought (top_of_eight f s) t.fine) (lt_right value (f i) k) (t.most i (g, omega arith)))) b))
        (lt_or_le i s)

    pub stays : lt value (top_of_eight f s) ≡ false → Scan f lo m' end value at
    stays b = by was
      where
        by : Scan f lo m end value at → Scan f lo m' end value at
        by (nothing z e h) = nothing z e (λ i p q. ap (λ (x : Float). lt x (f i)) (sym z) ∙ under b i p q)
        by (something h r) =
            something h
            record {
              from = r.from;
              above = r.above;
              most = under b;
              before = r.before;
              place = r.place;
              since = r.since;
              inside = omega
                  (arith, r.inside);
              there = r.there;
            }

-- ---- where the greatest first is

module _ (f : ℕ → Float) (lo end at : ℕ) (value : Float) (r : Reached f lo end at value) where
  -- the first from `at` on that reaches the value is the first of all
  pub first_hit : (u : ℕ) → at ≤ u → u < end → le value (f u) ≡ true → ((i : ℕ) → at ≤ i → i < u → le value (f i) ≡ false)
      → best (f u) u ≡ greatest f lo (end - lo) unlinked
  first_hit u h g e others =
      greatest-is f lo (end - lo) unlinked u
      record {
        from = omega (arith, r.from);
        to = omega arith;
        above = lt_then_le nought value (f u) r.above e;
        most = λ i p q. no_lt (f u) (f i) (λ k. true_not_false (lt value (f i)) (le_then_lt value (f u) (f i) e k) (r.most i p (omega arith)));
        first = λ i p q. no_le (f u) (f i)
            (λ k.
            let reaches = le_then_le value (f u) (f i) e k in
            ⊎_elim (λ (b : i < at). true_not_false (le value (f i)) reaches (r.before i p b))
            (λ (b : at ≤ i). true_not_false (le value (f i)) reaches (others i b q)) (lt_or_le i at));
      }

  -- and there is one
  pub missed : {A : Type 0} (u : ℕ) → end ≤ u → ((i : ℕ) → at ≤ i → i < u → le value (f i) ≡ false) → A
  missed u h others =
      let i = r.place in
      let reaches : le value (f i) ≡ true = ap (le value) r.there ∙ le_self value (lt_right nought value r.above) in
      ⊎_elim (λ (b : i < at). true_not_false (le value (f i)) reaches (r.before i r.since b))
      (λ (b : at ≤ i). true_not_false (le value (f i)) reaches (others i b (omega (arith, r.inside)))) (lt_or_le i at)

-- where nothing is above 0 there is no link
pub none_above : (f : ℕ → Float) (lo end : ℕ) → ((i : ℕ) → lo ≤ i → i < end → lt nought (f i) ≡ false) → unlinked ≡ greatest f lo (end - lo) unlinked
none_above f lo end h = greatest-none f lo (end - lo) unlinked (λ i p q. h i p (omega arith))
