-- What bins add: a stretch of bins that all pass a test, or all fail it, adds at once (`stretch_adds`), and so goes a lane's step (`lane_step`).
use mathlib.Core.Path.{◌≡◌, refl, sym, ap, ◌∙◌}
use mathlib.Core.Logic.{◌⊎◌, inl, inr}
use mathlib.Core.Bool.{Bool, true, false}
use mathlib.Core.List.{List, [], ◌∷◌}
use Prim.Native.Nat.{ℕ, zero, suc, ◌+◌, ◌-◌, ◌*◌, ◌/◌, ◌%◌, ◌≤◌, ◌<◌}
use native.Mathlib.Numerals.{add-one}
use native.Mathlib.Omega.{arith}
use lib.Dec.{eqb}
use lib.ListN.{length, get_or, set, drop, drop_of_length-le, length-set}
use lib.Seq.{drop-cons, get_or-set_same, get_or-set_other}
use lib.Ieee.{Float, nan}
use borrow.Author.Tests.{eqb-true, eqb-false}
use Rattle.numbers.specs.Rounded.{◌⊕◌, pick, sum_from, squared}
use Rattle.numbers.specs.Lists.{tab}
use Rattle.numbers.proofs.Tests.{lt_or_le}
use Rattle.flux_rows.specs.declared.Four.{Four}
use Rattle.feature_bins.specs.Bins.{Stretch}
use Rattle.feature_lanes.specs.Addends.{addends, itself, stretch_terms, by_class, by_band, Lane, LaneAdded, FourAt, FourPut}

module _ (term : Float → Float) (bin : ℕ → Bool) where
  addends_step : (values : List Float) (k : ℕ) → k < length values
      → addends term bin k (drop k values) ≡ pick (bin k) (term (get_or values k nan) ∷ addends term bin (suc k) (drop (suc k) values))
      (addends term bin (suc k) (drop (suc k) values))
  unfolding addends
  addends_step values k h = rw (drop-cons values k nan)

  -- past the last bin nothing is added
  pub addends_end : (values : List Float) (k : ℕ) → length values ≤ k → addends term bin k (drop k values) ≡ []
  unfolding addends
  addends_end values k h = rw drop_of_length-le

  -- n bins from bin k on, which pass the test where b says so
  adds : (values : List Float) (n : ℕ) (b : Bool) (k : ℕ) (acc : Float) → k + n ≤ length values → ((j : ℕ) → k ≤ j → j < k + n → bin j ≡ b)
      → sum_from acc (addends term bin k (drop k values))
      ≡ sum_from (pick b (sum_from acc (tab (λ i. term (get_or values i nan)) k n)) acc) (addends term bin (k + n) (drop (k + n) values))
  unfolding sum_from
  adds values zero b k acc h same =
      let e : k + 0 ≡ k = omega arith in
      rw e (ap (λ (x : Float). sum_from x (addends term bin k (drop k values))) (sym (either b)))
    where
      either : (b : Bool) → pick b acc acc ≡ acc
      either true = refl
      either false = refl
  adds values (suc n) true k acc h same =
      let e : k + suc n ≡ suc k + n = omega arith in
      let x = term (get_or values k nan) in
      let rest = addends term bin (suc k) (drop (suc k) values) in
      ap (sum_from acc) (addends_step values k (omega arith) ∙ ap (λ (t : Bool). pick t (x ∷ rest) rest) (same k (omega arith) (omega arith)))
      ∙ adds values n true (suc k) (acc ⊕ x) (omega arith) (λ j p q. same j (omega arith) (omega arith))
      ∙ ap (λ (m : ℕ). sum_from (sum_from (acc ⊕ x) (tab (λ i. term (get_or values i nan)) (suc k) n)) (addends term bin m (drop m values))) (sym e)
  adds values (suc n) false k acc h same =
      let e : k + suc n ≡ suc k + n = omega arith in
      let x = term (get_or values k nan) in
      let rest = addends term bin (suc k) (drop (suc k) values) in
      ap (sum_from acc) (addends_step values k (omega arith) ∙ ap (λ (t : Bool). pick t (x ∷ rest) rest) (same k (omega arith) (omega arith)))
      ∙ adds values n false (suc k) acc (omega arith) (λ j p q. same j (omega arith) (omega arith))
      ∙ ap (λ (m : ℕ). sum_from acc (addends term bin m (drop m values))) (sym e)

  pub stretch_adds : (values : List Float) (b : Bool) (k past : ℕ) (acc : Float) → k ≤ past → past ≤ length values
      → ((j : ℕ) → k ≤ j → j < past → bin j ≡ b)
      → sum_from acc (addends term bin k (drop k values))
      ≡ sum_from (pick b (sum_from acc (stretch_terms term values k past)) acc) (addends term bin past (drop past values))
  stretch_adds values b k past acc h l same =
      let e : k + (past - k) ≡ past = omega arith in
      adds values (past - k) b k acc (omega arith) (λ j p q. same j p (omega arith))
      ∙ ap (λ (m : ℕ). sum_from (pick b (sum_from acc (stretch_terms term values k past)) acc) (addends term bin m (drop m values))) e

-- ---- a stretch, bin by bin

module _ (term : Float → Float) (values : List Float) where
  pub stretch-more : (k past : ℕ) (acc x total : Float) → k < past → x ≡ get_or values k nan → sum_from acc (stretch_terms term values k past) ≡ total
      → sum_from (acc ⊕ term x) (stretch_terms term values (k + 1) past) ≡ total
  unfolding sum_from
  stretch-more k past acc x total h e s =
      let n : past - k ≡ suc (past - (k + 1)) = omega arith in
      let f : ℕ → Float = λ i. term (get_or values i nan) in
      rw e (ap (λ (j : ℕ). sum_from (acc ⊕ term (get_or values k nan)) (tab f j (past - (k + 1)))) (add-one k)
      ∙ ap (λ (m : ℕ). sum_from acc (tab f k m)) (sym n) ∙ s)

  pub stretch_end : (k past : ℕ) (acc : Float) → past ≤ k → sum_from acc (stretch_terms term values k past) ≡ acc
  unfolding sum_from
  stretch_end k past acc h = let n : past - k ≡ 0 = omega arith in rw n

-- ---- a lane's step

-- the sum of number p after a stretch of number q was added to that of number q
step : (term : Float → Float) (bin : ℕ → Bool) (values : List Float) (q p k past : ℕ) (was now total : Float) → k ≤ past → past ≤ length values
    → ((j : ℕ) → k ≤ j → j < past → bin j ≡ eqb q p)
    → (p ≡ q → now ≡ sum_from was (stretch_terms term values k past)) → ((p ≡ q → ⊥) → now ≡ was)
    → sum_from was (addends term bin k (drop k values)) ≡ total → sum_from now (addends term bin past (drop past values)) ≡ total
step term bin values q p k past was now total h l same own other s = go (eqb q p) refl
  where
    go : (b : Bool) → eqb q p ≡ b → sum_from now (addends term bin past (drop past values)) ≡ total
    go true e =
        ap (λ (x : Float). sum_from x (addends term bin past (drop past values))) (own (sym (eqb-true q p e)))
        ∙ sym (stretch_adds term bin values true k past was h l (λ j a b. same j a b ∙ e)) ∙ s
    go false e =
        ap (λ (x : Float). sum_from x (addends term bin past (drop past values))) (other (λ z. eqb-false q p e (sym z)))
        ∙ sym (stretch_adds term bin values false k past was h l (λ j a b. same j a b ∙ e)) ∙ s

module _ (codes : List ℕ) (values classes₀ bands₀ : List Float) (k past lane : ℕ) (classes bands classes' bands' : List Float) where
  pub lane_step : Stretch codes k past → past ≤ length values
      → ((p : ℕ) → p ≡ get_or codes k 0 / 4 → get_or classes' (p * 4 + lane) nan ≡ sum_from (get_or classes (p * 4 + lane) nan) (stretch_terms itself values k past))
      → ((p : ℕ) → (p ≡ get_or codes k 0 / 4 → ⊥) → get_or classes' (p * 4 + lane) nan ≡ get_or classes (p * 4 + lane) nan)
      → ((p : ℕ) → p ≡ get_or codes k 0 % 4 → get_or bands' (p * 4 + lane) nan ≡ sum_from (get_or bands (p * 4 + lane) nan) (stretch_terms squared values k past))
      → ((p : ℕ) → (p ≡ get_or codes k 0 % 4 → ⊥) → get_or bands' (p * 4 + lane) nan ≡ get_or bands (p * 4 + lane) nan)
      → Lane codes values k classes₀ bands₀ classes bands lane
      → Lane codes values past classes₀ bands₀ classes' bands' lane
  lane_step t l own other own' other' g =
      let h : k ≤ past = omega (arith, t.some) in
      record {
        class = λ p q. step itself (by_class codes p) values (get_or codes k 0 / 4) p k past _ _ _ h l
            (λ j a b. ap (λ (x : ℕ). eqb (x / 4) p) (t.alike j a b)) (own p) (other p) (g.class p q);
        band = λ p q. step squared (by_band codes p) values (get_or codes k 0 % 4) p k past _ _ _ h l
            (λ j a b. ap (λ (x : ℕ). eqb (x % 4) p) (t.alike j a b)) (own' p) (other' p) (g.band p q);
      }

-- all bins were added
pub lane_end : {codes : List ℕ} {values classes₀ bands₀ classes bands : List Float} {lane : ℕ} (k : ℕ) → length values ≤ k
    → Lane codes values k classes₀ bands₀ classes bands lane → LaneAdded codes values classes₀ bands₀ classes bands lane
unfolding sum_from
lane_end {codes} {values} {classes = classes} {bands = bands} {lane = lane} k h g =
    record {
      class = λ p q. sym (ap (sum_from (get_or classes (p * 4 + lane) nan)) (addends_end itself (by_class codes p) values k h)) ∙ g.class p q;
      band = λ p q. sym (ap (sum_from (get_or bands (p * 4 + lane) nan)) (addends_end squared (by_band codes p) values k h)) ∙ g.band p q;
    }

-- ---- four slots

module _ (was : List Float) (at : ℕ) (f : Four) (h : at + 4 ≤ length was) where
  abbrev w₁ : List Float
  w₁ = set was at f.a

  abbrev w₂ : List Float
  w₂ = set w₁ (at + 1) f.b

  abbrev w₃ : List Float
  w₃ = set w₂ (at + 2) f.c

  off : (l : List Float) (x : Float) (i j : ℕ) → (j ≡ i → ⊥) → get_or (set l i x) j nan ≡ get_or l j nan
  off l x i j h = get_or-set_other l i j x nan h

  beside : (i : ℕ) → (i < at) ⊎ (at + 4 ≤ i) → get_or (set w₃ (at + 3) f.d) i nan ≡ get_or was i nan
  beside i (inl b) =
      off w₃ f.d (at + 3) i (λ e. omega arith)
      ∙ off w₂ f.c (at + 2) i (λ e. omega arith)
      ∙ off w₁ f.b (at + 1) i (λ e. omega arith)
      ∙ off was f.a at i (λ e. omega arith)
  beside i (inr b) =
      off w₃ f.d (at + 3) i (λ e. omega arith)
      ∙ off w₂ f.c (at + 2) i (λ e. omega arith)
      ∙ off w₁ f.b (at + 1) i (λ e. omega arith)
      ∙ off was f.a at i (λ e. omega arith)

  pub four_put : FourPut was at f (set (set (set (set was at f.a) (at + 1) f.b) (at + 2) f.c) (at + 3) f.d)
  four_put =
      record {
        whole = simp length-set;
        put = record {
          a = off w₃ f.d (at + 3) at (λ e. omega arith) ∙ off w₂ f.c (at + 2) at (λ e. omega arith)
              ∙ off w₁ f.b (at + 1) at (λ e. omega arith) ∙ get_or-set_same was at f.a nan (omega arith);
          b = off w₃ f.d (at + 3) (at + 1) (λ e. omega arith) ∙ off w₂ f.c (at + 2) (at + 1) (λ e. omega arith)
              ∙ get_or-set_same w₁ (at + 1) f.b nan (simp length-set (omega arith));
          c = off w₃ f.d (at + 3) (at + 2) (λ e. omega arith) ∙ get_or-set_same w₂ (at + 2) f.c nan (simp length-set (omega arith));
          d = get_or-set_same w₃ (at + 3) f.d nan (simp length-set (omega arith));
        };
        below = λ i b. beside i (inl b);
        above = λ i b. beside i (inr b);
      }

-- ---- four lanes' step

module _ (codes : List ℕ) (values classes₀ bands₀ : List Float) (k past lane at bt : ℕ) (classes bands classes' bands' : List Float) where
  lane_by : (f g f' g' : Float) (F G : Four) → lane < 4 → Stretch codes k past → past ≤ length values → at ≡ get_or codes k 0 / 4 * 4
      → bt ≡ get_or codes k 0 % 4 * 4
      → FourPut classes at F classes' → FourPut bands bt G bands'
      → get_or classes (at + lane) nan ≡ f → get_or classes' (at + lane) nan ≡ f' → f' ≡ sum_from f (stretch_terms itself values k past)
      → get_or bands (bt + lane) nan ≡ g → get_or bands' (bt + lane) nan ≡ g' → g' ≡ sum_from g (stretch_terms squared values k past)
      → Lane codes values k classes₀ bands₀ classes bands lane → Lane codes values past classes₀ bands₀ classes' bands' lane
  lane_by f g f' g' F G u t l ea eb P Q was is sum was' is' sum' =
      lane_step codes values classes₀ bands₀ k past lane classes bands classes' bands' t l
      (λ p e. own p (get_or codes k 0 / 4) at classes classes' itself f f' ea e was is sum)
      (λ p e. other p (get_or codes k 0 / 4) at classes classes' F ea e P)
      (λ p e. own p (get_or codes k 0 % 4) bt bands bands' squared g g' eb e was' is' sum')
      (λ p e. other p (get_or codes k 0 % 4) bt bands bands' G eb e Q)
    where
      own : (p c at : ℕ) (xs ys : List Float) (term : Float → Float) (f f' : Float) → at ≡ c * 4 → p ≡ c → get_or xs (at + lane) nan ≡ f
          → get_or ys (at + lane) nan ≡ f'
          → f' ≡ sum_from f (stretch_terms term values k past)
          → get_or ys (p * 4 + lane) nan ≡ sum_from (get_or xs (p * 4 + lane) nan) (stretch_terms term values k past)
      own p c at xs ys term f f' e h was is sum =
          let i : p * 4 + lane ≡ at + lane = omega arith in
          rw i (is ∙ sum ∙ ap (λ (x : Float). sum_from x (stretch_terms term values k past)) (sym was))

      other : (p c at : ℕ) (xs ys : List Float) (F : Four) → at ≡ c * 4 → (p ≡ c → ⊥) → FourPut xs at F ys
          → get_or ys (p * 4 + lane) nan ≡ get_or xs (p * 4 + lane) nan
      other p c at xs ys F e h P = go (lt_or_le p c)
        where
          go : (p < c) ⊎ (c ≤ p) → get_or ys (p * 4 + lane) nan ≡ get_or xs (p * 4 + lane) nan
          go (inl b) = P.below (p * 4 + lane) (omega arith)
          go (inr b) = P.above (p * 4 + lane) (apart (lt_or_le c p))
            where
              apart : (c < p) ⊎ (p ≤ c) → at + 4 ≤ p * 4 + lane
              apart (inl d) = omega arith
              apart (inr d) = absurd (h (omega arith))

-- the rows of four lanes were added up to bin k
pub record Lanes (codes : List ℕ) (a b c d : List Float) (k : ℕ) (classes bands classes' bands' : List Float) : Type 0 where
  pub first : Lane codes a k classes bands classes' bands' 0
  pub second : Lane codes b k classes bands classes' bands' 1
  pub third : Lane codes c k classes bands classes' bands' 2
  pub fourth : Lane codes d k classes bands classes' bands' 3

-- four sums were run on over a stretch
pub record Summed (term : Float → Float) (a b c d : List Float) (k past : ℕ) (f f' : Four) : Type 0 where
  pub first : f'.a ≡ sum_from f.a (stretch_terms term a k past)
  pub second : f'.b ≡ sum_from f.b (stretch_terms term b k past)
  pub third : f'.c ≡ sum_from f.c (stretch_terms term c k past)
  pub fourth : f'.d ≡ sum_from f.d (stretch_terms term d k past)

at-nought : (xs : List Float) (at : ℕ) (x : Float) → get_or xs at nan ≡ x → get_or xs (at + 0) nan ≡ x
at-nought xs at x e = let i : at + 0 ≡ at = omega arith in rw i e

pub lanes_start : (codes : List ℕ) (a b c d classes bands : List Float) → Lanes codes a b c d 0 classes bands classes bands
lanes_start codes a b c d classes bands = record { first = same a 0; second = same b 1; third = same c 2; fourth = same d 3 }
  where
    same : (values : List Float) (lane : ℕ) → Lane codes values 0 classes bands classes bands lane
    same values lane = record { class = λ p h. refl; band = λ p h. refl }

module _ (codes : List ℕ) (a b c d classes₀ bands₀ classes bands classes' bands' : List Float) (k past at bt : ℕ) (f g f' g' : Four) where
  pub lanes_step : Stretch codes k past → (past ≤ length a) × (past ≤ length b) × (past ≤ length c) × (past ≤ length d)
      → at ≡ get_or codes k 0 / 4 * 4 → bt ≡ get_or codes k 0 % 4 * 4
      → FourAt classes at f → FourAt bands bt g → Summed itself a b c d k past f f' → Summed squared a b c d k past g g'
      → FourPut classes at f' classes' → FourPut bands bt g' bands'
      → Lanes codes a b c d k classes₀ bands₀ classes bands
      → Lanes codes a b c d past classes₀ bands₀ classes' bands'
  lanes_step t l ea eb F G S R P Q g₀ =
      record {
        first = lane_by codes a classes₀ bands₀ k past 0 at bt classes bands classes' bands' _ _ _ _ f' g' (omega arith) t l.0 ea eb P Q
            (at-nought classes at _ F.a) (at-nought classes' at _ P.put.a) S.first
            (at-nought bands bt _ G.a) (at-nought bands' bt _ Q.put.a) R.first g₀.first;
        second = lane_by codes b classes₀ bands₀ k past 1 at bt classes bands classes' bands' _ _ _ _ f' g' (omega arith) t l.1 ea eb P Q
            F.b P.put.b S.second G.b Q.put.b R.second g₀.second;
        third = lane_by codes c classes₀ bands₀ k past 2 at bt classes bands classes' bands' _ _ _ _ f' g' (omega arith) t l.2 ea eb P Q
            F.c P.put.c S.third G.c Q.put.c R.third g₀.third;
        fourth = lane_by codes d classes₀ bands₀ k past 3 at bt classes bands classes' bands' _ _ _ _ f' g' (omega arith) t l.3 ea eb P Q
            F.d P.put.d S.fourth G.d Q.put.d R.fourth g₀.fourth;
      }
