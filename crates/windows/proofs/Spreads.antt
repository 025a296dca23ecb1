-- The median of the distances from the median of a sorted list, without sorting them. h + 1 entries that stand side by side in the sorted list lie no
-- farther from the median than the first or the last of them, and any h + 1 entries that are near lie within such a run. So the distance of rank h is
-- the least of the farther ends, over all runs. Assumes nothing.
use Prim.Native.Nat.{ℕ, zero, suc, ◌+◌, ◌-◌, ◌/◌, ◌≤◌, ◌<◌, zero-le}
use mathlib.Core.Path.{◌≡◌, refl, sym, ap, ◌∙◌, subst}
use mathlib.Core.Logic.{◌⊎◌, inl, inr, ⊎_elim, ◌≢◌}
use mathlib.Core.Bool.{true, false}
use mathlib.Core.List.{List, [], ◌∷◌, map}
use native.Mathlib.Nat.{not-suc-le-zero, le_of_suc-le-suc, le_refl, le_trans, le_of_lt}
use native.Mathlib.Omega.{arith}
use lib.ListN.{length, get_or, take, drop, length-map, length-drop, take-append-drop}
use lib.Seq.{get_or-drop, get_or-take, length-take-le}
use lib.Dec.{T, ltb, leb}
use lib.Ieee.{Float, nan, binary64, lt, fits}
use lib.Ieee.Fits.{sub-fits, nan-fits}
use lib.Ieee.Scale.{finite}
use Rattle.numbers.specs.Rounded.{◌⊖◌}
use Rattle.numbers.proofs.Tests.{which, lt_or_le, by_pick}
use Rattle.sizes.specs.Sizes.{Plus}
use Rattle.sizes.proofs.Order.{true→T, not_lt}
use Rattle.sizes.proofs.Signs.{plus_not_nan}
use Rattle.sizes.proofs.Monotone.{sub_mono_left, sub_anti_right}
use Rattle.floats.specs.TotalOrder.{key}
use Rattle.floats.proofs.TotalOrder.{key_lt}
use Rattle.median.specs.Median.{insert, sort, median_of, mad_of, distance}
use Rattle.numbers.specs.Lists.{one_if}
use Rattle.median.specs.Ranks.{key_at, below, Ordered}
use Rattle.median.proofs.Ranks.{AllFit, same_or_not, count_low, count-high, sort-low, sort-high, sort-fits, same-sort, rank_is_sort}
use Rattle.median.proofs.Choosing.{below-append}
use Rattle.windows.specs.Windows.{lower, higher, farther, Window}
use Rattle.windows.proofs.Distances.{plus_key_le, ahead, ahead_plus, distance-after, distance-before, distance-fits}

-- ---- counts of parts

below_parts : (k n : ℕ) (xs : List Float) → below k xs ≡ below k (take n xs) + below k (drop n xs)
below_parts k n xs = ap (below k) (sym (take-append-drop n xs)) ∙ below-append k (take n xs) (drop n xs)

-- m entries side by side have keys below k
run_low : (k a m : ℕ) (xs : List Float) → a + m ≤ length xs → ((i : ℕ) → a ≤ i → i < a + m → key_at xs i < k) → m ≤ below k xs
run_low k a m xs l h =
    let c : m ≤ below k (drop a xs) =
    count_low k m (drop a xs) (simp length-drop (omega arith)) (λ j b. rw (get_or-drop a xs j nan) (h (a + j) (omega arith) (omega arith))) in
    omega (arith, below_parts k a xs)

-- all entries but m side by side have keys from k on
run_high : (k a m : ℕ) (xs : List Float) → a ≤ length xs → ((i : ℕ) → i < length xs → (i < a) ⊎ (a + m ≤ i) → k ≤ key_at xs i) → below k xs ≤ m
run_high k a m xs l h =
    let p : below k (take a xs) ≤ 0 =
    count-high k 0 (take a xs) (λ j b d. let e : j < a = omega (arith, length-take-le a xs l) in rw (get_or-take a xs j nan e) (h j (omega arith) (inl e))) in
    let q : below k (drop a xs) ≤ m =
    count-high k m (drop a xs) (λ j b d. rw (get_or-drop a xs j nan) (h (a + j) (omega (arith, length-drop a xs)) (inr (omega arith)))) in
    omega (arith, below_parts k a xs)

-- ---- mapped lists

pub map_at : (f : Float → Float) (xs : List Float) (i : ℕ) → i < length xs → get_or (map f xs) i nan ≡ f (get_or xs i nan)
map_at f [] i l = absurd (not-suc-le-zero l)
map_at f (x ∷ xs) zero l = refl
map_at f (x ∷ xs) (suc i) l = map_at f xs i (le_of_suc-le-suc l)

fit_distances : (m : Float) (xs : List Float) → AllFit (map (distance m) xs)
fit_distances m [] k = nan-fits binary64
fit_distances m (x ∷ xs) zero = distance-fits m x
fit_distances m (x ∷ xs) (suc k) = fit_distances m xs k

below_map_insert : (f : Float → Float) (k : ℕ) (x : Float) (ys : List Float) → below k (map f (insert x ys)) ≡ one_if (ltb (key (f x)) k) + below k (map f ys)
unfolding below insert
below_map_insert f k x [] = refl
below_map_insert f k x (y ∷ ys) = ⊎_elim
    (λ e. rw e refl)
    (λ e. rw e (omega (arith, below_map_insert f k x ys)))
    (which (leb (key x) (key y)))

below_map_sort : (f : Float → Float) (k : ℕ) (xs : List Float) → below k (map f (sort xs)) ≡ below k (map f xs)
unfolding below sort
below_map_sort f k [] = refl
below_map_sort f k (x ∷ xs) = below_map_insert f k x (sort xs) ∙ ap (λ (n : ℕ). one_if (ltb (key (f x)) k) + n) (below_map_sort f k xs)

-- the distances of a sorted list have the median that those of the list have
pub mad_sorted : (w : List Float) (m : Float) → 0 < length w → mad_of (sort w) m ≡ mad_of w m
unfolding mad_of median_of
mad_sorted w m l =
    let a = map (distance m) (sort w) in
    let b = map (distance m) w in
    let la : length a ≡ length w = length-map (sort w) (distance m) ∙ (same-sort w).len in
    let lb : length b ≡ length w = length-map w (distance m) in
    let h = length w / 2 in
    let ha : h < length a = omega arith in
    let v = get_or (sort a) h nan in
    let e : get_or (sort a) h nan ≡ get_or (sort b) h nan =
    rank_is_sort b h v (fit_distances m w) (sort-fits a h (fit_distances m (sort w)) ha) (omega arith)
    (omega (arith, sort-low a h ha, below_map_sort (distance m) (key v) w))
    (omega (arith, sort-high a h ha, below_map_sort (distance m) (suc (key v)) w)) in
    rw (la, lb) e

-- the least of the farther ends of the runs from a up to b, as a loop has it
pub record Least (s : List Float) (h a b : ℕ) (r : Float) : Type 0 where
  pub all : (i : ℕ) → a ≤ i → i < b → key r ≤ key (farther s h i)
  pub at : ℕ
  pub first : a ≤ at
  pub inside : at < b
  pub is : r ≡ farther s h at

-- ---- a sorted list, and the entry at its middle

module _ (s : List Float) (h : ℕ) (o : Ordered s) (f : AllFit s) (p : (i : ℕ) → i < length s → T (finite (get_or s i nan))) (some : 0 < length s)
    (mid : length s / 2 ≡ h) where
  lh : h < length s
  lh = omega arith

  -- the distance of the entry at i from the middle one
  abbrev far : ℕ → Float
  far i = distance (get_or s h nan) (get_or s i nan)

  low-is : (i : ℕ) → i ≤ h → far i ≡ get_or s h nan ⊖ get_or s i nan
  low-is i l = distance-before (get_or s i nan) (get_or s h nan) (f i) (f h) (p i (omega (arith, lh))) (p h lh) (o.up i h l lh)

  high_is : (i : ℕ) → h ≤ i → i < length s → far i ≡ get_or s i nan ⊖ get_or s h nan
  high_is i l b = distance-after (get_or s h nan) (get_or s i nan) (f h) (f i) (p h lh) (p i b) (o.up h i l b)

  low_plus : (i : ℕ) → i ≤ h → Plus (get_or s h nan ⊖ get_or s i nan)
  low_plus i l = ahead_plus (get_or s i nan) (get_or s h nan) (f i) (f h) (p i (omega (arith, lh))) (p h lh) (o.up i h l lh)

  high_plus : (i : ℕ) → h ≤ i → i < length s → Plus (get_or s i nan ⊖ get_or s h nan)
  high_plus i l b = ahead_plus (get_or s h nan) (get_or s i nan) (f h) (f i) (p h lh) (p i b) (o.up h i l b)

  -- distances fall up to the middle, and grow from there on
  low_falls : (i j : ℕ) → i ≤ j → j ≤ h → key (far j) ≤ key (far i)
  low_falls i j a b =
      rw (low-is j b, low-is i (le_trans a b))
      (plus_key_le (sub-fits binary64 (get_or s h nan) (get_or s j nan)) (sub-fits binary64 (get_or s h nan) (get_or s i nan))
      (low_plus j b) (low_plus i (le_trans a b))
      (sub_anti_right binary64 (get_or s h nan) (get_or s i nan) (get_or s j nan) (p h lh)
      (ahead (get_or s i nan) (get_or s j nan) (f i) (f j) (p i (omega (arith, lh))) (p j (omega (arith, lh))) (o.up i j a (omega (arith, lh))))))

  high_grows : (i j : ℕ) → h ≤ i → i ≤ j → j < length s → key (far i) ≤ key (far j)
  high_grows i j a b l =
      rw (high_is i a (omega arith), high_is j (le_trans a b) l)
      (plus_key_le (sub-fits binary64 (get_or s i nan) (get_or s h nan)) (sub-fits binary64 (get_or s j nan) (get_or s h nan))
      (high_plus i a (omega arith)) (high_plus j (le_trans a b) l)
      (sub_mono_left binary64 (get_or s i nan) (get_or s j nan) (get_or s h nan) (p h lh)
      (ahead (get_or s i nan) (get_or s j nan) (f i) (f j) (p i (omega arith)) (p j l) (o.up i j b l))))

  -- the farther end of the h + 1 entries from j on
  record Ends (j : ℕ) : Type 0 where
    pub first : key (far j) ≤ key (farther s h j)
    pub last : key (far (j + h)) ≤ key (farther s h j)
    pub is : (farther s h j ≡ far j) ⊎ (farther s h j ≡ far (j + h))

  ends : (j : ℕ) → j + h < length s → Ends j
  unfolding farther higher
  ends j l =
      let a = get_or s h nan ⊖ get_or s j nan in
      let b = get_or s (j + h) nan ⊖ get_or s h nan in
      let jh : j ≤ h = omega (arith, lh) in
      let ja : far j ≡ a = low-is j jh in
      let jb : far (j + h) ≡ b = high_is (j + h) (omega arith) l in
      let fa = sub-fits binary64 (get_or s h nan) (get_or s j nan) in
      let fb = sub-fits binary64 (get_or s (j + h) nan) (get_or s h nan) in
      let pa = low_plus j jh in
      let pb = high_plus (j + h) (omega arith) l in
      ⊎_elim
      (λ (e : lt a b ≡ true). record {
        first = rw (e, ja) (le_of_lt (key_lt a b fa fb (true→T (lt a b) e)));
        last = rw (e, jb) (le_refl (key b));
        is = rw e (inr (sym jb));
      })
      (λ (e : lt a b ≡ false). record {
        first = rw (e, ja) (le_refl (key a));
        last = rw (e, jb) (plus_key_le fb fa pb pa (not_lt a b (plus_not_nan pa) (plus_not_nan pb) e));
        is = rw e (inl (sym ja));
      })
      (which (lt a b))

  far_plus : (i : ℕ) → i < length s → Plus (far i)
  far_plus i l = ⊎_elim
      (λ (a : i < h). subst Plus (sym (low-is i (le_of_lt a))) (low_plus i (le_of_lt a)))
      (λ (a : h ≤ i). subst Plus (sym (high_is i a l)) (high_plus i a l))
      (lt_or_le i h)

  farther_plus : (j : ℕ) → j + h < length s → Plus (farther s h j)
  farther_plus j l = ⊎_elim
      (λ (u : farther s h j ≡ far j). subst Plus (sym u) (far_plus j (omega arith)))
      (λ (u : farther s h j ≡ far (j + h)). subst Plus (sym u) (far_plus (j + h) l))
      (ends j l).is

  farther-fits : (j : ℕ) → j + h < length s → T (fits binary64 (farther s h j))
  farther-fits j l = ⊎_elim
      (λ (u : farther s h j ≡ far j). subst (λ (x : Float). T (fits binary64 x)) (sym u) (distance-fits (get_or s h nan) (get_or s j nan)))
      (λ (u : farther s h j ≡ far (j + h)). subst (λ (x : Float). T (fits binary64 x)) (sym u) (distance-fits (get_or s h nan) (get_or s (j + h) nan)))
      (ends j l).is

  -- the first of m entries that lies nearer than k, where there is one
  nearer : (k m : ℕ) → ((b : ℕ) × (b < m) × (key (far b) < k) × ((i : ℕ) → i < b → k ≤ key (far i)))
      ⊎ ((i : ℕ) → i < m → k ≤ key (far i))
  nearer k zero = inr (λ i l. absurd (not-suc-le-zero l))
  nearer k (suc m) = ⊎_elim
      (λ w. inl (w.0, omega (arith, w.1), w.2, w.3))
      (λ n. ⊎_elim
      (λ (a : key (far m) < k). inl (m, omega arith, a, n))
      (λ (a : k ≤ key (far m)). inr (λ i l. ⊎_elim (λ (e : i ≡ m). rw e a) (λ (d : i ≢ m). n i (omega arith)) (same_or_not i m)))
      (lt_or_le (key (far m)) k))
      (nearer k m)

  module _ (r : Float) (least : (j : ℕ) → j + h < length s → key r ≤ key (farther s h j)) (t : ℕ) (lt' : t + h < length s)
      (is : r ≡ farther s h t) where
    abbrev ds : List Float
    ds = map (distance (get_or s h nan)) s

    ds_length : length ds ≡ length s
    ds_length = length-map s (distance (get_or s h nan))

    ds_at : (i : ℕ) → i < length s → key_at ds i ≡ key (far i)
    ds_at i l = ap key (map_at (distance (get_or s h nan)) s i l)

    -- the run from t on: h + 1 entries, none farther than r
    few-above : h < below (suc (key r)) ds
    few-above =
        let e = ends t lt' in
        let q : key r ≡ key (farther s h t) = ap key is in
        let n : h + 1 ≤ below (suc (key r)) ds = run_low (suc (key r)) t (h + 1) ds (omega (arith, ds_length)) (λ i a b.
        let l : i < length s = omega arith in
        ⊎_elim
        (λ (c : i < h). omega (arith, ds_at i l, low_falls t i a (omega arith), e.first))
        (λ (c : h ≤ i). omega (arith, ds_at i l, high_grows i (t + h) c (omega arith) lt', e.last))
        (lt_or_le i h)) in
        omega arith

    -- from the first entry that is nearer, no more than h are: the end of its run is not
    few-below : below (key r) ds ≤ h
    few-below = ⊎_elim
        (λ w.
        let b = w.0 in
        let bl : b + h < length s = omega (arith, w.1, mid) in
        let e = ends b bl in
        let end : key r ≤ key (far (b + h)) = ⊎_elim
        (λ (u : farther s h b ≡ far b). absurd (omega (arith, w.2, least b bl, ap key u)))
        (λ (u : farther s h b ≡ far (b + h)). omega (arith, least b bl, ap key u))
        e.is in
        run_high (key r) b h ds (omega (arith, ds_length)) (λ i l c.
        let li : i < length s = omega (arith, ds_length) in
        ⊎_elim
        (λ (d : i < b). omega (arith, ds_at i li, w.3 i d))
        (λ (d : b + h ≤ i). omega (arith, ds_at i li, end, high_grows (b + h) i (omega arith) d li))
        c))
        (λ n. run_high (key r) (length s - h) h ds (omega (arith, ds_length)) (λ i l c.
        let li : i < length s = omega (arith, ds_length) in
        ⊎_elim
        (λ (d : i < length s - h). omega (arith, ds_at i li, n i d))
        (λ (d : length s - h + h ≤ i). absurd (omega (arith, lh)))
        c))
        (nearer (key r) (length s - h))

    pub least_is_mad : r ≡ mad_of s (get_or s h nan)
    unfolding mad_of median_of
    least_is_mad =
        let fr : T (fits binary64 r) = subst (λ (x : Float). T (fits binary64 x)) (sym is) (farther-fits t lt') in
        let d : length ds / 2 ≡ h = omega (arith, ds_length, mid) in
        rw d (rank_is_sort ds h r (fit_distances (get_or s h nan) s) fr (omega (arith, ds_length, lh)) few-below few-above)

  pub least-one : (j : ℕ) → Least s h j (j + 1) (farther s h j)
  least-one j = record {
    all = λ i a b. let e : i ≡ j = omega arith in rw e (le_refl (key (farther s h j)));
    at = j;
    first = le_refl j;
    inside = omega arith;
    is = refl;
  }

  module _ {a b c : ℕ} {x y : Float} (l : c + h ≤ length s) (m : Least s h a b x) (n : Least s h b c y) where
    end_fits : (j : ℕ) (r : Float) → j < c → r ≡ farther s h j → T (fits binary64 r)
    end_fits j r k e = subst (λ (z : Float). T (fits binary64 z)) (sym e) (farther-fits j (omega arith))

    end_plus : (j : ℕ) (r : Float) → j < c → r ≡ farther s h j → Plus r
    end_plus j r k e = subst Plus (sym e) (farther_plus j (omega arith))

    in_first : m.at < c
    in_first = omega (arith, m.inside, n.first, n.inside)

    -- the lower of two that are least, each over its own runs, is least over all of them
    pub least_join : Least s h a c (lower y x)
    unfolding lower
    least_join = by_pick (Least s h a c) (lt y x) y x
        (λ e.
        let d : key y < key x = key_lt y x (end_fits n.at y n.inside n.is) (end_fits m.at x in_first m.is) (true→T (lt y x) e) in
        record {
          all = λ i p q. ⊎_elim (λ (o : i < b). omega (arith, m.all i p o)) (λ (o : b ≤ i). n.all i o q) (lt_or_le i b);
          at = n.at;
          first = omega (arith, m.first, m.inside, n.first);
          inside = n.inside;
          is = n.is;
        })
        (λ e.
        let py = end_plus n.at y n.inside n.is in
        let px = end_plus m.at x in_first m.is in
        let d : key x ≤ key y =
        plus_key_le (end_fits m.at x in_first m.is) (end_fits n.at y n.inside n.is) px py (not_lt y x (plus_not_nan py) (plus_not_nan px) e) in
        record {
          all = λ i p q. ⊎_elim (λ (o : i < b). m.all i p o) (λ (o : b ≤ i). omega (arith, n.all i o q)) (lt_or_le i b);
          at = m.at;
          first = m.first;
          inside = in_first;
          is = m.is;
        })

  pub least_end : (n : ℕ) (r : Float) → n + h ≡ length s → Least s h 0 n r → r ≡ mad_of s (get_or s h nan)
  least_end n r e m = least_is_mad r (λ j l. m.all j zero-le (omega arith)) m.at (omega (arith, m.inside)) m.is

-- ---- of a window

module _ {s : List Float} (w : Window s) where
  finite-at : (i : ℕ) → i < length s → T (finite (get_or s i nan))
  finite-at i l = w.finites i (omega (arith, w.room))

  pub end_one : (j : ℕ) → Least s 10 j (j + 1) (farther s 10 j)
  end_one j = least-one s 10 w.order w.fit finite-at (omega (arith, w.room)) (omega (arith, w.room)) j

  pub end_join : {a b c : ℕ} {x y : Float} → c ≤ 11 → Least s 10 a b x → Least s 10 b c y → Least s 10 a c (lower y x)
  end_join l m n = least_join s 10 w.order w.fit finite-at (omega (arith, w.room)) (omega (arith, w.room)) (omega (arith, w.room)) m n

  pub end_all : (r : Float) → Least s 10 0 11 r → r ≡ mad_of s (get_or s 10 nan)
  end_all r m = least_end s 10 w.order w.fit finite-at (omega (arith, w.room)) (omega (arith, w.room)) 11 r (sym w.room) m
