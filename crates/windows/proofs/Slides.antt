-- A sorted list with one entry out and another in. What `insert` puts at a place is the entry that stood there, or the new one, or the entry before: so it
-- is the middle one of the three, and taking an entry out undoes putting it in. The sort doesn't see which way round a list begins. Assumes nothing.
use Prim.Native.Nat.{ℕ, zero, suc, ◌+◌, ◌≤◌, ◌<◌, zero-le}
use mathlib.Core.Path.{◌≡◌, refl, sym, ap, ◌∙◌}
use mathlib.Core.Logic.{◌⊎◌, inl, inr, ⊎_elim}
use mathlib.Core.Bool.{true, false}
use mathlib.Core.List.{List, [], ◌∷◌, ◌++◌}
use native.Mathlib.Nat.{not-suc-le-zero, le_of_suc-le-suc, le_antisymm, le_trans}
use native.Mathlib.Numerals.{add-one}
use native.Mathlib.Omega.{arith}
use lib.ListN.{length, get_or, length-append, get_or-eq_default}
use lib.Seq.{ext_get_or}
use lib.Dec.{leb}
use lib.Ieee.{Float, nan, lt}
use borrow.Author.Tests.{leb-true, leb-false}
use Rattle.numbers.specs.Lists.{curve}
use Rattle.numbers.proofs.Tabs.{length-tab, get_or-curve}
use Rattle.numbers.proofs.Tests.{which, lt_or_le, pick_true, pick-false}
use Rattle.sizes.specs.Sizes.{Each, none, more}
use Rattle.sizes.proofs.Lists.{each_at, each_append}
use Rattle.sizes.proofs.Order.{lt_self}
use Rattle.floats.specs.TotalOrder.{key}
use Rattle.median.specs.Median.{insert, sort}
use Rattle.median.specs.Ranks.{key_at, below, Ordered}
use Rattle.median.proofs.Choosing.{below-append}
use Rattle.median.proofs.Ranks.{length-insert, same-sort, sort_each, sort_ordered, ordered_is_sort}
use Rattle.windows.specs.Windows.{lower, higher, without_at, without, among_at, among, slid}
use Rattle.windows.proofs.Plains.{Plain, key_below, key_not_below, not_below_key, same_key, each_fits}

-- ---- where an entry is put

ordered_rest : (x : Float) (xs : List Float) → Ordered (x ∷ xs) → Ordered xs
ordered_rest x xs o = record { up = λ i j a b. o.up (suc i) (suc j) (omega arith) (omega arith) }

-- at the first place: the new one, or the entry that stood there
abbrev First : (v : Float) (xs ys : List Float) → Type 0
First v xs ys = ((key v ≤ key_at xs 0) × (get_or ys 0 nan ≡ v)) ⊎ ((key_at xs 0 < key v) × (get_or ys 0 nan ≡ get_or xs 0 nan))

insert-first : (v : Float) (xs : List Float) → 0 < length xs → First v xs (insert v xs)
unfolding insert
insert-first v [] l = absurd (not-suc-le-zero l)
insert-first v (x ∷ xs) l = ⊎_elim
    (λ e. rw e (inl (leb-true (key v) (key x) e, refl)))
    (λ e. rw e (inr (leb-false (key v) (key x) e, refl)))
    (which (leb (key v) (key x)))

-- at a later one: the entry before, the new one, or the entry that stood there
abbrev Later : (v : Float) (xs ys : List Float) (k : ℕ) → Type 0
Later v xs ys k =
    ((key v ≤ key_at xs k) × (get_or ys (suc k) nan ≡ get_or xs k nan))
    ⊎ (((key_at xs k < key v) × (suc k < length xs → key v ≤ key_at xs (suc k)) × (get_or ys (suc k) nan ≡ v))
    ⊎ ((suc k < length xs) × (key_at xs (suc k) < key v) × (get_or ys (suc k) nan ≡ get_or xs (suc k) nan)))

-- behind a first entry that stays
second : (v x : Float) (xs : List Float) → key x < key v → Later v (x ∷ xs) (x ∷ insert v xs) 0
unfolding insert
second v x [] h = inr (inl (h, (λ q. absurd (omega arith)), refl))
second v x (y ∷ xs) h = ⊎_elim
    (λ e. rw e (inr (inl (h, (λ q. leb-true (key v) (key y) e), refl))))
    (λ e. rw e (inr (inr (omega arith, leb-false (key v) (key y) e, refl))))
    (which (leb (key v) (key y)))

insert-later : (v : Float) (xs : List Float) → Ordered xs → (k : ℕ) → k < length xs → Later v xs (insert v xs) k
unfolding insert
insert-later v [] o k l = absurd (not-suc-le-zero l)
insert-later v (x ∷ xs) o zero l = ⊎_elim
    (λ e. rw e (inl (leb-true (key v) (key x) e, refl)))
    (λ e. rw e (second v x xs (leb-false (key v) (key x) e)))
    (which (leb (key v) (key x)))
insert-later v (x ∷ xs) o (suc k) l =
    let ih = insert-later v xs (ordered_rest x xs o) k (le_of_suc-le-suc l) in
    ⊎_elim
    (λ e. rw e (inl (le_trans (leb-true (key v) (key x) e) (o.up 0 (suc k) zero-le l), refl)))
    (λ e. rw e (⊎_elim
    (λ w. inl w)
    (λ u. inr (⊎_elim (λ w. inl (w.0, (λ q. w.1 (omega arith)), w.2)) (λ w. inr (omega (arith, w.0), w.1, w.2)) u))
    ih))
    (which (leb (key v) (key x)))

-- ---- one out, one in

nan_not_below : (y : Float) → lt nan y ≡ false
unfolding lt
nan_not_below y = refl

-- past the end of a list the new one is the lower
pub past-lower : (xs : List Float) (i : ℕ) (v : Float) → length xs ≤ i → lower (get_or xs i nan) v ≡ v
unfolding lower
past-lower xs i v l = rw (get_or-eq_default xs nan l) (pick-false (lt nan v) nan v (nan_not_below v))

module _ (xs : List Float) (o : Ordered xs) (p : Each Plain xs) (v : Float) (q : Plain v) where
  at : (i : ℕ) → i < length xs → Plain (get_or xs i nan)
  at i l = each_at {P = Plain} i nan p l

  -- from where the new one stands before, each entry has moved up
  moved_up : (i : ℕ) → i < length xs → key v ≤ key_at xs i → get_or (insert v xs) (i + 1) nan ≡ get_or xs i nan
  moved_up i l h = rw (add-one i) (⊎_elim
      (λ w. w.1)
      (λ u. ⊎_elim
      (λ w. absurd (omega (arith, w.0)))
      (λ w. absurd (omega (arith, w.1, o.up i (suc i) (omega arith) w.0)))
      u)
      (insert-later v xs o i l))

  -- and up to there each has stayed
  stayed : (i : ℕ) → i < length xs
      → ((key_at xs i < key v) × (get_or (insert v xs) i nan ≡ get_or xs i nan)) ⊎ ((key v ≤ key_at xs i) × (lt (get_or (insert v xs) i nan) v ≡ false))
  stayed zero l = ⊎_elim (λ w. inr (w.0, rw w.1 (lt_self v))) (λ w. inl w) (insert-first v xs l)
  stayed (suc k) l = ⊎_elim
      (λ w. inr (le_trans w.0 (o.up k (suc k) (omega arith) l), rw w.1 (key_not_below (at k (omega arith)) q w.0)))
      (λ u. ⊎_elim (λ w. inr (w.1 l, rw w.2 (lt_self v))) (λ w. inl (w.1, w.2)) u)
      (insert-later v xs o k (omega arith))

  -- taking it out again leaves the list
  without_is : (i : ℕ) → i < length xs → without_at (insert v xs) v i ≡ get_or xs i nan
  unfolding without_at
  without_is i l = ⊎_elim
      (λ w. rw (w.1, key_below (at i l) q w.0))
      (λ w. rw w.1 (moved_up i l w.0))
      (stayed i l)

  -- the lower of what stands at a place and the new one, where the new one doesn't stand behind
  not_lower : (i : ℕ) → (i < length xs → key v ≤ key_at xs i) → lower (get_or xs i nan) v ≡ v
  unfolding lower
  not_lower i h = ⊎_elim
      (λ (l : i < length xs). pick-false (lt (get_or xs i nan) v) (get_or xs i nan) v (key_not_below (at i l) q (h l)))
      (λ (l : length xs ≤ i). past-lower xs i v l)
      (lt_or_le i (length xs))

  -- the higher of two entries side by side
  above : (k : ℕ) → suc k < length xs → higher (get_or xs k nan) (get_or xs (suc k) nan) ≡ get_or xs (suc k) nan
  unfolding higher
  above k l =
      let x = get_or xs k nan in
      let y = get_or xs (suc k) nan in
      let a : Plain x = at k (omega arith) in
      let b : Plain y = at (suc k) l in
      ⊎_elim
      (λ (e : lt x y ≡ true). pick_true (lt x y) y x e)
      (λ (e : lt x y ≡ false). pick-false (lt x y) y x e ∙ same_key a b (le_antisymm (o.up k (suc k) (omega arith) l) (not_below_key a b e)))
      (which (lt x y))

  among-is : 0 < length xs → (i : ℕ) → i ≤ length xs → among_at xs v i ≡ get_or (insert v xs) i nan
  unfolding among_at lower higher
  among-is some zero l = ⊎_elim
      (λ w. pick-false (lt (get_or xs 0 nan) v) (get_or xs 0 nan) v (key_not_below (at 0 some) q w.0) ∙ sym w.1)
      (λ w. pick_true (lt (get_or xs 0 nan) v) (get_or xs 0 nan) v (key_below (at 0 some) q w.0) ∙ sym w.1)
      (insert-first v xs some)
  among-is some (suc k) l =
      let x = get_or xs k nan in
      let y = get_or xs (suc k) nan in
      ⊎_elim
      (λ w.
      let e = not_lower (suc k) (λ m. le_trans w.0 (o.up k (suc k) (omega arith) m)) in
      ap (higher x) e ∙ pick-false (lt x v) v x (key_not_below (at k l) q w.0) ∙ sym w.1)
      (λ u. ⊎_elim
      (λ w. ap (higher x) (not_lower (suc k) w.1) ∙ pick_true (lt x v) v x (key_below (at k l) q w.0) ∙ sym w.2)
      (λ w. ap (higher x) (pick_true (lt y v) y v (key_below (at (suc k) w.0) q w.1)) ∙ above k w.0 ∙ sym w.2)
      u)
      (insert-later v xs o k l)

pub length_without : (s : List Float) (o : Float) → length (without s o) ≡ 20
unfolding without
length_without s o = length-tab (without_at s o) 0 20

-- ---- the sorted window of the values xs behind o, and of xs before v

turned-counts : (k : ℕ) (v : Float) (xs : List Float) → below k (v ∷ xs) ≡ below k (xs ++ (v ∷ []))
unfolding below
turned-counts k v xs = rw (below-append k xs (v ∷ [])) (omega arith)

module _ {xs : List Float} {o v : Float} (p : Each Plain xs) (a : Plain o) (b : Plain v) where
  -- the sort doesn't see where v stands
  pub sort-turned : sort (v ∷ xs) ≡ sort (xs ++ (v ∷ []))
  sort-turned =
      ordered_is_sort (xs ++ (v ∷ [])) (sort (v ∷ xs)) (each_fits (each_append p (more b none))) (each_fits (sort_each (more b p)))
      (record {
        len = (same-sort (v ∷ xs)).len ∙ sym (length-append xs (v ∷ []) ∙ add-one (length xs));
        counts = λ k. (same-sort (v ∷ xs)).counts k ∙ turned-counts k v xs;
      })
      (sort_ordered (v ∷ xs))

  pub next_sorted : length xs ≡ 20 → slid (sort (o ∷ xs)) o v ≡ sort (xs ++ (v ∷ []))
  unfolding sort slid without among
  next_sorted n =
      let r = sort xs in
      let m : length r ≡ 20 = (same-sort xs).len ∙ n in
      let u = sort_ordered xs in
      let e = sort_each p in
      let out : curve (without_at (insert o r) o) 20 ≡ r =
      ext_get_or nan _ _ (length-tab (without_at (insert o r) o) 0 20 ∙ sym m) (λ i l.
      let k : i < 20 = omega (arith, length-tab (without_at (insert o r) o) 0 20) in
      get_or-curve (without_at (insert o r) o) 20 i nan k ∙ without_is r u e o a i (omega arith)) in
      let in' : curve (among_at r v) 21 ≡ insert v r =
      ext_get_or nan _ _ (length-tab (among_at r v) 0 21 ∙ sym (length-insert v r ∙ ap suc m)) (λ i l.
      let k : i < 21 = omega (arith, length-tab (among_at r v) 0 21) in
      get_or-curve (among_at r v) 21 i nan k ∙ among-is r u e v b (omega arith) i (omega arith)) in
      ap (λ (z : List Float). curve (among_at z v) 21) out ∙ in' ∙ sort-turned
