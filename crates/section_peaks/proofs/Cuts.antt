-- The cut: which rows it takes are those before which fewer than `most` go. A row's place is how many lie above it and how many of its
-- own level come before it. Of a row above the cut's level fewer than `most` lie above the level, itself among them; of a row below it, at
-- least `most` lie above; at the level the first `spare` are taken. Assumes nothing.
use Prim.Native.Nat.{ℕ, zero, suc, ◌+◌, ◌-◌, ◌≤◌, ◌<◌, zero-le}
use mathlib.Core.Path.{◌≡◌, refl, sym, ap, ◌∙◌}
use mathlib.Core.Logic.{◌⊎◌, ⊎_elim}
use mathlib.Core.Bool.{Bool, true, false, ◌&&◌, ◌||◌}
use mathlib.Core.List.{List, [], ◌∷◌, ◌++◌, map}
use native.Mathlib.Nat.{le_refl, zero-lt-suc}
use native.Mathlib.Numerals.{add-one}
use native.Mathlib.Omega.{arith}
use lib.Dec.{leb, ltb, eqb}
use lib.Ieee.{Float, nan}
use lib.ListN.{length, get_or, drop, length-map, drop_of_length-le}
use lib.Seq.{append_snoc, drop-cons}
use borrow.Author.Tests.{ltb-true, leb-true, lt-ltb, le-ltb, le-leb, lt-leb, eq-eqb, ne_eqb}
use Rattle.numbers.proofs.Everys.{every_append}
use Rattle.numbers.proofs.Tests.{which, lt_or_le, and_left, and_right, and_both}
use Rattle.numbers.specs.Lists.{every, one_if, ascending}
use Rattle.numbers.specs.Rounded.{pick}
use Rattle.floats.specs.TotalOrder.{key}
use Rattle.median.proofs.Ranks.{count-high, count_low, same-sort, sort_ordered}
use Rattle.median.specs.Median.{sort}
use Rattle.median.specs.Ranks.{key_at, below}
use Rattle.onsets.proofs.Onsets.{every_weaken}
use Rattle.onsets.specs.Peaks.{at, those}
use Rattle.section_peaks.specs.Greatest.{goes_before, place_of, kept_greatest}
use Rattle.section_peaks.specs.Steps.{CutAt, taken, spared, chosen}
use Rattle.section_peaks.specs.declared.Cut.{Cut}

-- ---- one entry's part in a count

data Three (a b : ℕ) : Type 0 where
  less : a < b → Three a b
  same : a ≡ b → Three a b
  more : b < a → Three a b

three : (a b : ℕ) → Three a b
three a b = ⊎_elim (λ h. less h) (λ h. ⊎_elim (λ k. more k) (λ k. same (omega arith)) (lt_or_le b a)) (lt_or_le a b)

-- where a value v stands to a level k: the two tests of it
one_lt : (k v : ℕ) → k < v → one_if (ltb k v) ≡ 1
one_lt k v h = rw (lt-ltb k v h)

one_ge : (k v : ℕ) → v ≤ k → one_if (ltb k v) ≡ 0
one_ge k v h = rw (le-ltb k v h)

one_eq : (k v : ℕ) → k ≡ v → one_if (eqb k v) ≡ 1
one_eq k v h = rw (eq-eqb k v h)

one_ne : (k v : ℕ) → (k ≡ v → ⊥) → one_if (eqb k v) ≡ 0
one_ne k v h = rw (ne_eqb k v h)

above_either : (l k v : ℕ) → l < k → one_if (ltb k v) + one_if (eqb k v) ≤ one_if (ltb l v)
above_either l k v h = go (three k v)
  where
    go : Three k v → one_if (ltb k v) + one_if (eqb k v) ≤ one_if (ltb l v)
    go (less a) = omega (arith, one_lt k v a, one_ne k v (λ e. omega arith), one_lt l v (omega arith))
    go (same a) = omega (arith, one_ge k v (omega arith), one_eq k v a, one_lt l v (omega arith))
    go (more a) = omega (arith, one_ge k v (omega arith), one_ne k v (λ e. omega arith))

above_or_below : (k l v : ℕ) → k < l → 1 ≤ one_if (ltb k v) + one_if (ltb v l)
above_or_below k l v h = ⊎_elim (λ a. omega (arith, one_lt v l a)) (λ a. omega (arith, one_lt k v (omega arith))) (lt_or_le v l)

above_or_not : (l v : ℕ) → one_if (ltb l v) + one_if (ltb v (suc l)) ≡ 1
above_or_not l v =
    ⊎_elim
    (λ a. omega (arith, one_lt l v a, one_ge v (suc l) a))
    (λ a. omega (arith, one_ge l v a, one_lt v (suc l) (omega arith)))
    (lt_or_le l v)

-- an earlier row goes before where it isn't less, a later one where it is greater
before_early : (k v y x : ℕ) → y < x → one_if (ltb k v || (eqb k v && ltb y x)) ≡ one_if (ltb k v) + one_if (eqb k v)
before_early k v y x h = rw (lt-ltb y x h) (go (three k v))
  where
    go : Three k v → one_if (ltb k v || (eqb k v && true)) ≡ one_if (ltb k v) + one_if (eqb k v)
    go (less a) = rw (lt-ltb k v a, ne_eqb k v (λ e. omega arith))
    go (same a) = rw (le-ltb k v (omega arith), eq-eqb k v a)
    go (more a) = rw (le-ltb k v (omega arith), ne_eqb k v (λ e. omega arith))

before_late : (k v y x : ℕ) → x ≤ y → one_if (ltb k v || (eqb k v && ltb y x)) ≡ one_if (ltb k v)
before_late k v y x h = rw (le-ltb y x h) (go (three k v))
  where
    go : Three k v → one_if (ltb k v || (eqb k v && false)) ≡ one_if (ltb k v)
    go (less a) = rw (lt-ltb k v a)
    go (same a) = rw (le-ltb k v (omega arith), eq-eqb k v a)
    go (more a) = rw (le-ltb k v (omega arith), ne_eqb k v (λ e. omega arith))

-- ---- counts

-- how many entries pass a test
abbrev cnt : (ℕ → Bool) → List ℕ → ℕ
cnt p [] = 0
cnt p (x ∷ xs) = one_if (p x) + cnt p xs

those_cnt : (p : ℕ → Bool) (xs : List ℕ) → length (those p xs) ≡ cnt p xs
unfolding those
those_cnt p [] = refl
those_cnt p (x ∷ xs) = ⊎_elim (λ e. rw e (omega (arith, those_cnt p xs))) (λ e. rw e (omega (arith, those_cnt p xs))) (which (p x))

cnt_append : (p : ℕ → Bool) (xs ys : List ℕ) → cnt p (xs ++ ys) ≡ cnt p xs + cnt p ys
cnt_append p [] ys = omega arith
cnt_append p (x ∷ xs) ys = omega (arith, cnt_append p xs ys)

module _ (curve : List Float) where
  -- the key of a row
  abbrev f : ℕ → ℕ
  f x = key (at curve x)

  -- how many lie above a level, and at it
  abbrev above : ℕ → List ℕ → ℕ
  above k xs = cnt (λ x. ltb k (f x)) xs

  abbrev level : ℕ → List ℕ → ℕ
  level k xs = cnt (λ x. eqb k (f x)) xs

  abbrev under : ℕ → List ℕ → ℕ
  under k xs = cnt (λ x. ltb (f x) k) xs

  below-map : (k : ℕ) (xs : List ℕ) → below k (map (at curve) xs) ≡ under k xs
  unfolding below
  below-map k [] = refl
  below-map k (x ∷ xs) = omega (arith, below-map k xs)

  above-levels : (l k : ℕ) (xs : List ℕ) → l < k → above k xs + level k xs ≤ above l xs
  above-levels l k [] h = zero-le
  above-levels l k (x ∷ xs) h = omega (arith, above-levels l k xs h, above_either l k (f x) h)

  above-under : (k l : ℕ) (xs : List ℕ) → k < l → length xs ≤ above k xs + under l xs
  above-under k l [] h = zero-le
  above-under k l (x ∷ xs) h = omega (arith, above-under k l xs h, above_or_below k l (f x) h)

  above-rest : (l : ℕ) (xs : List ℕ) → above l xs + under (suc l) xs ≡ length xs
  above-rest l [] = refl
  above-rest l (x ∷ xs) = omega (arith, above-rest l xs, above_or_not l (f x))

  -- ---- a row's place

  early : (x : ℕ) (pre : List ℕ) → every (λ y. ltb y x) pre ≡ true → cnt (λ y. goes_before curve y x) pre ≡ above (f x) pre + level (f x) pre
  unfolding every
  early x [] e = refl
  early x (y ∷ pre) e =
      omega (arith, early x pre (and_right (ltb y x) _ e), before_early (f x) (f y) y x (ltb-true y x (and_left (ltb y x) _ e)))

  late : (x low : ℕ) (suf : List ℕ) → x ≤ low → ascending low suf ≡ true → cnt (λ y. goes_before curve y x) suf ≡ above (f x) suf
  unfolding ascending
  late x low [] h e = refl
  late x low (y ∷ suf) h e =
      let a : low ≤ y = leb-true low y (and_left (leb low y) _ e) in
      omega (arith, late x (y + 1) suf (omega arith) (and_right (leb low y) _ e), before_late (f x) (f y) y x (omega arith))

  place_is : (x : ℕ) (pre suf : List ℕ) → every (λ y. ltb y x) pre ≡ true → ascending x suf ≡ true
      → place_of curve (pre ++ suf) x ≡ above (f x) (pre ++ suf) + level (f x) pre
  unfolding place_of
  place_is x pre suf a b =
      let p : ℕ → Bool = λ y. goes_before curve y x in
      omega (
        arith,
        those_cnt p (pre ++ suf),
        cnt_append p pre suf,
        early x pre a,
        late x x suf (le_refl x) b,
        cnt_append (λ y. ltb (f x) (f y)) pre suf,
      )

  -- ---- what the cut takes

  module _ (most l spare : ℕ) where
    verdict : (s k e e' G place : ℕ) → s ≡ spare - e → spare + G ≡ most
        → (l < k → place < most) → (l ≡ k → place ≡ G + e) → (k < l → most ≤ place)
        → (l ≡ k → e' ≡ e + 1) → ((l ≡ k → ⊥) → e' ≡ e)
        → (taken l s k ≡ ltb place most) × (spared l s k ≡ spare - e')
    verdict s k e e' G place sp g hi eq lo st ns = go (three l k)
      where
        go : Three l k → (taken l s k ≡ ltb place most) × (spared l s k ≡ spare - e')
        go (less a) = (
          rw (lt-ltb l k a, lt-ltb place most (hi a)),
          rw (lt-ltb l k a) (omega (arith, ns (λ z. omega arith))),
        )
        go (more a) = (
          rw (le-ltb l k (omega arith), lt-ltb k l a, le-ltb place most (lo a)),
          rw (le-ltb l k (omega arith), lt-ltb k l a) (omega (arith, ns (λ z. omega arith))),
        )
        go (same a) = (
          rw (le-ltb l k (omega arith), le-ltb k l (omega arith)) (⊎_elim
              (λ h. lt-ltb 0 s h ∙ sym (lt-ltb place most (omega (arith, eq a))))
              (λ h. le-ltb 0 s h ∙ sym (le-ltb place most (omega (arith, eq a))))
              (lt_or_le 0 s)),
          rw (le-ltb l k (omega arith), le-ltb k l (omega arith)) (omega (arith, st a)),
        )

    pick_same : {A : Type 0} {b c : Bool} {x y u v : A} → b ≡ c → x ≡ u → y ≡ v → pick b x y ≡ pick c u v
    pick_same {b = b} {c = c} {x = x} {y = y} {u = u} {v = v} e g h = rw (e, g, h)

    module _ (xs : List ℕ) (reaches : under l xs + most ≤ length xs) (stays : above l xs < most) (spares : spare + above l xs ≡ most) where
      -- of the rows from x on, where those before it are pre
      takes : (pre suf : List ℕ) (s low : ℕ) → pre ++ suf ≡ xs → every (λ y. ltb y low) pre ≡ true → ascending low suf ≡ true → s ≡ spare - level l pre
          → chosen curve l s suf ≡ those (λ y. ltb (place_of curve xs y) most) suf
      unfolding chosen those every ascending
      takes pre [] s low e a b c = refl
      takes pre (x ∷ suf) s low e a b c =
          let at_low : low ≤ x = leb-true low x (and_left (leb low x) _ b) in
          let rest = and_right (leb low x) (ascending (x + 1) suf) b in
          let a' = every_weaken (λ y. ltb y low) (λ y. ltb y x) (λ y h. lt-ltb y x (omega (arith, ltb-true y low h))) pre a in
          let place : place_of curve xs x ≡ above (f x) xs + level (f x) pre =
          rw (← e) (place_is x pre (x ∷ suf) a' (and_both (leb x x) _ (le-leb x x (le_refl x)) rest)) in
          let here = one_eq (f x) (f x) refl in
          let split : level (f x) xs ≡ level (f x) pre + (1 + level (f x) suf) =
          rw (← e) (omega (arith, cnt_append (λ y. eqb (f x) (f y)) pre (x ∷ suf), here)) in
          let more-levels = cnt_append (λ y. eqb l (f y)) pre (x ∷ []) in
          let v =
          verdict s (f x) (level l pre) (level l (pre ++ (x ∷ []))) (above l xs) (place_of curve xs x) c spares
          (λ h. omega (arith, place, split, above-levels l (f x) xs h, stays))
          (λ h. place ∙ rw (← h) refl)
          (λ h. omega (arith, place, above-under (f x) l xs h, reaches))
          (λ h. omega (arith, more-levels, one_eq l (f x) h))
          (λ h. omega (arith, more-levels, one_ne l (f x) h)) in
          let later =
          takes (pre ++ (x ∷ [])) suf (spared l s (f x)) (x + 1) (append_snoc pre x suf ∙ e)
          (every_append (λ y. ltb y (x + 1)) pre (x ∷ [])
          (every_weaken (λ y. ltb y x) (λ y. ltb y (x + 1)) (λ y h. lt-ltb y (x + 1) (omega (arith, ltb-true y x h))) pre a')
          (and_both (ltb x (x + 1)) true (lt-ltb x (x + 1) (omega arith)) refl))
          rest v.1 in
          pick_same v.0 (ap (λ (r : List ℕ). x ∷ r) later) later

  -- ---- the rows that are taken, one by one

  pub chosen_none : (l spare : ℕ) → chosen curve l spare [] ≡ []
  unfolding chosen
  chosen_none l spare = refl

  pub chosen-taken : (l spare x : ℕ) (xs : List ℕ) → taken l spare (f x) ≡ true → chosen curve l spare (x ∷ xs) ≡ x ∷ chosen curve l (spared l spare (f x)) xs
  unfolding chosen
  chosen-taken l spare x xs e = rw e

  pub chosen_left : (l spare x : ℕ) (xs : List ℕ) → taken l spare (f x) ≡ false → chosen curve l spare (x ∷ xs) ≡ chosen curve l (spared l spare (f x)) xs
  unfolding chosen
  chosen_left l spare x xs e = rw e

  -- where the rows ascend and are more than `most`
  pub cut_takes : (most l spare low : ℕ) (xs : List ℕ) → ascending low xs ≡ true → most < length xs
      → below l (map (at curve) xs) + most ≤ length (map (at curve) xs)
      → length (map (at curve) xs) < most + below (suc l) (map (at curve) xs)
      → spare + length (map (at curve) xs) ≡ most + below (suc l) (map (at curve) xs)
      → kept_greatest curve most xs ≡ chosen curve l spare xs
  unfolding kept_greatest every
  cut_takes most l spare low xs a h reaches stays spares =
      let n = length-map xs (at curve) in
      let u = below-map l xs in
      let w = below-map (suc l) xs in
      let r = above-rest l xs in
      rw (lt-leb (length xs) most h)
      (sym (takes most l spare xs (omega arith) (omega arith) (omega arith) [] xs spare low refl refl a (omega arith)))

  -- where they are no more, and where none is asked for
  pub few_stay : (most : ℕ) (xs : List ℕ) → length xs ≤ most → kept_greatest curve most xs ≡ xs
  unfolding kept_greatest
  few_stay most xs h = rw (le-leb (length xs) most h)

  none_passes : (p : ℕ → Bool) (xs : List ℕ) → ((x : ℕ) → p x ≡ false) → those p xs ≡ []
  unfolding those
  none_passes p [] h = refl
  none_passes p (x ∷ xs) h = rw (h x) (none_passes p xs h)

  pub none_asked : (xs : List ℕ) → kept_greatest curve 0 xs ≡ []
  unfolding kept_greatest
  none_asked [] = refl
  none_asked (x ∷ xs) =
      rw (lt-leb (length (x ∷ xs)) 0 (omega arith))
      (none_passes (λ y. ltb (place_of curve (x ∷ xs) y) 0) (x ∷ xs) (λ y. le-ltb (place_of curve (x ∷ xs) y) 0 zero-le))

-- ---- the cut of a sorted list

-- the entry of the sorted list with all that is taken from it on
module _ (most : ℕ) (xs : List Float) (fit : most < length xs) (some : 0 < most) where
  abbrev edge : Float
  edge = get_or (sort xs) (length xs - most) nan

  cut_reaches : below (key edge) xs + most ≤ length xs
  cut_reaches =
      let n = (same-sort xs).len in
      let c = count-high (key edge) (length xs - most) (sort xs) (λ j a b. (sort_ordered xs).up (length xs - most) j a b) in
      omega (arith, (same-sort xs).counts (key edge))

  cut_stays : length xs < most + below (suc (key edge)) xs
  cut_stays =
      let n = (same-sort xs).len in
      let c =
      count_low (suc (key edge)) (suc (length xs - most)) (sort xs) (omega arith)
      (λ j a. let u : key_at (sort xs) j ≤ key edge = (sort_ordered xs).up j (length xs - most) (omega arith) (omega arith) in omega arith) in
      omega (arith, (same-sort xs).counts (suc (key edge)))

  -- of the sorted list s, of which so many don't stand above that entry
  module _ (s : List Float) (many : ℕ) (sorted : s ≡ sort xs) (counted : many ≡ below (suc (key (get_or s (length s - most) nan))) s) where
    n : length s ≡ length xs
    n = ap length sorted ∙ (same-sort xs).len

    level_is : get_or s (length s - most) nan ≡ edge
    level_is = rw (n, sorted)

    many_is : many ≡ below (suc (key edge)) xs
    many_is = counted ∙ rw (level_is, sorted) ((same-sort xs).counts (suc (key edge)))

    pub cut_room : length s - most ≤ many
    cut_room = omega (arith, n, many_is, cut_stays)

    pub cut_is : (r : Cut) → r.level ≡ get_or s (length s - most) nan → r.spare ≡ many - (length s - most) → CutAt most xs r
    cut_is r e k =
        let l = e ∙ level_is in
        let stays = cut_stays in
        record { reaches = rw l cut_reaches; stays = rw l stays; spares = rw l (omega (arith, n, many_is, k)) }

-- ---- how many are taken

-- no more than lie above the level and are spared at it
taken-most : (l s k n : ℕ) (x : ℕ) (rest : ℕ → List ℕ) → ((s' : ℕ) → length (rest s') ≤ n + s')
    → length (pick (taken l s k) (x ∷ rest (spared l s k)) (rest (spared l s k))) ≤ one_if (ltb l k) + n + s
taken-most l s k n x rest h = go (three l k)
  where
    go : Three l k → length (pick (taken l s k) (x ∷ rest (spared l s k)) (rest (spared l s k))) ≤ one_if (ltb l k) + n + s
    go (less a) = rw (lt-ltb l k a) (omega (arith, h s))
    go (more a) = rw (le-ltb l k (omega arith), lt-ltb k l a) (omega (arith, h s))
    go (same a) =
        rw (le-ltb l k (omega arith), le-ltb k l (omega arith))
        (⊎_elim (λ b. rw (lt-ltb 0 s b) (omega (arith, h (s - 1)))) (λ b. rw (le-ltb 0 s b) (omega (arith, h (s - 1)))) (lt_or_le 0 s))

chosen-most : (curve : List Float) (l s : ℕ) (xs : List ℕ) → length (chosen curve l s xs) ≤ above curve l xs + s
unfolding chosen
chosen-most curve l s [] = zero-le
chosen-most curve l s (x ∷ xs) = taken-most l s (f curve x) (above curve l xs) x (λ s'. chosen curve l s' xs) (λ s'. chosen-most curve l s' xs)

-- where a cut takes them, they are no more than were asked for
over-most : (curve : List Float) (most low : ℕ) (xs : List ℕ) → ascending low xs ≡ true → 0 < most → most < length (map (at curve) xs)
    → length (kept_greatest curve most xs) ≤ most
over-most curve most low xs a some fit =
    let vs : List Float = map (at curve) xs in
    let n : length vs ≡ length xs = length-map xs (at curve) in
    let l : ℕ = key (edge most vs fit some) in
    let reaches : below l vs + most ≤ length vs = cut_reaches most vs fit some in
    let stays : length vs < most + below (suc l) vs = cut_stays most vs fit some in
    let spare : ℕ = most + below (suc l) vs - length vs in
    let spares : spare + length vs ≡ most + below (suc l) vs = omega arith in
    let h : most < length xs = omega arith in
    let e : kept_greatest curve most xs ≡ chosen curve l spare xs = cut_takes curve most l spare low xs a h reaches stays spares in
    rw e (omega (arith, chosen-most curve l spare xs, below-map curve (suc l) xs, above-rest curve l xs))

pub greatest-most : (curve : List Float) (most low : ℕ) (xs : List ℕ) → ascending low xs ≡ true → length (kept_greatest curve most xs) ≤ most
greatest-most curve zero low xs a = rw (none_asked curve xs) zero-le
greatest-most curve (suc m) low xs a =
    ⊎_elim
    (λ h. over-most curve (suc m) low xs a (zero-lt-suc m) h)
    (λ h. let k : length xs ≤ suc m = omega (arith, length-map xs (at curve)) in rw (few_stay curve (suc m) xs k) k)
    (lt_or_le (suc m) (length (map (at curve) xs)))

-- ---- a count, entry by entry

pub below-past : (k : ℕ) (xs : List Float) (i : ℕ) → i < length xs → k ≤ key_at xs i → below k (drop i xs) ≡ below k (drop (i + 1) xs)
unfolding below
below-past k xs i h g = rw (add-one i, drop-cons xs i nan h) (omega (arith, one_ge (key_at xs i) k g))

pub below_here : (k : ℕ) (xs : List Float) (i : ℕ) → i < length xs → key_at xs i < k → below k (drop i xs) ≡ 1 + below k (drop (i + 1) xs)
unfolding below
below_here k xs i h g = rw (add-one i, drop-cons xs i nan h) (omega (arith, one_lt (key_at xs i) k g))

pub below_end : (k : ℕ) (xs : List Float) (i : ℕ) → length xs ≤ i → below k (drop i xs) ≡ 0
unfolding below
below_end k xs i h = rw drop_of_length-le
