-- Strictly ascending lists: how a test goes along one, how its entries stand to each other, and how many there can be. Assumes nothing.
use mathlib.Core.Bool.{true, ◌&&◌}
use mathlib.Core.List.{List, [], ◌∷◌}
use mathlib.Core.Path.{◌≡◌, refl, sym, ◌∙◌}
use Prim.Native.Nat.{ℕ, zero, suc, ◌+◌, ◌≤◌, ◌<◌}
use native.Mathlib.Nat.{not-suc-le-zero, le_of_suc-le-suc}
use native.Mathlib.Numerals.{add-one}
use native.Mathlib.Omega.{arith}
use borrow.Author.Tests.{leb-true, le-leb}
use lib.Dec.{leb}
use lib.ListN.{length, get_or, drop, drop_of_length-le}
use lib.Seq.{drop-cons}
use Rattle.numbers.specs.Limits.{at_most}
use Rattle.numbers.specs.Lists.{every, ascending}
use Rattle.numbers.proofs.Tests.{and_left, and_right, and_both}

pub ascending_step : (low : ℕ) (xs : List ℕ) (i : ℕ) → i < length xs
    → ascending low (drop i xs) ≡ (leb low (get_or xs i 0) && ascending (get_or xs i 0 + 1) (drop (i + 1) xs))
unfolding ascending
ascending_step low xs i h = rw (add-one i, drop-cons xs i 0)

pub ascending_end : (low : ℕ) (xs : List ℕ) (i : ℕ) → length xs ≤ i → ascending low (drop i xs) ≡ true
unfolding ascending
ascending_end low xs i h = rw drop_of_length-le

pub ascending_weaken : (low low' : ℕ) (xs : List ℕ) → low' ≤ low → ascending low xs ≡ true → ascending low' xs ≡ true
unfolding ascending
ascending_weaken low low' [] h e = refl
ascending_weaken low low' (x ∷ xs) h e =
    and_both (leb low' x) _ (le-leb low' x (omega (arith, leb-true low x (and_left (leb low x) _ e)))) (and_right (leb low x) _ e)

-- the entry at i is no less than what the list from i on ascends from, and the rest ascends from what is past it
pub ascending-at : (low : ℕ) (xs : List ℕ) (i : ℕ) → i < length xs → ascending low (drop i xs) ≡ true → low ≤ get_or xs i 0
ascending-at low xs i h e = leb-true _ _ (and_left (leb low (get_or xs i 0)) _ (sym (ascending_step low xs i h) ∙ e))

pub ascending-rest : (low next : ℕ) (xs : List ℕ) (i : ℕ) → i < length xs → next ≤ get_or xs i 0 → ascending low (drop i xs) ≡ true
    → ascending next (drop (i + 1) xs) ≡ true
ascending-rest low next xs i h n e =
    ascending_weaken (get_or xs i 0 + 1) next (drop (i + 1) xs) (omega arith) (and_right (leb low (get_or xs i 0)) _ (sym (ascending_step low xs i h) ∙ e))

-- each entry is no less than what the list ascends from
pub ascending-from : (low : ℕ) (xs : List ℕ) (i : ℕ) → i < length xs → ascending low xs ≡ true → low ≤ get_or xs i 0
unfolding ascending
ascending-from low [] i h e = absurd (not-suc-le-zero h)
ascending-from low (x ∷ xs) zero h e = leb-true low x (and_left (leb low x) _ e)
ascending-from low (x ∷ xs) (suc i) h e =
    let here = leb-true low x (and_left (leb low x) _ e) in
    let there = ascending-from (x + 1) xs i (le_of_suc-le-suc h) (and_right (leb low x) _ e) in
    omega arith

-- an earlier entry is less than a later one
pub ascending_less : (low : ℕ) (xs : List ℕ) (i j : ℕ) → i < j → j < length xs → ascending low xs ≡ true → get_or xs i 0 < get_or xs j 0
unfolding ascending
ascending_less low [] i j g h e = absurd (not-suc-le-zero h)
ascending_less low (x ∷ xs) i zero g h e = absurd (not-suc-le-zero g)
ascending_less low (x ∷ xs) zero (suc j) g h e =
    let there = ascending-from (x + 1) xs j (le_of_suc-le-suc h) (and_right (leb low x) _ e) in
    omega arith
ascending_less low (x ∷ xs) (suc i) (suc j) g h e = ascending_less (x + 1) xs i j (le_of_suc-le-suc g) (le_of_suc-le-suc h) (and_right (leb low x) _ e)

-- from `low` to `top` there are at most so many
pub ascending-count : (low top : ℕ) (xs : List ℕ) → low ≤ top + 1 → ascending low xs ≡ true → every (at_most top) xs ≡ true → low + length xs ≤ top + 1
unfolding ascending every
ascending-count low top [] b e f = omega arith
ascending-count low top (x ∷ xs) b e f =
    let here = leb-true low x (and_left (leb low x) _ e) in
    let most = leb-true x top (and_left (leb x top) _ f) in
    let rest = ascending-count (x + 1) top xs (omega arith) (and_right (leb low x) _ e) (and_right (leb x top) _ f) in
    omega arith
