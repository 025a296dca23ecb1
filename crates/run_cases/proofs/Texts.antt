-- A text from slot i on: its first byte, then the rest.
use mathlib.Core.Path.{◌≡◌, refl}
use mathlib.Core.List.{List, [], ◌∷◌}
use Prim.Native.Nat.{ℕ, suc, ◌+◌, ◌-◌, ◌≤◌, ◌<◌}
use native.Mathlib.Numerals.{add-one}
use native.Mathlib.Omega.{arith}
use borrow.Author.Tests.{eq-eqb, ne_eqb}
use lib.ListN.{length, get_or, take, drop, drop_of_length-le}
use lib.Seq.{drop-cons}
use Rattle.run_cases.specs.Texts.{index_of, marks_of, parts_from, case_part}

-- the text from its part 0 on is the text
pub from_first : (mark : ℕ) (s : List ℕ) → parts_from mark s 0 ≡ s
unfolding parts_from
from_first mark [] = refl
from_first mark (x ∷ xs) = refl

module _ (mark : ℕ) (s : List ℕ) (i : ℕ) where
  pub marks_mark : i < length s → get_or s i 0 ≡ mark → marks_of mark (drop i s) ≡ 1 + marks_of mark (drop (i + 1) s)
  unfolding marks_of
  marks_mark h e = rw (add-one, drop-cons s i 0, eq-eqb _ _ e)

  pub marks_other : i < length s → (get_or s i 0 ≡ mark → ⊥) → marks_of mark (drop i s) ≡ marks_of mark (drop (i + 1) s)
  unfolding marks_of
  marks_other h e = rw (add-one, drop-cons s i 0, ne_eqb _ _ e) (omega arith)

  pub marks_end : length s ≤ i → marks_of mark (drop i s) ≡ 0
  unfolding marks_of
  marks_end h = rw drop_of_length-le

  module _ (k : ℕ) where
    pub from_mark : i < length s → (k ≡ 0 → ⊥) → get_or s i 0 ≡ mark → parts_from mark (drop i s) k ≡ parts_from mark (drop (i + 1) s) (k - 1)
    unfolding parts_from
    from_mark h z e = rw (add-one, drop-cons s i 0, ne_eqb _ _ z, eq-eqb _ _ e)

    pub from_other : i < length s → (k ≡ 0 → ⊥) → (get_or s i 0 ≡ mark → ⊥) → parts_from mark (drop i s) k ≡ parts_from mark (drop (i + 1) s) k
    unfolding parts_from
    from_other h z e = rw (add-one, drop-cons s i 0, ne_eqb _ _ z, ne_eqb _ _ e)

    pub from_end : length s ≤ i → parts_from mark (drop i s) k ≡ drop i s
    unfolding parts_from
    from_end h = rw drop_of_length-le

  pub index_here : i < length s → get_or s i 0 ≡ mark → index_of mark (drop i s) ≡ 0
  unfolding index_of
  index_here h e = rw (drop-cons s i 0, eq-eqb _ _ e)

  pub index_next : i < length s → (get_or s i 0 ≡ mark → ⊥) → index_of mark (drop i s) ≡ suc (index_of mark (drop (i + 1) s))
  unfolding index_of
  index_next h e = rw (add-one, drop-cons s i 0, ne_eqb _ _ e)

  pub index_end : length s ≤ i → index_of mark (drop i s) ≡ 0
  unfolding index_of
  index_end h = rw drop_of_length-le

-- the part that begins at a place: from there up to the first mark
pub part_at : (mark : ℕ) (s : List ℕ) (k from end : ℕ) → drop from s ≡ parts_from mark s k → end ≡ from + index_of mark (drop from s)
    → take (end - from) (drop from s) ≡ case_part mark s k
unfolding case_part
part_at mark s k from end e f =
    let n : end - from ≡ index_of mark (drop from s) = omega arith in
    rw (n, e)
