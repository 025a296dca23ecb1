-- How a reader goes along the end of a header: what `ended` says of the text from a place on. Assumes nothing.
use mathlib.Core.Path.{◌≡◌}
use mathlib.Core.Bool.{false}
use mathlib.Core.List.{List}
use Prim.Native.Nat.{ℕ, suc, ◌+◌, ◌-◌, ◌≤◌, ◌<◌}
use native.Mathlib.Numerals.{add-one}
use native.Mathlib.Omega.{arith}
use lib.Dec.{eqb, eqb-suc-suc}
use lib.ListN.{length, get_or, drop, length-drop, drop_of_length-le}
use lib.Seq.{drop-cons}
use borrow.Author.Tests.{ne_eqb}
use Rattle.report_npy.specs.Header.{ended}

pub ended-none : (text : List ℕ) (place : ℕ) → length text ≤ place → ended (drop place text) ≡ false
unfolding ended
ended-none text place h = rw drop_of_length-le

module _ (text : List ℕ) (place : ℕ) (h : place < length text) where
  pub ended-space : get_or text place 0 ≡ 32 → ended (drop place text) ≡ ended (drop (place + 1) text)
  unfolding ended
  ended-space e = rw (add-one, drop-cons text place 0 h, e)

  pub ended_feed : get_or text place 0 ≡ 10 → ended (drop place text) ≡ eqb (length text - place) 1
  unfolding ended
  ended_feed e =
      let m : length (drop (suc place) text) ≡ length text - suc place = length-drop (suc place) text in
      let k : length text - place ≡ suc (length text - suc place) = omega arith in
      rw (drop-cons text place 0 h, e, m, k, eqb-suc-suc)

  pub ended_other : (get_or text place 0 ≡ 32 → ⊥) → (get_or text place 0 ≡ 10 → ⊥) → ended (drop place text) ≡ false
  unfolding ended
  ended_other e k = rw (drop-cons text place 0 h, ne_eqb _ _ e, ne_eqb _ _ k)
