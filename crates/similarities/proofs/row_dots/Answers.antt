use mathlib.Core.Path.{◌≡◌, refl, sym, ap, ◌∙◌}
use mathlib.Core.List.{List}
use Prim.Native.Nat.{ℕ, ◌+◌, ◌*◌}
use native.Mathlib.Nat.{add_assoc}
use native.Mathlib.Omega.{arith}
use lib.ListN.{length, get_or, length-set, get_or-replicate}
use lib.Seq.{get_or-set_same, get_or-set_other}
use lib.Ieee.{Float, nan}
use Rattle.numbers.specs.Rounded.{◌⊕◌, ◌⊗◌, nought, sum_from}
use Rattle.numbers.specs.Lists.{filled}
use Rattle.numbers.proofs.Tabs.{length-filled, get_or_filled_in}
use Rattle.row_pairs.specs.Pairs.{products, dot_of}
use Rattle.similarities.specs.Lanes.{turned_column, lane_product}
use Rattle.row_pairs.proofs.Slots.{dot_next, dot_end}
use Rattle.similarities.proofs.Blocks.{length-column, get_or-column}
use Rattle.similarities.proofs.row_dots.Goals as goal

pub loop-k-init : goal.loop-k-init
unfolding dot_of
loop-k-init c =
    let a = c.args in (
      omega arith,
      refl,
      λ d p q. ap (λ (x : Float). sum_from x (products a.row.now (turned_column a.turned.now (a.c + d)))) (get_or-replicate 17 d nought nan q),
    )

pub add_products-requires : goal.add_products-requires
add_products-requires c = (c.loop-k.invariant.1, omega arith)

pub loop-k-preserved : goal.loop-k-preserved
unfolding lane_product
loop-k-preserved c =
    let a = c.args in
    let k = c.loop-k.k in
    let row : List Float = a.row.now in
    let turned : List Float = a.turned.now in
    let was : List Float = c.loop-k.sums in
    let at : ℕ = k * 128 + a.c in
    let f : ℕ → Float = lane_product was (get_or row k nan) turned at in
    let next : List Float = c.add_products.new.sums in
    let m : length was ≡ 17 = c.loop-k.invariant.1 in
    let e : next ≡ filled f was 1 17 = c.add_products.ensures in (
      omega arith,
      ap length e ∙ length-filled f was 1 17 (omega arith) (omega arith) ∙ m,
      λ d p q.
          let column = turned_column turned (a.c + d) in
          let there : get_or column k nan ≡ get_or turned (at + d) nan =
          get_or-column turned (a.c + d) k (omega arith) ∙ ap (λ (n : ℕ). get_or turned n nan) (sym (add_assoc (k * 128) a.c d)) in
          let step : get_or next d nan ≡ get_or was d nan ⊕ get_or row k nan ⊗ get_or column k nan =
          ap (λ (x : List Float). get_or x d nan) e
          ∙ get_or_filled_in f was 1 17 (omega arith) (omega arith) d nan (omega arith) q
          ∙ ap (λ (y : Float). get_or was d nan ⊕ get_or row k nan ⊗ y) (sym there) in
          rw step (sym (dot_next (get_or was d nan) row column k (omega arith) (omega (arith, length-column turned (a.c + d)))) ∙ c.loop-k.invariant.2 d p q),
    )

pub returns : goal.returns
returns c =
    let a = c.args in
    let sums : List Float = c.loop-k.sums in
    let m : length sums ≡ 17 = c.loop-k.invariant.1 in (
      simp length-set m,
      get_or-set_same sums 0 a.own nan (omega arith),
      λ d p q.
          get_or-set_other sums 0 d a.own nan (λ (z : d ≡ 0). omega arith)
          ∙ sym (dot_end (get_or sums d nan) a.row.now (turned_column a.turned.now (a.c + d)) c.loop-k.k (omega arith))
          ∙ c.loop-k.invariant.2 d p q,
    )
