use mathlib.Core.Path.{◌≡◌, refl, sym, ap, ◌∙◌}
use mathlib.Core.List.{List}
use Prim.Native.Nat.{ℕ, ◌*◌}
use native.Mathlib.Omega.{arith}
use lib.ListN.{length}
use lib.Ieee.{Float, nan}
use Rattle.numbers.specs.Lists.{filled}
use Rattle.numbers.proofs.Tabs.{filled_none, filled_join, length-filled}
use Rattle.row_pairs.specs.Pairs.{similarity_at}
use Rattle.similarities.proofs.fill_similarity_rows.Goals as goal

pub loop-i-init : goal.loop-i-init
loop-i-init c = (omega arith, omega arith, refl, sym (filled_none _ _ _))

pub fill_block-requires : goal.fill_block-requires
fill_block-requires c =
    let p = c.requires in
    let e = c.min-next.ensures in
    (p.0, omega arith, omega arith, omega arith, omega arith)

pub loop-i-smaller : goal.loop-i-smaller
loop-i-smaller c = let e = c.min-next.ensures in omega arith

pub loop-i-preserved : goal.loop-i-preserved
loop-i-preserved c =
    let a = c.args in
    let i = c.loop-i.i in
    let next = c.min-next.result in
    let next-is = c.min-next.ensures in
    let f : ℕ → Float = similarity_at a.features.now a.rows in
    let was : List Float = c.loop-i.similarity in
    let m : length was ≡ length a.similarity.now = c.loop-i.invariant.2 in
    let e : c.fill_block.new.similarity ≡ filled f was (i * 17) (next * 17) = c.fill_block.ensures in (
      omega arith,
      omega arith,
      ap length e ∙ length-filled f was (i * 17) (next * 17) (omega arith) (omega arith) ∙ m,
      e ∙ ap (λ (d : List Float). filled f d (i * 17) (next * 17)) c.loop-i.invariant.3
          ∙ filled_join f a.similarity.now (a.from * 17) (i * 17) (next * 17) (omega arith) (omega arith) nan (omega arith),
    )

pub returns : goal.returns
returns c =
    let a = c.args in
    let e : c.loop-i.i * 17 ≡ a.past * 17 = omega arith in
    c.loop-i.invariant.3 ∙ ap (filled (similarity_at a.features.now a.rows) a.similarity.now (a.from * 17)) e
