use mathlib.Core.Path.{sym, ◌∙◌}
use mathlib.Core.List.{List}
use Prim.Native.Nat.{ℕ}
use native.Mathlib.Omega.{arith}
use lib.Ieee.{Float}
use Rattle.numbers.specs.Rounded.{nought}
use Rattle.novelties.specs.Novelty.{add_row, novelty_at}
use Rattle.novelties.proofs.Terms.{turns_next, turns_skip, turns_end, is-before, is-past, row_skipped}
use Rattle.novelties.proofs.novelty_slot.Goals as goal

pub loop-u-init : goal.loop-u-init
unfolding novelty_at
loop-u-init c =
    let a = c.args in
    let s : List Float = a.similarity.now in
    let low : ℕ = c.saturating_sub-low.result in
    let m = c.saturating_sub-low.ensures in
    let n = c.min-past.ensures in (
      omega arith,
      omega arith,
      sym (turns_skip (add_row s a.rows a.i) 0 low 16 nought (omega arith) (omega arith)
          (λ u l h x. row_skipped s a.rows a.i u x (is-before a.rows a.i u (omega arith)))),
    )

pub add_row-total-requires : goal.add_row-total-requires
add_row-total-requires c =
    let p = c.requires in
    (p.0, p.1, p.2, c.saturating_sub-low.ensures, c.min-past.ensures, c.loop-u.invariant.0, c.loop-u-test.true)

pub loop-u-preserved : goal.loop-u-preserved
loop-u-preserved c =
    let n = c.min-past.ensures in
    (omega arith, omega arith, rw c.add_row-total.ensures (sym (turns_next _ c.loop-u.u 16 c.loop-u.total (omega arith)) ∙ c.loop-u.invariant.2))

pub returns : goal.returns
returns c =
    let a = c.args in
    let n = c.min-past.ensures in
    let s : List Float = a.similarity.now in
    let f : ℕ → Float → Float = add_row s a.rows a.i in
    sym (turns_skip f c.loop-u.u 16 16 c.loop-u.total (omega arith) (omega arith)
    (λ u p h x. row_skipped s a.rows a.i u x (is-past a.rows a.i u (omega arith)))
    ∙ turns_end f 16 16 c.loop-u.total (omega arith))
    ∙ c.loop-u.invariant.2
