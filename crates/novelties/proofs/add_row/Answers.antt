use mathlib.Core.Path.{◌≡◌, sym, ◌∙◌}
use mathlib.Core.Bool.{true}
use mathlib.Core.List.{List}
use Prim.Native.Nat.{ℕ}
use native.Mathlib.Omega.{arith}
use lib.Ieee.{Float}
use Rattle.novelties.specs.Novelty.{inside, add_term, add_row}
use Rattle.novelties.proofs.Terms.{turns_next, turns_skip, turns_end, is-inside, is-before, is-past, term_skipped_too}
use Rattle.novelties.proofs.add_row.Goals as goal

pub loop-v-init : goal.loop-v-init
unfolding add_row
loop-v-init c =
    let a = c.args in
    let s : List Float = a.similarity.now in
    let at-u : inside a.rows a.i a.u ≡ true = is-inside a.rows a.i a.u (omega arith) (omega arith) in (
      omega arith,
      omega arith,
      sym (turns_skip (add_term s a.rows a.i a.u) 0 a.low 16 a.sum (omega arith) (omega arith)
          (λ v l h x. term_skipped_too s a.rows a.i a.u v x at-u (is-before a.rows a.i v (omega arith)))),
    )

pub add_term-total-requires : goal.add_term-total-requires
add_term-total-requires c =
    let p = c.requires in
    (p.0, p.1, omega arith, omega arith, omega arith, omega arith, omega arith, omega arith)

pub loop-v-preserved : goal.loop-v-preserved
loop-v-preserved c =
    (omega arith, omega arith, rw c.add_term-total.ensures (sym (turns_next _ c.loop-v.v 16 c.loop-v.total (omega arith)) ∙ c.loop-v.invariant.2))

pub returns : goal.returns
returns c =
    let a = c.args in
    let s : List Float = a.similarity.now in
    let f : ℕ → Float → Float = add_term s a.rows a.i a.u in
    let at-u : inside a.rows a.i a.u ≡ true = is-inside a.rows a.i a.u (omega arith) (omega arith) in
    sym (turns_skip f c.loop-v.v 16 16 c.loop-v.total (omega arith) (omega arith)
    (λ v p h x. term_skipped_too s a.rows a.i a.u v x at-u (is-past a.rows a.i v (omega arith)))
    ∙ turns_end f 16 16 c.loop-v.total (omega arith))
    ∙ c.loop-v.invariant.2
