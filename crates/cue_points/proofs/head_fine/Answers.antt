-- `cue_points::head_fine` meets its contract, test by test. Assumes nothing.
use mathlib.Core.Path.{◌≡◌, sym, ap, ◌∙◌}
use native.Mathlib.Omega.{arith}
use Prim.Native.Nat.{◌+◌, ◌*◌}
use lib.Dec.{eqb}
use lib.ListN.{length}
use Rattle.cue_points.specs.Chunks.{count_of}
use Rattle.cue_points.proofs.Heads.{head_short, head_id, head_size, head_length}
use Rattle.cue_points.proofs.head_fine.Goals as goal

pub returns-then-chunk-lt12 : goal.returns-then-chunk-lt12
returns-then-chunk-lt12 c = sym (head_short c.args.chunk.now c.if-chunk-lt12.true)

pub returns-then-word_at-ne-CUE : goal.returns-then-word_at-ne-CUE
returns-then-word_at-ne-CUE c =
    let chunk = c.args.chunk.now in
    sym (head_id chunk c.if-chunk-lt12.false (λ e. c.if-word_at-ne-CUE.true (c.word_at.ensures ∙ e)))

pub returns-then-size-whole : goal.returns-then-size-whole
returns-then-size-whole c =
    let chunk = c.args.chunk.now in
    sym (head_size chunk (omega arith) (sym c.word_at.ensures
    ∙ c.if-word_at-ne-CUE.false) (λ e. c.if-size-whole.true (omega (arith, c.word_at-2.ensures, c.word_at-size.ensures, e))))

pub returns : goal.returns
returns c =
    let chunk = c.args.chunk.now in
    let n = c.word_at-2.ensures in
    let e : 8 + (4 + 24 * c.word_at-2.result) ≡ 12 + 24 * count_of chunk = omega arith in
    ap (eqb (length chunk)) e
    ∙ sym (head_length chunk (omega arith) (sym c.word_at.ensures
    ∙ c.if-word_at-ne-CUE.false) (omega (arith, n, c.word_at-size.ensures, c.if-size-whole.false)))
