-- `cue_points::offset_at` meets its contract: the last word of a point. Assumes nothing.
use mathlib.Core.Path.{◌≡◌, sym, ap, ◌∙◌}
use native.Mathlib.Omega.{arith}
use Prim.Native.Nat.{◌+◌, ◌*◌}
use Rattle.words.specs.Words.{word_at}
use Rattle.words.proofs.Words.{word-within}
use Rattle.cue_points.proofs.offset_at.Goals as goal

pub returns : goal.returns
returns c =
    let e : 32 + c.args.i * 24 ≡ 12 + c.args.i * 24 + 20 = omega arith in
    c.word_at.ensures ∙ ap (word_at c.args.chunk.now) e ∙ sym (word-within c.args.chunk.now (12 + c.args.i * 24) 20)
