-- `cue_points::point_fine` meets its contract: six words, which are tested. Assumes nothing.
use mathlib.Core.Path.{◌≡◌, sym, ap, ◌∙◌}
use native.Mathlib.Omega.{arith}
use Prim.Native.Nat.{◌+◌, ◌*◌}
use lib.ListN.{drop}
use Rattle.words.specs.Words.{word_at}
use Rattle.words.proofs.Words.{word-within}
use Rattle.cue_points.proofs.Heads.{fields_same}
use Rattle.cue_points.proofs.point_fine.Goals as goal

pub returns : goal.returns
returns c =
    let chunk = c.args.chunk.now in
    let at = 12 + c.args.i * 24 in
    let z : at ≡ at + 0 = omega arith in
    let e1 : c.word_at-name.result ≡ word_at (drop at chunk) 0 = c.word_at-name.ensures ∙ ap (word_at chunk) z ∙ sym (word-within chunk at 0) in
    let e2 : c.word_at-position.result ≡ word_at (drop at chunk) 4 = c.word_at-position.ensures ∙ sym (word-within chunk at 4) in
    let e3 : c.word_at-id.result ≡ word_at (drop at chunk) 8 = c.word_at-id.ensures ∙ sym (word-within chunk at 8) in
    let e4 : c.word_at-first.result ≡ word_at (drop at chunk) 12 = c.word_at-first.ensures ∙ sym (word-within chunk at 12) in
    let e5 : c.word_at-second.result ≡ word_at (drop at chunk) 16 = c.word_at-second.ensures ∙ sym (word-within chunk at 16) in
    let e6 : c.word_at-offset.result ≡ word_at (drop at chunk) 20 = c.word_at-offset.ensures ∙ sym (word-within chunk at 20) in
    c.fields_fine.ensures ∙ fields_same c.args.i e1 e2 e3 e4 e5 e6
