-- `cue_points::put_point` meets its contract: six words, one behind the other. Assumes nothing.
use Rattle.texts.proofs.Puts.{put_then}
use Rattle.words.specs.Words.{word}
use Rattle.cue_points.specs.Chunks.{point}
use borrow.Author.Rules.{rules}
use Rattle.cue_points.proofs.put_point.Goals as goal

pub put_word-e2-requires : goal.put_word-e2-requires
unfolding word
put_word-e2-requires c = search rules

pub put_word-e3-requires : goal.put_word-e3-requires
unfolding word
put_word-e3-requires c = search rules

pub put_word-e4-requires : goal.put_word-e4-requires
unfolding word
put_word-e4-requires c = search rules

pub put_word-e5-requires : goal.put_word-e5-requires
unfolding word
put_word-e5-requires c = search rules

pub put_word-requires : goal.put_word-requires
unfolding word
put_word-requires c = search rules

pub returns : goal.returns
unfolding point word
returns c =
    put_then (put_then (put_then (put_then (put_then c.put_word-e1.ensures c.put_word-e2.ensures) c.put_word-e3.ensures) c.put_word-e4.ensures)
    c.put_word-e5.ensures) c.put_word.ensures
