-- `cue_points::put_head` meets its contract: three words, one behind the other. Assumes nothing.
use Rattle.texts.proofs.Puts.{put_then}
use Rattle.words.specs.Words.{word}
use Rattle.cue_points.specs.Chunks.{head_of}
use borrow.Author.Rules.{rules}
use Rattle.cue_points.proofs.put_head.Goals as goal

pub put_word-e2-requires : goal.put_word-e2-requires
unfolding word
put_word-e2-requires c = search rules

pub put_word-requires : goal.put_word-requires
unfolding word
put_word-requires c = search rules

pub returns : goal.returns
unfolding head_of word
returns c =
    put_then (put_then c.put_word-e1.ensures c.put_word-e2.ensures) c.put_word.ensures
