-- `words::put_word` meets its contract: four bytes, one behind the other. Assumes nothing.
use Rattle.texts.proofs.Puts.{put_then}
use Rattle.words.specs.Words.{word}
use Rattle.words.proofs.put_word.Goals as goal

pub returns : goal.returns
unfolding word
returns c = put_then (put_then (put_then c.put_byte-e1.ensures c.put_byte-e2.ensures) c.put_byte-e3.ensures) c.put_byte.ensures
