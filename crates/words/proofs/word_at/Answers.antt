-- `words::word_at` meets its contract: four bytes of the text. Assumes nothing.
use mathlib.Core.Path.{◌∙◌}
use Rattle.words.proofs.Words.{word_bytes}
use Rattle.words.proofs.word_at.Goals as goal

pub returns : goal.returns
returns c = c.word_of.ensures ∙ word_bytes c.args.bytes.now c.args.at
