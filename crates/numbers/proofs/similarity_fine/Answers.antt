-- `numbers::similarity_fine` meets its contract: similarity_fine is `sized` with its top. Assumes nothing.
use Rattle.numbers.specs.Limits.{similarity_fine}
use Rattle.numbers.proofs.similarity_fine.Goals as goal

pub returns : goal.returns
unfolding similarity_fine
returns c = c.size_fine.ensures
