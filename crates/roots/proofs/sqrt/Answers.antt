-- `roots::sqrt` meets its contract: whatever is guessed, `sqrt_from` answers the root. Assumes nothing.
use Rattle.roots.proofs.sqrt.Goals as goal

pub returns : goal.returns
returns c = c.sqrt_from.ensures
