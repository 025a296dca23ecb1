-- `windows::farther_end` meets its contract, by what `higher_of` ensures. Assumes nothing.
use Rattle.windows.specs.Windows.{farther}
use borrow.Author.Rules.{rules}
use Rattle.windows.proofs.farther_end.Goals as goal

pub returns : goal.returns
unfolding farther
returns c = search rules
