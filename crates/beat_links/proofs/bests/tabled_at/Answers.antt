-- `beat_links::bests::tabled_at` meets its contract. Assumes nothing.
use mathlib.Core.Path.{refl}
use Rattle.beat_links.specs.Inner.{tabled}
use Rattle.beat_links.proofs.bests.tabled_at.Goals as goal

pub returns : goal.returns
unfolding tabled
returns c = refl
