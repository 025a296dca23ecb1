-- `beat_links::bests::up` meets its contract. Assumes nothing.
use mathlib.Core.Path.{sym}
use Rattle.numbers.proofs.Tests.{pick_true, pick-false}
use Rattle.beat_links.specs.Inner.{larger}
use Rattle.beat_links.proofs.bests.up.Goals as goal

pub returns-then-v-c : goal.returns-then-v-c
unfolding larger
returns-then-v-c c = sym (pick_true _ _ _ c.if-v-c.true)

pub returns-else-v-c : goal.returns-else-v-c
unfolding larger
returns-else-v-c c = sym (pick-false _ _ _ c.if-v-c.false)
