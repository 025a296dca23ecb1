-- `tempo::too_little` meets its contract, by the three tests that it makes. Assumes nothing.
use borrow.Author.Tests.{lt-ltb, le-ltb}
use Rattle.tempo.specs.Answers.{too_little}
use Rattle.tempo.proofs.too_little.Goals as goal

pub returns-then-n-lt3 : goal.returns-then-n-lt3
unfolding too_little
returns-then-n-lt3 c = rw (lt-ltb _ _ c.if-n-lt3.true)

pub returns-then-onsets-lt2 : goal.returns-then-onsets-lt2
unfolding too_little
returns-then-onsets-lt2 c = rw (le-ltb _ _ c.if-n-lt3.false, lt-ltb _ _ c.if-onsets-lt2.true)

pub returns-else-onsets-lt2 : goal.returns-else-onsets-lt2
unfolding too_little
returns-else-onsets-lt2 c = rw (le-ltb _ _ c.if-n-lt3.false, le-ltb _ _ c.if-onsets-lt2.false)
