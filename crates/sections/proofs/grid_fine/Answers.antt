-- `sections::grid_fine` meets its contract: each return rewrites the chain of tests with those that led to it. Assumes nothing.
use Rattle.std.proofs.Common.{◌∙◌, le-leb}
use borrow.Author.Tests.{lt-leb}
use Rattle.sections.proofs.grid_fine.Goals as goal

pub returns-then-length-lt1 : goal.returns-then-length-lt1
returns-then-length-lt1 c = simp (lt-leb _ _ c.if-length-lt1.true)

pub returns-then-length-gt-MOST_LENGTH : goal.returns-then-length-gt-MOST_LENGTH
returns-then-length-gt-MOST_LENGTH c = simp (le-leb _ _ c.if-length-lt1.false, lt-leb _ _ c.if-length-gt-MOST_LENGTH.true)

pub returns : goal.returns
returns c = c.rate_fine.ensures ∙ simp (le-leb _ _ c.if-length-lt1.false, le-leb _ _ c.if-length-gt-MOST_LENGTH.false)
