-- `run_cases::digit_of` meets its contract: each answer is what the definition picks by the same test. Assumes nothing.
use borrow.Author.Tests.{lt-ltb, le-ltb}
use Rattle.run_cases.specs.Texts.{case_digit}
use Rattle.run_cases.proofs.digit_of.Goals as goal

pub returns-then-byte-lt97 : goal.returns-then-byte-lt97
unfolding case_digit
returns-then-byte-lt97 c = rw (lt-ltb _ _ c.if-byte-lt97.true)

pub returns : goal.returns
unfolding case_digit
returns c = rw (le-ltb _ _ c.if-byte-lt97.false)
