-- `lists::read_refusal` meets its contract, test by test. Assumes nothing.
use Rattle.std.proofs.Common.{sym}
use borrow.Author.Tests.{not-true, not-false}
use Rattle.lists.proofs.Readings.{read_unlisted, read_fallen, read_whole}
use Rattle.lists.proofs.read_refusal.Goals as goal

pub returns-then-not-j : goal.returns-then-not-j
returns-then-not-j c = sym (read_unlisted c.args.j (not-true _ c.if-not-j.true))

pub returns-then-not-j-2 : goal.returns-then-not-j-2
returns-then-not-j-2 c = sym (read_fallen c.args.j (not-false _ c.if-not-j.false) (not-true _ c.if-not-j-2.true))

pub returns : goal.returns
returns c = sym (read_whole c.args.j (not-false _ c.if-not-j.false) (not-false _ c.if-not-j-2.false))
