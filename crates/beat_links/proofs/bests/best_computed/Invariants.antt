-- `beat_links::bests::best_computed` meets its contract. The invariant: what is left to search, searched from the best so far, is the whole answer, and
-- `reached` is no more than its value. A frame whose score alone is not above the best so far, or does not reach that, is passed over (`not-above`,
-- `greatest_skip`). Assumes nothing.
use mathlib.Core.Path.{◌≡◌}
use mathlib.Core.Bool.{true}
use Prim.Native.Nat.{◌-◌, ◌≤◌}
use lib.Ieee.{le}
use Rattle.lists.specs.Greatest.{greatest}
use Rattle.beat_links.specs.Extensions.{unlinked, extended}
use Rattle.lists.proofs.Greatest.{best}
use Rattle.beat_links.proofs.bests.best_computed.Given as goal

abbrev pub invariant-loop-u : goal.invariant-loop-u
invariant-loop-u l =
    let f = extended l.period l.score l.t in
    let answer = greatest f l.lo (l.end - l.lo) unlinked in
    (l.lo ≤ l.u) × (le l.reached answer.value ≡ true) × (greatest f l.u (l.end - l.u) (best l.value l.at) ≡ answer)
