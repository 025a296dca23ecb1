-- `lists::first_greatest` meets its contract. The invariant: what is left to search, searched from the best so far, is the whole answer. Assumes nothing.
use Rattle.std.proofs.Common.{◌≡◌, ◌-◌, ◌<◌}
use Rattle.lists.specs.Greatest.{greatest, value_at}
use Rattle.lists.proofs.Greatest.{best}
use Rattle.lists.proofs.first_greatest.Given as goal

abbrev pub invariant-loop-t : goal.invariant-loop-t
invariant-loop-t l =
    (l.at < l.t) × (greatest (value_at l.values) l.t (l.n - l.t) (best l.top l.at) ≡ greatest (value_at l.values) 1 (l.n - 1) (best (value_at l.values 0) 0))
