-- `lag_sums::lag_sum` meets its contract: from time 0 on nothing is summed yet. Assumes nothing.
use mathlib.Core.Path.{refl}
use Rattle.numbers.specs.Rounded.{sum_from}
use borrow.Author.Rules.{rules}
use Rattle.lag_sums.proofs.lag_sum.Goals as goal

pub lag_rest-requires : goal.lag_rest-requires
unfolding sum_from
lag_rest-requires c = (search rules, refl)
