-- `floats::bits::whole_of` meets its contract: below the range it is 0 (`low_end`), past it all ones (`high_end`). Assumes nothing.
use Rattle.std.proofs.Common.{T, sym, subst}
use lib.Ieee.{neg, of_bits}
use Rattle.floats.proofs.Patterns.{low_end, high_end}
use Rattle.floats.proofs.bits.whole_of.Goals as goal

pub truncating_f64_to_u64-requires : goal.truncating_f64_to_u64-requires
unfolding neg of_bits
truncating_f64_to_u64-requires c = record { lower_bound = subst T (sym c.if-x.true) tt; upper_bound = subst T (sym c.if-x-2.true) tt }

pub returns-then-x : goal.returns-then-x
unfolding neg of_bits
returns-then-x c = sym (high_end _ c.if-x.true c.if-x-2.false)

pub returns : goal.returns
unfolding neg of_bits
returns c = sym (low_end _ c.if-x.false)
