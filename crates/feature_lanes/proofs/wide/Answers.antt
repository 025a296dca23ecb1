-- `feature_lanes::wide` meets its contract: a magnitude that is fine is no NaN, so that widening it is exact. Assumes nothing.
use mathlib.Core.Bool.{not}
use borrow.Author.Rules.{rules}
use lib.Dec.{T}
use lib.Ieee.{nan, is_nan}
use lib.ListN.{get_or}
use Rattle.numbers.proofs.Everys.{every-at}
use Rattle.feature_lanes.specs.Addends.{strength_fine}
use Rattle.feature_lanes.proofs.Strengths.{strength_not_nan}
use Rattle.feature_lanes.proofs.wide.Goals as goal

pub float_to_float-result : goal.float_to_float-result
float_to_float-result c =
    let n : T (not (is_nan (get_or c.args.s.now c.args.i nan))) =
    strength_not_nan _ (every-at strength_fine c.args.s.now c.args.i nan c.requires.1 c.requires.0) in
    search rules
