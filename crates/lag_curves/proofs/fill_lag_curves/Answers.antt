-- `lag_curves::fill_lag_curves` meets its contract: the weights are made of the clarities just written. Assumes nothing.
use mathlib.Core.Path.{◌∙◌}
use native.Mathlib.Omega.{arith}
use Rattle.lags.specs.Lags.{lag_room}
use Rattle.lag_curves.proofs.Weights.{weighted-is}
use Rattle.lag_curves.proofs.fill_lag_curves.Goals as goal

pub returns : goal.returns
returns c =
    let a = c.args in record {
      clarity_after = c.fill_clarity.ensures;
      weight_after = c.fill_weight.ensures ∙ weighted-is a.envelope.now a.mean a.ac0 a.rate a.min_lag
          (lag_room a.min_lag a.max_lag) _ a.clarity.now a.weight.now (omega arith) c.fill_clarity.ensures;
    }
