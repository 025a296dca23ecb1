-- `lag_sums::abreast::two_more` meets its contract: one product more, and then another. Assumes nothing.
use mathlib.Core.Path.{◌∙◌, ap}
use Prim.Native.Nat.{◌+◌}
use Rattle.lag_sums.specs.declared.abreast.Eight.{Eight}
use Rattle.lag_sums.specs.Lanes.{eight_by, eight_more, entry}
use Rattle.lag_sums.proofs.abreast.two_more.Goals as goal

pub returns : goal.returns
returns c =
    let a = c.args in
    c.eight_more-2.ensures ∙ ap (λ (x : Eight). eight_more x a.w (eight_by (entry a.later.now) (a.at + 1))) c.eight_more.ensures
