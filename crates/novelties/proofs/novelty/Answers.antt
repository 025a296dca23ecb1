-- `novelty` meets its contract: a refusal leaves the lent slots as they were, and without one all holds that the fill needs. Assumes nothing.
use mathlib.Core.Path.{sym, ◌∙◌}
use native.Mathlib.Omega.{arith}
use Rattle.numbers.proofs.Tests.{passed_does}
use Rattle.novelties.proofs.Calls.{novelty_refused, novelty_passed}
use Rattle.novelties.proofs.novelty.Goals as goal

pub returns-in_err-refusal : goal.returns-in_err-refusal
returns-in_err-refusal c = novelty_refused _ _ _ _ _ c.from_residual.ensures.1 c.in_err-refusal.ensures

pub fill_novelty-requires : goal.fill_novelty-requires
fill_novelty-requires c =
    let p = novelty_passed _ _ _ (sym c.in_ok-refusal.ensures) in
    (p.whole, omega arith, omega arith, p.space)

pub returns : goal.returns
returns c =
    let z = sym c.in_ok-refusal.ensures in
    record { answer = sym z; slots = c.fill_novelty.ensures ∙ sym (passed_does _ _ _ z) }
