-- `flux::flux_slot` meets its contract: slot 0 is +0, and any other the rise of its row over the row before it. Assumes nothing.
use mathlib.Core.Path.{sym, ◌∙◌}
use native.Mathlib.Omega.{arith}
use Rattle.flux.specs.Flux.{flux_at}
use Rattle.flux.proofs.Fluxes.{flux-from}
use Rattle.flux.proofs.flux_slot.Goals as goal

pub returns-then-t-eq0 : goal.returns-then-t-eq0
unfolding flux_at
returns-then-t-eq0 c = rw c.if-t-eq0.true

pub rise_at-requires : goal.rise_at-requires
rise_at-requires c =
    (omega arith, omega arith, omega arith)

pub returns : goal.returns
returns c = c.rise_at.ensures ∙ sym (flux-from _ _ _ _ (omega arith))
