use mathlib.Core.Path.{◌≡◌, refl, sym, ◌∙◌}
use native.Mathlib.Omega.{arith}
use Rattle.section_peaks.proofs.Walks.{peaks-past}
use Rattle.section_peaks.proofs.next_peak.Goals as goal

pub loop-t-init : goal.loop-t-init
loop-t-init c = (c.saturating_sub-last.ensures, omega arith, omega arith, refl)

pub returns-then-is_peak : goal.returns-then-is_peak
returns-then-is_peak c =
    record { from = c.loop-t.invariant.1; stands = record { peak = λ h. sym c.is_peak.ensures ∙ c.if-is_peak.true }; same = c.loop-t.invariant.3 }

pub loop-t-preserved : goal.loop-t-preserved
loop-t-preserved c =
    (c.loop-t.invariant.0, omega arith, omega arith, c.loop-t.invariant.3 ∙ peaks-past _ _ _ (omega arith) (sym c.is_peak.ensures ∙ c.if-is_peak.false))

pub returns : goal.returns
returns c =
    let m : c.max.result ≡ c.loop-t.t = omega (arith, c.loop-t.invariant.1, c.loop-t.invariant.2) in
    rw m (record { from = c.loop-t.invariant.1; stands = record { peak = λ h. absurd (omega arith) }; same = c.loop-t.invariant.3 })
