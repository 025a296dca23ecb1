-- `section_peaks::judge` meets its contract: its two tests are the definition's. Assumes nothing.
use mathlib.Core.Path.{sym, ◌∙◌}
use Rattle.section_peaks.proofs.judge.Goals as goal

pub returns-then-precedes : goal.returns-then-precedes
returns-then-precedes c =
    let a = sym c.precedes.ensures ∙ c.if-precedes.true in
    record { taken_is = rw a; spared_is = rw a }

pub returns-then-precedes-2 : goal.returns-then-precedes-2
returns-then-precedes-2 c =
    let a = sym c.precedes.ensures ∙ c.if-precedes.false in
    let b = sym c.precedes-2.ensures ∙ c.if-precedes-2.true in
    record { taken_is = rw (a, b); spared_is = rw (a, b) }

pub returns : goal.returns
returns c =
    let a = sym c.precedes.ensures ∙ c.if-precedes.false in
    let b = sym c.precedes-2.ensures ∙ c.if-precedes-2.false in
    record { taken_is = rw (a, b); spared_is = rw (a, b) c.saturating_sub.ensures }
