use mathlib.Core.Path.{refl, sym, ap, ◌∙◌}
use native.Mathlib.Omega.{arith}
use borrow.Author.Tests.{le-leb, lt-leb}
use Rattle.numbers.specs.Limits.{at_most}
use Rattle.numbers.proofs.Everys.{every_end}
use Rattle.midi_gaps.specs.Gaps.{gaps_of, gaps_fit, most_tempo}
use Rattle.midi_gaps.proofs.Gaps.{gaps-length, fit_pass, fit_fail}
use Rattle.midi_gaps.proofs.gaps_fit.Goals as goal

pub loop-i-init : goal.loop-i-init
unfolding gaps_fit
loop-i-init c = refl

pub returns-then-gap_at-gt-MOST_TEMPO : goal.returns-then-gap_at-gt-MOST_TEMPO
returns-then-gap_at-gt-MOST_TEMPO c =
    let g = c.args in
    sym (c.loop-i.invariant ∙ fit_fail g.rate g.beats.now c.loop-i.i (omega (arith, c.saturating_sub-count.ensures))
    (ap (at_most most_tempo) (sym c.gap_at.ensures) ∙ lt-leb _ most_tempo c.if-gap_at-gt-MOST_TEMPO.true))

pub loop-i-preserved : goal.loop-i-preserved
loop-i-preserved c =
    let g = c.args in
    c.loop-i.invariant ∙ fit_pass g.rate g.beats.now c.loop-i.i (omega (arith, c.saturating_sub-count.ensures))
    (ap (at_most most_tempo) (sym c.gap_at.ensures) ∙ le-leb _ most_tempo c.if-gap_at-gt-MOST_TEMPO.false)

pub returns : goal.returns
returns c =
    let g = c.args in
    sym (c.loop-i.invariant
    ∙ every_end (at_most most_tempo) (gaps_of g.rate g.beats.now) c.loop-i.i
    (omega (arith, gaps-length g.rate g.beats.now, c.saturating_sub-count.ensures)))
