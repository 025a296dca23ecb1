-- `midi_gaps::gaps_fit` meets its contract. The invariant: the test of all gaps is the test of those that are left. Assumes nothing.
use mathlib.Core.Path.{◌≡◌}
use lib.ListN.{drop}
use Rattle.numbers.specs.Limits.{at_most}
use Rattle.numbers.specs.Lists.{every}
use Rattle.midi_gaps.specs.Gaps.{gaps_of, gaps_fit, most_tempo}
use Rattle.midi_gaps.proofs.gaps_fit.Given as goal

abbrev pub invariant-loop-i : goal.invariant-loop-i
invariant-loop-i l = gaps_fit l.rate l.beats ≡ every (at_most most_tempo) (drop l.i (gaps_of l.rate l.beats))
