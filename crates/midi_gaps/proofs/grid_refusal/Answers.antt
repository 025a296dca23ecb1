-- `midi_gaps::grid_refusal` meets its contract: the rows in their order, each with the answer of its test. Assumes nothing.
use mathlib.Core.Bool.{true}
use mathlib.Core.Path.{◌≡◌, sym, ap, ◌∙◌}
use borrow.Author.Tests.{leb-true, not-true, not-false}
use lib.Dec.{leb}
use Rattle.numbers.specs.Limits.{most_rate, rate_fine}
use Rattle.numbers.proofs.Tests.{and_left}
use Rattle.midi_gaps.specs.Gaps.{tempo_track_numbers_fine}
use mathlib.Core.Bool.{not}
use Rattle.midi_gaps.proofs.grid_refusal.Goals.{Else-not-rate_fine}
use Rattle.midi_gaps.proofs.grid_refusal.Goals as goal

-- past the first test
fine : (c : Else-not-rate_fine) → rate_fine c.args.rate ≡ true
fine c = sym c.rate_fine.ensures ∙ not-false _ (ap not c.if-not-rate_fine.false)

pub returns-then-not-rate_fine : goal.returns-then-not-rate_fine
unfolding tempo_track_numbers_fine
returns-then-not-rate_fine c = simp (sym c.rate_fine.ensures ∙ not-true _ (ap not c.if-not-rate_fine.true))

pub gaps_fit-gaps-requires : goal.gaps_fit-gaps-requires
gaps_fit-gaps-requires c =
    leb-true 1 _ (and_left _ (leb c.args.rate most_rate) (fine (goal.at.gaps_fit-gaps-requires c).Else-not-rate_fine))

pub returns : goal.returns
unfolding tempo_track_numbers_fine
returns c =
    simp (
      c.unless-2.ensures,
      c.unless-rest.ensures,
      c.unless.ensures,
      c.gaps_fit-gaps.ensures,
      c.is_grid-grid.ensures,
      c.all_at_most-frames.ensures,
      fine (goal.at.returns c).Else-not-rate_fine,
    )
