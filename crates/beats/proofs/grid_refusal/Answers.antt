-- `beats::grid_refusal` meets its contract: each return is the row of the table whose test fails after those before it passed.
-- Assumes nothing.
use mathlib.Core.Path.{◌≡◌, sym, ◌∙◌}
use mathlib.Core.Bool.{Bool, true, false, not}
use mathlib.Core.List.{List}
use Prim.Native.Nat.{ℕ, ◌≤◌, ◌<◌}
use borrow.Author.Tests.{le-leb, lt-leb, not-true, not-false}
use lib.ListN.{length}
use lib.Ieee.{Float}
use Rattle.numbers.specs.Limits.{most_rows, most_period, value_fine}
use Rattle.numbers.specs.Refusals.{unless}
use Rattle.numbers.specs.Lists.{every}
use Rattle.beats.specs.Grids.{grid_numbers_fine, grid_room_fine, grid_refusal}
use mathlib.Core.Path.{ap}
use Rattle.beats.proofs.grid_refusal.Goals.{Else-beats-n}
use Rattle.beats.proofs.grid_refusal.Goals as goal

-- the tests in turn
module _ (envelope : List Float) (period score back beats : ℕ) where
  rows : most_rows < length envelope → 1 ≡ grid_refusal envelope period score back beats
  unfolding grid_refusal grid_numbers_fine
  rows h = rw (lt-leb (length envelope) most_rows h)

  module _ (h1 : length envelope ≤ most_rows) where
    long : most_period < period → 1 ≡ grid_refusal envelope period score back beats
    unfolding grid_refusal grid_numbers_fine
    long h = rw (le-leb (length envelope) most_rows h1, lt-leb period most_period h)

    module _ (h2 : period ≤ most_period) where
      scores-short : score < length envelope → 3 ≡ grid_refusal envelope period score back beats
      unfolding grid_refusal grid_numbers_fine grid_room_fine
      scores-short h = rw (le-leb (length envelope) most_rows h1, le-leb period most_period h2, lt-leb (length envelope) score h)

      module _ (h3 : length envelope ≤ score) where
        links-short : back < length envelope → 3 ≡ grid_refusal envelope period score back beats
        unfolding grid_refusal grid_numbers_fine grid_room_fine
        links-short h = rw (
          le-leb (length envelope) most_rows h1,
          le-leb period most_period h2,
          le-leb (length envelope) score h3,
          lt-leb (length envelope) back h,
        )

        module _ (h4 : length envelope ≤ back) where
          beats-short : beats < length envelope → 3 ≡ grid_refusal envelope period score back beats
          unfolding grid_refusal grid_numbers_fine grid_room_fine
          beats-short h =
              rw (
                le-leb (length envelope) most_rows h1,
                le-leb period most_period h2,
                le-leb (length envelope) score h3,
                le-leb (length envelope) back h4,
                lt-leb (length envelope) beats h,
              )

          module _ (h5 : length envelope ≤ beats) where
            values : (b : Bool) → every value_fine envelope ≡ b → unless b 4 0 ≡ grid_refusal envelope period score back beats
            unfolding grid_refusal grid_numbers_fine grid_room_fine
            values b e =
                rw (
                  le-leb (length envelope) most_rows h1,
                  le-leb period most_period h2,
                  le-leb (length envelope) score h3,
                  le-leb (length envelope) back h4,
                  le-leb (length envelope) beats h5,
                  e,
                )

-- what `!` was found to be
fails : (r b : Bool) → r ≡ b → not r ≡ true → b ≡ false
fails r b e h = sym e ∙ not-true r h

holds : (r b : Bool) → r ≡ b → not r ≡ false → b ≡ true
holds r b e h = sym e ∙ not-false r h

-- past the room
room : (c : Else-beats-n) (b : Bool) → let a = c.args in
    every value_fine a.envelope.now ≡ b → unless b 4 0 ≡ grid_refusal a.envelope.now a.period a.score a.back a.beats
room c =
    values _ _ _ _ _ c.if-n-gt-MOST_ROWS.false c.if-period-gt-MOST_PERIOD.false c.if-score-n.false c.if-back-n.false
    c.if-beats-n.false

pub returns-then-n-gt-MOST_ROWS : goal.returns-then-n-gt-MOST_ROWS
returns-then-n-gt-MOST_ROWS c = rows _ _ _ _ _ c.if-n-gt-MOST_ROWS.true

pub returns-then-period-gt-MOST_PERIOD : goal.returns-then-period-gt-MOST_PERIOD
returns-then-period-gt-MOST_PERIOD c = long _ _ _ _ _ c.if-n-gt-MOST_ROWS.false c.if-period-gt-MOST_PERIOD.true

pub returns-then-score-n : goal.returns-then-score-n
returns-then-score-n c = scores-short _ _ _ _ _ c.if-n-gt-MOST_ROWS.false c.if-period-gt-MOST_PERIOD.false c.if-score-n.true

pub returns-then-back-n : goal.returns-then-back-n
returns-then-back-n c = links-short _ _ _ _ _ c.if-n-gt-MOST_ROWS.false c.if-period-gt-MOST_PERIOD.false c.if-score-n.false c.if-back-n.true

pub returns-then-beats-n : goal.returns-then-beats-n
returns-then-beats-n c =
    beats-short _ _ _ _ _ c.if-n-gt-MOST_ROWS.false c.if-period-gt-MOST_PERIOD.false c.if-score-n.false
    c.if-back-n.false c.if-beats-n.true

pub returns-then-not-values_fine : goal.returns-then-not-values_fine
returns-then-not-values_fine c = room (goal.at.returns-then-not-values_fine c).Else-beats-n false (fails _ _ c.values_fine.ensures (ap not c.if-not-values_fine.true))

pub returns : goal.returns
returns c = room (goal.at.returns c).Else-beats-n true (holds _ _ c.values_fine.ensures (ap not c.if-not-values_fine.false))
