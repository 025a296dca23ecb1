-- `bars::downbeat_refusal` meets its contract: each return is the row of the table whose test fails after those before it passed.
-- Assumes nothing.
use mathlib.Core.Path.{◌≡◌, sym, ◌∙◌}
use mathlib.Core.Bool.{Bool, true, false, not}
use mathlib.Core.List.{List}
use Prim.Native.Nat.{ℕ, ◌≤◌, ◌<◌}
use borrow.Author.Tests.{le-leb, lt-leb, not-true, not-false}
use lib.ListN.{length}
use lib.Ieee.{Float}
use Rattle.numbers.specs.Limits.{most_rows, value_fine, frame_fine}
use Rattle.numbers.specs.Lists.{every}
use Rattle.options.specs.Options.{options_fine}
use Rattle.options.specs.declared.TempoOpts.{TempoOpts}
use Rattle.bars.specs.Downbeats.{downbeat_numbers_fine, downbeat_room_fine, downbeat_refusal}
use mathlib.Core.Path.{ap}
use Rattle.bars.proofs.downbeat_refusal.Goals as goal

-- the tests in turn
module _ (envelope : List Float) (beats : List ℕ) (o : TempoOpts) (room : ℕ) where
  rows : most_rows < length envelope → 1 ≡ downbeat_refusal envelope beats o room
  unfolding downbeat_refusal downbeat_numbers_fine downbeat_room_fine
  rows h = rw (lt-leb (length envelope) most_rows h)

  module _ (h1 : length envelope ≤ most_rows) where
    listed : every frame_fine beats ≡ false → 1 ≡ downbeat_refusal envelope beats o room
    unfolding downbeat_refusal downbeat_numbers_fine downbeat_room_fine
    listed e = rw (le-leb (length envelope) most_rows h1, e)

    module _ (h2 : every frame_fine beats ≡ true) where
      metered : options_fine o ≡ false → 1 ≡ downbeat_refusal envelope beats o room
      unfolding downbeat_refusal downbeat_numbers_fine downbeat_room_fine
      metered e = rw (le-leb (length envelope) most_rows h1, h2, e)

      module _ (h3 : options_fine o ≡ true) where
        short : room < length beats → 3 ≡ downbeat_refusal envelope beats o room
        unfolding downbeat_refusal downbeat_numbers_fine downbeat_room_fine
        short h = rw (le-leb (length envelope) most_rows h1, h2, h3, lt-leb (length beats) room h)

        module _ (h4 : length beats ≤ room) where
          wrong : every value_fine envelope ≡ false → 4 ≡ downbeat_refusal envelope beats o room
          unfolding downbeat_refusal downbeat_numbers_fine downbeat_room_fine
          wrong e = rw (le-leb (length envelope) most_rows h1, h2, h3, le-leb (length beats) room h4, e)

          fine : every value_fine envelope ≡ true → 0 ≡ downbeat_refusal envelope beats o room
          unfolding downbeat_refusal downbeat_numbers_fine downbeat_room_fine
          fine e = rw (le-leb (length envelope) most_rows h1, h2, h3, le-leb (length beats) room h4, e)

-- what `!` was found to be
fails : (r b : Bool) → r ≡ b → not r ≡ true → b ≡ false
fails r b e h = sym e ∙ not-true r h

holds : (r b : Bool) → r ≡ b → not r ≡ false → b ≡ true
holds r b e h = sym e ∙ not-false r h

pub returns-then-envelope-gt-MOST_ROWS : goal.returns-then-envelope-gt-MOST_ROWS
returns-then-envelope-gt-MOST_ROWS c = rows _ _ _ _ c.if-envelope-gt-MOST_ROWS.true

pub returns-then-not-all_at_most : goal.returns-then-not-all_at_most
returns-then-not-all_at_most c = listed _ _ _ _ c.if-envelope-gt-MOST_ROWS.false (fails _ _ c.all_at_most.ensures (ap not c.if-not-all_at_most.true))

pub returns-then-not-options_fine : goal.returns-then-not-options_fine
returns-then-not-options_fine c =
    metered _ _ _ _ c.if-envelope-gt-MOST_ROWS.false
    (holds _ _ c.all_at_most.ensures (ap not c.if-not-all_at_most.false))
    (fails _ _ c.options_fine.ensures (ap not c.if-not-options_fine.true))

pub returns-then-room-beats : goal.returns-then-room-beats
returns-then-room-beats c =
    short _ _ _ _ c.if-envelope-gt-MOST_ROWS.false
    (holds _ _ c.all_at_most.ensures (ap not c.if-not-all_at_most.false))
    (holds _ _ c.options_fine.ensures (ap not c.if-not-options_fine.false)) c.if-room-beats.true

pub returns-then-not-values_fine : goal.returns-then-not-values_fine
returns-then-not-values_fine c =
    wrong _ _ _ _ c.if-envelope-gt-MOST_ROWS.false
    (holds _ _ c.all_at_most.ensures (ap not c.if-not-all_at_most.false))
    (holds _ _ c.options_fine.ensures (ap not c.if-not-options_fine.false)) c.if-room-beats.false
    (fails _ _ c.values_fine.ensures (ap not c.if-not-values_fine.true))

pub returns : goal.returns
returns c =
    fine _ _ _ _ c.if-envelope-gt-MOST_ROWS.false
    (holds _ _ c.all_at_most.ensures (ap not c.if-not-all_at_most.false))
    (holds _ _ c.options_fine.ensures (ap not c.if-not-options_fine.false)) c.if-room-beats.false
    (holds _ _ c.values_fine.ensures (ap not c.if-not-values_fine.false))
