-- `bars::downbeats` meets its contract: past the refusals the meter is 1 to 16 and there is a slot for each beat, which is all that the
-- inner calls ask. Assumes nothing.
use mathlib.Core.Path.{◌≡◌, sym, ap, ◌∙◌}
use mathlib.Core.Bool.{true}
use mathlib.Core.List.{List}
use Prim.Native.Nat.{ℕ, ◌≤◌, ◌<◌}
use borrow.Author.Tests.{leb-true}
use lib.Dec.{leb}
use lib.ListN.{length}
use lib.Ieee.{Float}
use Rattle.numbers.specs.Limits.{most_rows, value_fine, frame_fine}
use Rattle.numbers.specs.Lists.{listed, every}
use Rattle.numbers.proofs.Tests.{lowest-zero, and_left, and_right, passed_does}
use Rattle.numbers.proofs.Outcomes.{lists_on}
use Rattle.options.specs.Options.{most_meter, options_fine}
use Rattle.options.specs.declared.TempoOpts.{TempoOpts}
use Rattle.bars.specs.Downbeats.{downbeat_numbers_fine, downbeat_room_fine, downbeat_refusal, in_phase, downbeat_phase, downbeats_of, DownbeatsPromise}
use Rattle.bars.proofs.downbeats.Goals as goal

module _ (envelope : List Float) (beats : List ℕ) (o : TempoOpts) where
  -- what number 0 tells
  told : (room : ℕ) → downbeat_refusal envelope beats o room ≡ 0 → ((0 < o.meter) × (o.meter ≤ most_meter)) × (length beats ≤ room)
  unfolding downbeat_refusal downbeat_numbers_fine downbeat_room_fine options_fine
  told room e =
      let p = lowest-zero (downbeat_numbers_fine envelope beats o) true (downbeat_room_fine beats room) (every value_fine envelope) e in
      let m = and_right (every frame_fine beats) (options_fine o) (and_right (leb (length envelope) most_rows) _ p.bounds) in (
        (leb-true 1 o.meter (and_left _ (leb o.meter most_meter) m), leb-true o.meter most_meter (and_right (leb 1 o.meter) _ m)),
        leb-true (length beats) room p.room,
      )

  module _ (before : List ℕ) where
    answered : (phase count : ℕ) (after : List ℕ) → downbeat_refusal envelope beats o (length before) ≡ 0 → phase ≡ downbeat_phase envelope beats o.meter
        → count ≡ length (in_phase o.meter phase 0 beats) → after ≡ listed (in_phase o.meter phase 0 beats) before
        → DownbeatsPromise envelope beats o before (record { number = 0; count = count }) after
    unfolding downbeats_of
    answered phase count after z p c a =
        record {
          number_is = sym z;
          count_is = c ∙ ap (λ (k : ℕ). length (in_phase o.meter k 0 beats)) p ∙ sym (passed_does _ _ 0 z);
          frames_are = a ∙ ap (λ (k : ℕ). listed (in_phase o.meter k 0 beats) before) p ∙ sym (passed_does _ _ before z);
        }

pub returns-in_err-downbeat_refusal : goal.returns-in_err-downbeat_refusal
returns-in_err-downbeat_refusal c = lists_on _ _ _ _ _ c.from_residual.ensures.1 c.in_err-downbeat_refusal.ensures

pub downbeat_phase-phase-requires : goal.downbeat_phase-phase-requires
downbeat_phase-phase-requires c = (told _ _ _ _ (sym c.in_ok-downbeat_refusal.ensures)).0

pub list_phase-count-requires : goal.list_phase-count-requires
list_phase-count-requires c = let t = told _ _ _ _ (sym c.in_ok-downbeat_refusal.ensures) in (t.0.0, t.1)

pub returns : goal.returns
returns c =
    answered _ _ _ _ _ _ _ (sym c.in_ok-downbeat_refusal.ensures) c.downbeat_phase-phase.ensures c.list_phase-count.ensures.0
    c.list_phase-count.ensures.1
