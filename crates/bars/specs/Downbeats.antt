-- Document 01, "Beats and bars": "Downbeats: of phases 0 to 3, the first with the greatest flux sum; a beat past the envelope adds 0, an
-- empty phase sums to 0." Request No. 4 of document 02: "Phases then run from 0 to meter - 1; ties still go to the earliest."
use Rattle.std.specs.Prelude.{Bool, true, ◌&&◌, List, [], ◌∷◌, map, ℕ, suc, ◌%◌, leb, eqb, length, get_or, Float}
use Rattle.numbers.specs.Rounded.{nought, pick, sum_of}
use Rattle.numbers.specs.Limits.{most_rows, value_fine, frame_fine}
use Rattle.numbers.specs.Refusals.{lowest}
use Rattle.numbers.specs.Lists.{every}
use Rattle.numbers.specs.Outcomes.{Listing, ListWritten}
use Rattle.options.specs.Options.{options_fine}
use Rattle.options.specs.declared.TempoOpts.{TempoOpts}
use Rattle.lists.specs.Greatest.{first_greatest}

-- ---- what is refused

-- number 1: N, each listed beat and the options are in bounds
unfoldable pub downbeat_numbers_fine : List Float → List ℕ → TempoOpts → Bool
downbeat_numbers_fine envelope beats o = leb (length envelope) most_rows && (every frame_fine beats && options_fine o)

-- number 3: a slot for each beat
unfoldable pub downbeat_room_fine : List ℕ → (room : ℕ) → Bool
downbeat_room_fine beats room = leb (length beats) room

-- the number; 4 judges the whole envelope
unfoldable pub downbeat_refusal : List Float → List ℕ → TempoOpts → (room : ℕ) → ℕ
downbeat_refusal envelope beats o room = lowest (downbeat_numbers_fine envelope beats o) true (downbeat_room_fine beats room) (every value_fine envelope)

-- ---- what is answered

-- "a beat past the envelope adds 0"
unfoldable pub beat_flux : List Float → ℕ → Float
beat_flux envelope frame = get_or envelope frame nought

-- the beats whose place in the list, divided by the meter, leaves the phase; `place` is that of the first
unfoldable pub in_phase : (meter phase place : ℕ) → List ℕ → List ℕ
in_phase meter phase place [] = []
in_phase meter phase place (beat ∷ beats) =
    let rest = in_phase meter phase (suc place) beats in
    pick (eqb (place % meter) phase) (beat ∷ rest) rest

-- a phase's flux sum: "an empty phase sums to 0"
unfoldable pub phase_sum : List Float → List ℕ → (meter phase : ℕ) → Float
phase_sum envelope beats meter phase = sum_of (map (beat_flux envelope) (in_phase meter phase 0 beats))

-- "of phases 0 to 3", to meter - 1, "the first with the greatest flux sum"
unfoldable pub downbeat_phase : List Float → List ℕ → (meter : ℕ) → ℕ
unfolding phase_sum first_greatest
downbeat_phase envelope beats meter = first_greatest (phase_sum envelope beats meter) meter

-- the downbeats, in the order of the list
unfoldable pub downbeats_of : List Float → List ℕ → (meter : ℕ) → List ℕ
downbeats_of envelope beats meter = in_phase meter (downbeat_phase envelope beats meter) 0 beats

-- The promise of `downbeats`, whose meter the options hold: its number and its count, and the lent list, which was `before`, afterwards.
abbrev pub DownbeatsPromise : (envelope : List Float) (beats : List ℕ) (o : TempoOpts) (before : List ℕ) → (r : Listing) (after : List ℕ) → Type 0
DownbeatsPromise envelope beats o before =
    ListWritten (downbeat_refusal envelope beats o (length before)) (downbeats_of envelope beats o.meter) before
