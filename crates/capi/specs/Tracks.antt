-- The C interface to `room_of` of crate rooms, and to `analyse_envelope` and `analyse_magnitudes` of crate analysis. Each promise is its last line; the
-- record before it says how an answer is handed over.
use Rattle.std.specs.Prelude.{ℕ, ◌≡◌, List, Float}
use Rattle.numbers.specs.Lists.{curve, filled}
use Rattle.numbers.specs.declared.Slab.{Slab}
use Rattle.numbers.specs.Refusals.{unless_refused}
use Rattle.flux.specs.Flux.{flux_at}
use Rattle.options.specs.declared.TempoOpts.{TempoOpts}
use Rattle.rooms.specs.Rooms.{Results, Spare, room_of, envelope_number, magnitudes_number}
use Rattle.track.specs.Analyses.{analysis_of, without_analysis, Analysed}
use Rattle.capi_answers.specs.Handed.{Handed}
use Rattle.capi_answers.specs.Tracks.{RoomLent, room_parts, TrackLent, track_parts}

-- what `ph_room_of` promises: the lent numbers are the three of a room
abbrev pub PhRoomPromise : (rows rate : ℕ) (o : TempoOpts) (lent₀ : RoomLent) (answer : ℕ) (lent : RoomLent) → Type 0
PhRoomPromise rows rate o = Handed (room_of rows rate o).number (room_parts (room_of rows rate o))

-- An analysis of `env` with this number, as `Analysed` of crate track has it: the lent numbers hold the parts of its answer, and the slices
-- are as that call leaves them.
pub record TrackTold
    (number : ℕ) (env : List Float) (rate : ℕ) (o : TempoOpts) (was : Results) (spare : Spare) (lent₀ : TrackLent)
    (answer : ℕ) (after : Results) (left : Spare) (lent : TrackLent) : Type 0 where
  pub handed : Handed number (track_parts (analysis_of env rate o)) lent₀ answer lent
  pub slices : Analysed number env rate o was spare (unless_refused number (analysis_of env rate o) (without_analysis number)) after left

-- what `ph_analyse_envelope` promises
abbrev pub PhEnvelopePromise : (env : List Float) (rate : ℕ) (o : TempoOpts) (was : Results) (spare : Spare) (lent₀ : TrackLent)
    (answer : ℕ) (after : Results) (left : Spare) (lent : TrackLent) → Type 0
PhEnvelopePromise env rate o was spare = TrackTold (envelope_number env rate o was spare) env rate o was spare

-- what `ph_analyse_magnitudes` promises: the flux, and the analysis of it
pub record FluxTold
    (number : ℕ) (magnitudes : List Float) (slab : Slab) (rate : ℕ) (o : TempoOpts) (flux : List Float) (was : Results) (spare : Spare) (lent₀ : TrackLent)
    (answer : ℕ) (flux' : List Float) (after : Results) (left : Spare) (lent : TrackLent) : Type 0 where
  pub fluxes : flux' ≡ unless_refused number (filled (flux_at magnitudes slab) flux 0 slab.rows) flux
  pub track : TrackTold number (curve (flux_at magnitudes slab) slab.rows) rate o was spare lent₀ answer after left lent

abbrev pub PhMagnitudesPromise : (magnitudes : List Float) (slab : Slab) (rate : ℕ) (o : TempoOpts)
    (flux : List Float) (was : Results) (spare : Spare) (lent₀ : TrackLent)
    (answer : ℕ) (flux' : List Float) (after : Results) (left : Spare) (lent : TrackLent) → Type 0
PhMagnitudesPromise magnitudes slab rate o flux was spare =
    FluxTold (magnitudes_number magnitudes slab rate o flux was spare) magnitudes slab rate o flux was spare
