-- Document 01, Onsets, Tempo and candidates, Beats and bars: what the two calls promise. One whole analysis is defined in crate track,
-- and the numbers that it is refused with in crate rooms.
use Rattle.std.specs.Prelude.{ℕ, List, ◌≡◌, Float}
use Rattle.numbers.specs.Refusals.{unless_refused}
use Rattle.numbers.specs.Lists.{curve, filled}
use Rattle.numbers.specs.declared.Slab.{Slab}
use Rattle.flux.specs.Flux.{flux_at}
use Rattle.options.specs.declared.TempoOpts.{TempoOpts}
use Rattle.rooms.specs.Rooms.{Results, Spare, envelope_number, magnitudes_number}
use Rattle.track.specs.Analyses.{AnalysisSaid, Analysed}

-- The promise of `analyse_envelope`.
abbrev pub EnvelopePromise : List Float → (rate : ℕ) → TempoOpts → Results → Spare → AnalysisSaid → Results → Spare → Type 0
EnvelopePromise env rate o was lent answer after left =
    Analysed (envelope_number env rate o was lent) env rate o was lent answer after left

-- The promise of `analyse_magnitudes`: the flux that demand 2 gives, and the analysis of that flux.
pub record MagnitudesPromise
    (magnitudes : List Float) (slab : Slab) (rate : ℕ) (o : TempoOpts) (flux : List Float) (was : Results) (lent : Spare)
    (answer : AnalysisSaid) (flux' : List Float) (after : Results) (left : Spare) : Type 0 where
  pub fluxes :
      flux' ≡
      unless_refused (magnitudes_number magnitudes slab rate o flux was lent) (filled (flux_at magnitudes slab) flux 0 slab.rows) flux
  pub analysed :
      Analysed (magnitudes_number magnitudes slab rate o flux was lent) (curve (flux_at magnitudes slab) slab.rows) rate o
      was lent answer after left
