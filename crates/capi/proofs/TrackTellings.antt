-- What the two analyses promise to C, from what the proved calls promise of their answer and from how it is handed over. Assumes nothing.
use Prim.Native.Nat.{ℕ, zero, suc}
use mathlib.Core.Path.{◌≡◌, refl, sym, ◌∙◌}
use mathlib.Core.List.{List}
use lib.ListN.{length, drop}
use lib.Ieee.{Float}
use Rattle.numbers.specs.Lists.{curve}
use Rattle.numbers.specs.declared.Slab.{Slab}
use Rattle.numbers.specs.Refusals.{unless_refused}
use Rattle.flux.specs.Flux.{flux_at}
use Rattle.options.specs.declared.TempoOpts.{TempoOpts}
use Rattle.rooms.specs.Rooms.{Results, Spare}
use Rattle.track.specs.Analyses.{AnalysisSaid, analysis_of, without_analysis, open_lags, open_work, Analysed}
use Rattle.analysis.specs.Analyses.{EnvelopePromise, MagnitudesPromise}
use Rattle.analysis.proofs.Promises.{open_coincide}
use Rattle.capi_answers.specs.Handed.{Handed}
use Rattle.capi_answers.specs.Tracks.{TrackLent, track_parts}
use Rattle.capi_answers.proofs.Hands.{handed-on}
use Rattle.capi.specs.Tracks.{TrackTold, PhEnvelopePromise, FluxTold, PhMagnitudesPromise}
use Rattle.capi.proofs.Outcomes.{handed_unique}

-- the number of an analysis is the one that it is told by
number_of : (n : ℕ) (env : List Float) (rate : ℕ) (o : TempoOpts) → (unless_refused n (analysis_of env rate o) (without_analysis n)).number ≡ n
unfolding analysis_of
number_of zero env rate o = refl
number_of (suc k) env rate o = refl

parts_of : (n : ℕ) (a b : AnalysisSaid) → track_parts (unless_refused n a b) ≡ unless_refused n (track_parts a) (track_parts b)
parts_of zero a b = refl
parts_of (suc k) a b = refl

pub track-told : {number : ℕ} {env : List Float} {rate : ℕ} {o : TempoOpts} {was : Results} {spare : Spare} {own : AnalysisSaid} {after : Results} {left : Spare}
    {lent₀ : TrackLent} {answer : ℕ} {lent : TrackLent}
    → Analysed number env rate o was spare own after left → Handed own.number (track_parts own) lent₀ answer lent
    → TrackTold number env rate o was spare lent₀ answer after left lent
track-told {number} {env} {rate} {o} p h =
    record {
      handed =
          handed-on number (track_parts (analysis_of env rate o)) (track_parts (without_analysis number)) (rw p.answered (number_of number env rate o))
          (rw p.answered (parts_of number (analysis_of env rate o) (without_analysis number))) h;
      slices =
          record {
            answered = refl;
            written = p.written;
            window_clarities = p.window_clarities;
            window_weights = p.window_weights;
            works = p.works;
          };
    }

-- of the calls for C, whose options are those of three numbers
pub envelope_told : {env : List Float} {rate : ℕ} {o o' : TempoOpts} {was : Results} {spare : Spare} {own : AnalysisSaid} {after : Results} {left : Spare}
    {lent₀ : TrackLent} {answer : ℕ} {lent : TrackLent}
    → o ≡ o' → EnvelopePromise env rate o was spare own after left → Handed own.number (track_parts own) lent₀ answer lent
    → PhEnvelopePromise env rate o' was spare lent₀ answer after left lent
envelope_told e p h = rw e at (track-told p h)

pub magnitudes-told : {magnitudes : List Float} {slab : Slab} {rate : ℕ} {o o' : TempoOpts} {flux : List Float} {was : Results} {spare : Spare}
    {own : AnalysisSaid} {flux' : List Float}
    {after : Results} {left : Spare} {lent₀ : TrackLent} {answer : ℕ} {lent : TrackLent}
    → o ≡ o' → MagnitudesPromise magnitudes slab rate o flux was spare own flux' after left → Handed own.number (track_parts own) lent₀ answer lent
    → PhMagnitudesPromise magnitudes slab rate o' flux was spare lent₀ answer flux' after left lent
magnitudes-told {magnitudes} {slab} {rate} {o} {o'} {flux} {was} {spare} {own} {flux'} {after} {left} {lent₀} {answer} {lent} e p h =
    let told : PhMagnitudesPromise magnitudes slab rate o flux was spare lent₀ answer flux' after left lent =
    record { fluxes = p.fluxes; track = track-told p.analysed h } in
    rw e at told

-- Two outcomes of an analysis of `env` with this number are one: what is lent to work in too, past the slots that are left open.
abbrev pub SameTrack : (number : ℕ) (env : List Float) (rate : ℕ) (o : TempoOpts) (a b : ℕ) (s t : TrackLent) (x y : Results) (u v : Spare) → Type 0
SameTrack number env rate o a b s t x y u v =
    ((a ≡ b) × (s ≡ t)) × (x ≡ y)
    × (((length u.window_clarity ≡ length v.window_clarity)
    × (drop (open_lags number env rate o) u.window_clarity ≡ drop (open_lags number env rate o) v.window_clarity))
    × ((length u.window_weight ≡ length v.window_weight)
    × (drop (open_lags number env rate o) u.window_weight ≡ drop (open_lags number env rate o) v.window_weight))
    × ((length u.work ≡ length v.work) × (drop (open_work number env rate o) u.work ≡ drop (open_work number env rate o) v.work)))

-- any two outcomes coincide
pub track_unique : {number : ℕ} {env : List Float} {rate : ℕ} {o : TempoOpts} {was : Results} {spare : Spare} {lent₀ : TrackLent}
    {a b : ℕ} {x y : Results} {u v : Spare} {s t : TrackLent}
    → TrackTold number env rate o was spare lent₀ a x u s → TrackTold number env rate o was spare lent₀ b y v t
    → SameTrack number env rate o a b s t x y u v
track_unique p q = (
  handed_unique p.handed q.handed,
  p.slices.written ∙ sym q.slices.written,
  (
    open_coincide p.slices.window_clarities q.slices.window_clarities,
    open_coincide p.slices.window_weights q.slices.window_weights,
    open_coincide p.slices.works q.slices.works,
  ),
)

-- `ph_analyse_magnitudes`: the flux too
pub magnitudes_unique : {number : ℕ} {magnitudes : List Float} {slab : Slab} {rate : ℕ} {o : TempoOpts} {flux : List Float} {was : Results}
    {spare : Spare} {lent₀ : TrackLent}
    {a b : ℕ} {f g : List Float} {x y : Results} {u v : Spare} {s t : TrackLent}
    → FluxTold number magnitudes slab rate o flux was spare lent₀ a f x u s → FluxTold number magnitudes slab rate o flux was spare lent₀ b g y v t
    → (f ≡ g) × SameTrack number (curve (flux_at magnitudes slab) slab.rows) rate o a b s t x y u v
magnitudes_unique p q = (p.fluxes ∙ sym q.fluxes, track_unique p.track q.track)
