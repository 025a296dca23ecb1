-- What follows from the promises: any two outcomes coincide, but for the slots that are left open; the analysis of magnitudes is the analysis of
-- their flux; there is a tempo exactly where the beats have a period. Assumes nothing.
use mathlib.Core.Path.{◌≡◌, sym, ◌∙◌, subst}
use mathlib.Core.List.{List}
use Prim.Native.Nat.{ℕ, ◌-◌}
use lib.Dec.{ltb}
use lib.ListN.{length, take, drop}
use lib.Ieee.{Float}
use Rattle.std.specs.Prelude.{Result, IsErrAnd}
use Rattle.numbers.specs.Refusals as Refusals
use Rattle.numbers.specs.declared.Refusal.{Refusal}
use Rattle.numbers.specs.Lists.{curve, filled}
use Rattle.numbers.specs.declared.Slab.{Slab}
use Rattle.numbers.proofs.Tests.{refused_keeps, passed_does}
use Rattle.numbers.proofs.Outcomes.{number-not_0}
use Rattle.flux.specs.Flux.{flux_at}
use Rattle.options.specs.declared.TempoOpts.{TempoOpts}
use Rattle.tempo.specs.Answers.{unused}
use Rattle.tempo.proofs.Promises.{is_found, tempo_has_lag}
use Rattle.numbers.specs.Outcomes.{Open}
use Rattle.rooms.specs.Rooms.{Results, Spare, magnitudes_number}
use Rattle.onsets.specs.Onsets.{onsets_in}
use Rattle.track.specs.declared.Analysis.{Analysis}
use Rattle.track.specs.Analyses.{AnalysisSaid, estimate_in, period_in, analysis_said, Analysed}
use Rattle.analysis.specs.Analyses.{EnvelopePromise, MagnitudesPromise}
use Rattle.rooms.specs.Inner.{Ready}
use Rattle.track_parts.proofs.Lists.{written_part}
use Rattle.rooms.proofs.Rooms.{told, flux-ready, flux-taken}
use Rattle.track.proofs.Whole.{analysed_refused, analysed_passed}

-- ---- any two outcomes

-- what is left open differs at most in the slots that are open
pub open_coincide : {room : ℕ} {was xs ys : List Float} → Open room was xs → Open room was ys → (length xs ≡ length ys) × (drop room xs ≡ drop room ys)
open_coincide p q = (p.same_length ∙ sym q.same_length, p.kept ∙ sym q.kept)

pub coincide : {number : ℕ} {env : List Float} {rate : ℕ} {o : TempoOpts} {was : Results} {lent : Spare} {a b : AnalysisSaid} {x y : Results} {s t : Spare}
    → Analysed number env rate o was lent a x s → Analysed number env rate o was lent b y t → (a ≡ b) × (x ≡ y)
coincide p q = (p.answered ∙ sym q.answered, p.written ∙ sym q.written)

pub magnitudes_coincide : {m : List Float} {slab : Slab} {rate : ℕ} {o : TempoOpts} {flux : List Float} {was : Results} {lent : Spare}
    {a b : AnalysisSaid} {f g : List Float} {x y : Results} {s t : Spare}
    → MagnitudesPromise m slab rate o flux was lent a f x s → MagnitudesPromise m slab rate o flux was lent b g y t → (a ≡ b) × (f ≡ g) × (x ≡ y)
magnitudes_coincide p q = let c = coincide p.analysed q.analysed in (c.0, p.fluxes ∙ sym q.fluxes, c.1)

-- ---- tempo and period

-- "No tempo: no stability, no beats": period 0, at which there are none, stands for no tempo and for nothing else
pub tempo_has_period : (env : List Float) (rate : ℕ) (o : TempoOpts) → is_found (estimate_in env rate o).tempo ≡ ltb 0 (period_in env rate o)
unfolding estimate_in period_in
tempo_has_period env rate o = tempo_has_lag env (length (onsets_in env rate)) rate o 0 0 0 unused

-- ---- magnitudes

module _ (m : List Float) (slab : Slab) (rate : ℕ) (o : TempoOpts) (flux : List Float) (was : Results) (lent : Spare) where
  abbrev number : ℕ
  number = magnitudes_number m slab rate o flux was lent

  -- a refusal that `?` hands on: e is what refused
  pub magnitudes_refused : (r : Result Analysis Refusal) (e : Refusal) → IsErrAnd r (λ (x : Refusal). x ≡ e) → Refusals.number e ≡ number
      → MagnitudesPromise m slab rate o flux was lent (analysis_said r) flux was lent
  magnitudes_refused r e h is =
      record {
        fluxes = sym (refused_keeps number (filled (flux_at m slab) flux 0 slab.rows) flux (λ z. number-not_0 e (is ∙ z)));
        analysed = analysed_refused number (curve (flux_at m slab) slab.rows) rate o was lent r e h is;
      }

  module _ (z : number ≡ 0) (flux' : List Float) (f : flux' ≡ filled (flux_at m slab) flux 0 slab.rows) where
    lent_flux : take (slab.rows - 0) (drop 0 flux') ≡ curve (flux_at m slab) slab.rows
    lent_flux = written_part (flux_at m slab) flux flux' slab.rows f

    pub lent_ready : Ready (take (slab.rows - 0) (drop 0 flux')) rate o was lent
    lent_ready = rw lent_flux (flux-ready m slab rate o flux was lent (told m slab rate o flux was lent z))

    pub magnitudes_passed : (answer : AnalysisSaid) (after : Results) (left : Spare)
        → Analysed 0 (take (slab.rows - 0) (drop 0 flux')) rate o was lent answer after left
        → MagnitudesPromise m slab rate o flux was lent answer flux' after left
    magnitudes_passed answer after left a =
        record {
          fluxes = f ∙ sym (passed_does number (filled (flux_at m slab) flux 0 slab.rows) flux z);
          analysed = analysed_passed number (curve (flux_at m slab) slab.rows) rate o was lent answer after left z
              (subst (λ (env : List Float). Analysed 0 env rate o was lent answer after left) lent_flux a);
        }

  -- where nothing is refused, what `analyse_magnitudes` answers and leaves is what `analyse_envelope` does with their flux
  pub flux_is_the_envelope : {answer : AnalysisSaid} {flux' : List Float} {after : Results} {left : Spare} → number ≡ 0
      → MagnitudesPromise m slab rate o flux was lent answer flux' after left
      → EnvelopePromise (curve (flux_at m slab) slab.rows) rate o was lent answer after left
  flux_is_the_envelope {answer = a} {after = x} {left = s} z p =
      subst (λ (j : ℕ). Analysed j (curve (flux_at m slab) slab.rows) rate o was lent a x s) (z ∙ sym (flux-taken m slab rate o flux was lent z))
      p.analysed
