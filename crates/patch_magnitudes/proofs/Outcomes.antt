-- The three outcomes of a patch of magnitudes meet its promise, and any two that it permits coincide: what an answer says tells which it is. Assumes nothing.
use mathlib.Core.List.{List}
use mathlib.Core.Path.{◌≡◌, refl, sym, ap, ◌∙◌}
use Prim.Native.Nat.{ℕ}
use lib.Ieee.{Float}
use lib.ListN.{length, take, drop}
use Rattle.std.specs.Prelude.{Result, Ok, Err, IsErrAnd}
use Rattle.numbers.proofs.Outcomes.{number-not_0, number-one}
use Rattle.numbers.proofs.Tests.{refused_keeps}
use Rattle.numbers.specs.Lists.{filled}
use Rattle.numbers.specs.Refusals as Refusals
use Rattle.numbers.specs.declared.Refusal.{Refusal}
use Rattle.numbers.specs.declared.Slab.{Slab}
use Rattle.flux.specs.Flux.{flux_at}
use Rattle.threshold.specs.Threshold.{threshold_at, window_room}
use Rattle.patches.proofs.Wholes.{empty_keeps, full_does}
use Rattle.patches.proofs.Answers.{same_number, same-slots, same_ends, some-slots, refused_returns}
use Rattle.patches.specs.Patches.{Patch, edited, ranges, returned}
use Rattle.patch_magnitudes.specs.declared.Patched.{Patched}
use Rattle.patch_magnitudes.specs.Tracks.{MagnitudeTrack, magnitude_track, patch_number}
use Rattle.patch_magnitudes.specs.Magnitudes.{
  flux_past,
  threshold_first,
  threshold_past,
  mended_flux,
  mended_threshold,
  mended,
  patched_says,
  rows_named,
  after,
  patch_sorted_in,
  PatchMagnitudesPromise,
}

-- the four slots of an answer
abbrev pub patched_of : (flux_first flux_past threshold_first threshold_past : ℕ) → Patched
patched_of flux_first flux_past threshold_first threshold_past =
    record { flux_first = flux_first; flux_past = flux_past; threshold_first = threshold_first; threshold_past = threshold_past }

-- what an answer says tells which it is
pub says_one : (a b : Result Patched Refusal) → patched_says a ≡ patched_says b → a ≡ b
says_one (Err d) (Err e) h = ap Err (number-one d e (same_number h))
says_one (Ok p) (Ok q) h =
    let s = same_ends (same-slots h) in
    ap Ok (λ i. record { flux_first = s.0 i; flux_past = s.1 i; threshold_first = s.2 i; threshold_past = s.3 i })
says_one (Err e) (Ok q) h = absurd (some-slots (same-slots h))
says_one (Ok p) (Err e) h = absurd (some-slots (sym (same-slots h)))

module _ (slab : Slab) (was : MagnitudeTrack) (patch : Patch) (work : List Float) where
  abbrev number : ℕ
  number = patch_number slab was patch (length work)

  pub refused : (e : Refusal) → Refusals.number e ≡ number → PatchMagnitudesPromise slab was patch work (Err e) was work
  unfolding after
  refused e h =
      record {
        answer_is =
            refused_returns (Refusals.number e) (rows_named slab patch) (number-not_0 e) ∙ ap (λ (n : ℕ). returned n (rows_named slab patch)) h;
        track_is = sym (refused_keeps number _ was (λ z. number-not_0 e (h ∙ z)));
        works = record { same_length = refl; kept = refl };
      }

  -- a refusal that `?` hands on: e is what refused
  pub refused_on : (r : Result Patched Refusal) (e : Refusal) → IsErrAnd r (λ (x : Refusal). x ≡ e) → Refusals.number e ≡ number
      → PatchMagnitudesPromise slab was patch work r was work
  refused_on (Ok slots) e h k = absurd h
  refused_on (Err x) e h k = refused x (ap Refusals.number h ∙ k)

  module _ (none : number ≡ 0) where
    pub empty : length patch.new ≡ 0 → PatchMagnitudesPromise slab was patch work (Ok (patched_of 0 0 0 0)) was work
    unfolding after
    empty e =
        record {
          answer_is = rw (none, empty_keeps _ (ranges 0 0 0 0) patch.new e);
          track_is = rw none (sym (empty_keeps _ was patch.new e));
          works = record { same_length = refl; kept = refl };
        }

    -- the slots and curves are given as the code finds them
    pub wrote : (length patch.new ≡ 0 → ⊥) → (fp tf tp : ℕ) → fp ≡ flux_past slab patch → tf ≡ threshold_first patch → tp ≡ threshold_past slab patch
        → (m f t work' : List Float) → m ≡ edited slab.bins was.magnitudes patch → f ≡ filled (flux_at m slab) was.flux patch.start fp
        → t ≡ filled (threshold_at (take slab.rows f)) was.threshold tf tp → length work' ≡ length work
        → drop (window_room slab.rows) work' ≡ drop (window_room slab.rows) work
        → PatchMagnitudesPromise slab was patch work (Ok (patched_of patch.start fp tf tp)) (magnitude_track m f t) work'
    unfolding after mended mended_flux mended_threshold patch_sorted_in
    wrote some fp tf tp a b c m f t work' em ef et l k =
        record {
          answer_is = rw (none, a, b, c, full_does _ (ranges 0 0 0 0) patch.new some);
          track_is = rw (none, et, ef, em, a, b, c) (sym (full_does _ was patch.new some));
          works = record { same_length = l; kept = rw (none, full_does (window_room slab.rows) 0 patch.new some) k };
        }

  -- any two outcomes coincide, but for the slots that are sorted in
  pub unique : {a b : Result Patched Refusal} {x y : MagnitudeTrack} {v w : List Float} → PatchMagnitudesPromise slab was patch work a x v
      → PatchMagnitudesPromise slab was patch work b y w
      → (a ≡ b) × (x ≡ y) × (length v ≡ length w) × (drop (patch_sorted_in number slab.rows patch) v ≡ drop (patch_sorted_in number slab.rows patch) w)
  unique p q = (
    says_one _ _ (p.answer_is ∙ sym q.answer_is),
    p.track_is ∙ sym q.track_is,
    p.works.same_length ∙ sym q.works.same_length,
    p.works.kept ∙ sym q.works.kept,
  )
