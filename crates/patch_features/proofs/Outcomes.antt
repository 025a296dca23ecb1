-- The three outcomes of a patch of features meet its promise, and any two that it permits coincide: what an answer says tells which it is. Assumes nothing.
use mathlib.Core.List.{List}
use mathlib.Core.Path.{◌≡◌, sym, ap, ◌∙◌}
use Prim.Native.Nat.{ℕ}
use lib.Ieee.{Float}
use lib.ListN.{length, take}
use Rattle.std.specs.Prelude.{Result, Ok, Err, IsErrAnd}
use Rattle.numbers.proofs.Outcomes.{number-not_0, number-one}
use Rattle.numbers.proofs.Tests.{refused_keeps}
use Rattle.numbers.specs.Limits.{feature_width}
use Rattle.numbers.specs.Lists.{filled}
use Rattle.numbers.specs.Refusals.{number}
use Rattle.numbers.specs.declared.Refusal.{Refusal}
use Rattle.patches.proofs.Wholes.{empty_keeps, full_does}
use Rattle.patches.proofs.Answers.{same_number, same-slots, same_ends, some-slots, refused_returns}
use Rattle.patches.specs.Patches.{Patch, past_row, edited, ranges, returned}
use Rattle.novelties.specs.Novelty.{novelty_at}
use Rattle.patch_features.specs.declared.PatchedFeatures.{PatchedFeatures}
use Rattle.patch_features.specs.Features.{
  FeatureTrack,
  feature_track,
  pairs,
  similarity_first,
  similarity_past,
  novelty_first,
  novelty_past,
  mended_at,
  mended_similarity,
  mended_novelty,
  mended_features,
  feature_patch_number,
  patched_features_says,
  features_named,
  features_after,
  PatchFeaturesPromise,
}

-- the four slots of an answer
abbrev pub patched_of : (similarity_first similarity_past novelty_first novelty_past : ℕ) → PatchedFeatures
patched_of similarity_first similarity_past novelty_first novelty_past =
    record { similarity_first = similarity_first; similarity_past = similarity_past; novelty_first = novelty_first; novelty_past = novelty_past }

-- what an answer says tells which it is
pub says_one : (a b : Result PatchedFeatures Refusal) → patched_features_says a ≡ patched_features_says b → a ≡ b
says_one (Err d) (Err e) h = ap Err (number-one d e (same_number h))
says_one (Ok p) (Ok q) h =
    let s = same_ends (same-slots h) in
    ap Ok (λ i. record { similarity_first = s.0 i; similarity_past = s.1 i; novelty_first = s.2 i; novelty_past = s.3 i })
says_one (Err e) (Ok q) h = absurd (some-slots (same-slots h))
says_one (Ok p) (Err e) h = absurd (some-slots (sym (same-slots h)))

module _ (rows : ℕ) (was : FeatureTrack) (patch : Patch) where
  pub refused : (e : Refusal) → number e ≡ feature_patch_number rows was patch → PatchFeaturesPromise rows was patch (Err e) was
  unfolding features_after
  refused e h =
      record {
        answer_is = refused_returns (number e) (features_named rows patch) (number-not_0 e) ∙ ap (λ (n : ℕ). returned n (features_named rows patch)) h;
        track_is = sym (refused_keeps (feature_patch_number rows was patch) _ was (λ z. number-not_0 e (h ∙ z)));
      }

  -- a refusal that `?` hands on: e is what refused
  pub refused_on : (r : Result PatchedFeatures Refusal) (e : Refusal) → IsErrAnd r (λ (x : Refusal). x ≡ e) → number e ≡ feature_patch_number rows was patch
      → PatchFeaturesPromise rows was patch r was
  refused_on (Ok slots) e h k = absurd h
  refused_on (Err x) e h k = refused x (ap number h ∙ k)

  module _ (none : feature_patch_number rows was patch ≡ 0) where
    pub empty : length patch.new ≡ 0 → PatchFeaturesPromise rows was patch (Ok (patched_of 0 0 0 0)) was
    unfolding features_after
    empty e =
        record {
          answer_is = rw (none, empty_keeps _ (ranges 0 0 0 0) patch.new e);
          track_is = rw none (sym (empty_keeps _ was patch.new e));
        }

    -- the slots and curves are given as the code finds them
    pub wrote : (length patch.new ≡ 0 → ⊥) → (sf nf np : ℕ) → sf ≡ similarity_first patch → nf ≡ novelty_first patch → np ≡ novelty_past rows patch
        → (f s n : List Float) → f ≡ edited feature_width was.features patch
        → s ≡ filled (mended_at f rows patch.start (past_row feature_width patch) was.similarity) was.similarity (similarity_first patch)
        (similarity_past patch)
        → n ≡ filled (novelty_at (take (pairs rows) s) rows) was.novelty nf np
        → PatchFeaturesPromise rows was patch (Ok (patched_of sf (similarity_past patch) nf np)) (feature_track f s n)
    unfolding features_after mended_features mended_similarity mended_novelty
    wrote some sf nf np a b c f s n ef es en =
        record {
          answer_is = rw (none, a, b, c, full_does _ (ranges 0 0 0 0) patch.new some);
          track_is = rw (none, en, es, ef, b, c) (sym (full_does _ was patch.new some));
        }

  -- any two outcomes coincide
  pub unique : {a b : Result PatchedFeatures Refusal} {x y : FeatureTrack} → PatchFeaturesPromise rows was patch a x → PatchFeaturesPromise rows was patch b y
      → (a ≡ b) × (x ≡ y)
  unique p q = (says_one _ _ (p.answer_is ∙ sym q.answer_is), p.track_is ∙ sym q.track_is)
