-- Demand 3, "Patching equals starting over", for feature rows with their similarity and novelty curves. `PatchFeaturesPromise` is what
-- `patch_features` promises, `features_after` the track that it leaves. What a theorem asks is written in it; no axiom stands behind one.
use mathlib.Core.Bool.{true, false}
use mathlib.Core.List.{List, [], ◌∷◌}
use mathlib.Core.Logic.{inl, inr, ⊎_elim}
use mathlib.Core.Path.{◌≡◌, refl, sym, ap, ◌∙◌}
use Prim.Native.Nat.{ℕ, zero, suc, ◌+◌, ◌*◌, ◌/◌, ◌≤◌, ◌<◌}
use native.Mathlib.Omega.{arith}
use borrow.Author.Tests.{le-leb, eq-eqb}
use lib.Dec.{lit≤}
use lib.Ieee.{Float, nan}
use lib.ListN.{length, get_or, take, drop}
use Rattle.std.specs.Prelude.{Result, Ok, Err}
use Rattle.numbers.proofs.Outcomes.{number-not_0}
use Rattle.numbers.proofs.Overs.{length_over, every-over, patch_fits, row-over, row_over_in, over_none}
use Rattle.numbers.proofs.Tabs.{length-filled, filled-first, filled_outside, get_or_filled_in}
use Rattle.numbers.proofs.Tests.{lt_or_le, pick-false, passed_does, and_both, lowest_0}
use Rattle.numbers.specs.Limits.{feature_width, value_fine, similarity_fine}
use Rattle.numbers.specs.Lists.{curve, every, filled, row}
use Rattle.numbers.specs.Refusals.{unless_refused}
use Rattle.numbers.specs.declared.Refusal.{Refusal}
use Rattle.patches.proofs.Parts.{filled-rest, filled_by}
use Rattle.patches.proofs.Answers.{same_number, same-slots, same_ends, some-slots}
use Rattle.patches.proofs.Wholes.{whole_asked}
use Rattle.patches.specs.Patches.{Patch, patch_of, past_row, whole_rows, edited, unless_empty, returned}
use Rattle.novelties.proofs.Calls.{genuine_passes}
use Rattle.novelties.specs.Novelty.{novelty_at, novelty_number, NoveltyPromise}
use Rattle.row_pairs.specs.Pairs.{similarity_at}
use Rattle.similarities.specs.Similarity.{similarity_number, SimilarityPromise}
use Rattle.patch_features.specs.declared.PatchedFeatures.{PatchedFeatures}
use Rattle.patch_features.specs.Features.{
  FeatureTrack,
  feature_track,
  pairs,
  similarity_first,
  similarity_past,
  novelty_first,
  novelty_past,
  touched,
  mended_at,
  mended_similarity,
  mended_novelty,
  mended_features,
  feature_patch_values,
  feature_patch_number,
  patched_features_says,
  features_named,
  features_after,
  PatchFeaturesPromise,
}
use Rattle.patch_features.specs.Runs.{
  similarity_curve,
  novelty_curve,
  FreshFeatures,
  KeptFeatures,
  SoundFeatures,
  GoodFeatures,
  analysed_features,
  RanFeatures,
  stays,
  patches,
  refuses,
  empties,
}
use Rattle.patch_features.proofs.Asked.{Asked, asked, bounds_asked, room_asked}
use Rattle.patch_features.proofs.Fine.{similarities_are_fine, novelties_are_fine}
use Rattle.patch_features.proofs.Mended.{similarity_mends, novelty_mends, similarity-rest, novelty-rest}

-- What holds of the track before a patch, and of a mended one, holds after it: it is refused, empty, or mended.
by_outcome : (P : FeatureTrack → Type 0) (rows : ℕ) (was : FeatureTrack) (patch : Patch) → P was → (Asked rows was patch → P (mended_features rows was patch))
    → P (features_after rows was patch)
unfolding features_after
by_outcome P rows was patch kept done = go (feature_patch_number rows was patch) patch.new refl
  where
    go : (n : ℕ) (new : List Float) → feature_patch_number rows was patch ≡ n → P (unless_refused n (unless_empty new (mended_features rows was patch) was) was)
    go (suc n) new e = kept
    go zero [] e = kept
    go zero (x ∷ xs) e = done (asked rows was patch e)

-- ---- (1) Where the lent curves were those of the rows, they are those of the edited rows afterwards, bit for bit.

mends : (rows : ℕ) (was : FeatureTrack) (patch : Patch) → FreshFeatures rows was → Asked rows was patch → FreshFeatures rows (mended_features rows was patch)
unfolding mended_features
mends rows was patch fresh a =
    record {
      similarity = similarity_mends rows was patch a fresh.similarity;
      novelty = novelty_mends rows was patch a fresh;
    }

pub patched_is_fresh : (rows : ℕ) (was : FeatureTrack) (patch : Patch) → FreshFeatures rows was → FreshFeatures rows (features_after rows was patch)
patched_is_fresh rows was patch fresh = by_outcome (FreshFeatures rows) rows was patch fresh (mends rows was patch fresh)

-- what `patch_features` promises of one call, whatever it answers
pub call_is_fresh : (rows : ℕ) (was : FeatureTrack) (patch : Patch) (answer : Result PatchedFeatures Refusal) (now : FeatureTrack)
    → FreshFeatures rows was → PatchFeaturesPromise rows was patch answer now → FreshFeatures rows now
call_is_fresh rows was patch answer now fresh done = rw done.track_is (patched_is_fresh rows was patch fresh)

-- ---- (2) An accepted patch leaves the edited rows. Outside them, the pairs that touch one and the slots that the answer names nothing differs.

module _ (rows : ℕ) (was now : FeatureTrack) where
  edited_by : (n start : ℕ) (new : List Float) → n ≡ 0 → now ≡ unless_refused n (unless_empty new (mended_features rows was (patch_of start new)) was) was
      → now.features ≡ edited feature_width was.features (patch_of start new)
  unfolding mended_features edited
  edited_by (suc n) start new h k = absurd (omega arith)
  edited_by zero start [] h k = ap (λ (s : FeatureTrack). s.features) k ∙ sym (over_none was.features (start * feature_width))
  edited_by zero start (x ∷ xs) h k = ap (λ (s : FeatureTrack). s.features) k

pub accepted_is_edited : (rows : ℕ) (was : FeatureTrack) (patch : Patch) (slots : PatchedFeatures) (now : FeatureTrack)
    → PatchFeaturesPromise rows was patch (Ok slots) now → now.features ≡ edited feature_width was.features patch
unfolding features_after
accepted_is_edited rows was patch slots now done =
    edited_by rows was now (feature_patch_number rows was patch) patch.start patch.new (sym (same_number done.answer_is)) done.track_is

-- row a + j is then the patch's row j
pub replaced_are_new : (rows : ℕ) (was : FeatureTrack) (patch : Patch) (slots : PatchedFeatures) (now : FeatureTrack)
    → PatchFeaturesPromise rows was patch (Ok slots) now
    → (j : ℕ) → j < length patch.new / feature_width → row now.features feature_width (patch.start + j) ≡ row patch.new feature_width j
unfolding edited
replaced_are_new rows was patch slots now done j h =
    let w = (asked rows was patch (sym (same_number done.answer_is))).lengths in
    ap (λ (m : List Float). row m feature_width (patch.start + j)) (accepted_is_edited rows was patch slots now done)
    ∙ row_over_in was.features patch.new rows feature_width patch.start (length patch.new / feature_width) nan w.whole w.new-whole
    w.inside j h

unmoved : (patch : Patch) (f g t u : ℕ) (was : FeatureTrack) → KeptFeatures patch f g t u was was
unmoved patch f g t u was =
    record {
      features_length = refl;
      similarity_length = refl;
      novelty_length = refl;
      rows_stay = λ i h. refl;
      similarity_stays = λ k h. refl;
      untouched_stay = λ k h. refl;
      novelty_stays = λ i h. refl;
    }

-- a pair that touches no replaced row keeps its slot, inside the slots that are named too
untouched_keeps : (features : List Float) (rows a b : ℕ) (lent : List Float) (f g : ℕ) → f ≤ g → g ≤ length lent → (k : ℕ) → touched a b k ≡ false
    → get_or (filled (mended_at features rows a b lent) lent f g) k nan ≡ get_or lent k nan
unfolding mended_at
untouched_keeps features rows a b lent f g h l k e =
    ⊎_elim (λ (u : k < f). filled_outside (mended_at features rows a b lent) lent f g h l k nan (inl u))
    (λ (u : f ≤ k). ⊎_elim
    (λ (v : k < g). get_or_filled_in (mended_at features rows a b lent) lent f g h l k nan u v ∙ pick-false (touched a b k) _ _ e)
    (λ (v : g ≤ k). filled_outside (mended_at features rows a b lent) lent f g h l k nan (inr v))
    (lt_or_le k g))
    (lt_or_le k f)

mended_keeps : (rows : ℕ) (was : FeatureTrack) (patch : Patch) → Asked rows was patch
    → KeptFeatures patch (similarity_first patch) (similarity_past patch) (novelty_first patch) (novelty_past rows patch) was (mended_features rows was patch)
unfolding mended_features mended_similarity mended_novelty edited
mended_keeps rows was patch a =
    let w = a.lengths in
    let r = a.rooms in
    let k = length patch.new / feature_width in
    record {
      features_length =
          length_over _ _ _ (patch_fits was.features patch.new rows feature_width patch.start k nan w.whole w.new-whole w.inside);
      similarity_length = length-filled _ was.similarity _ _ (omega arith) (omega arith);
      novelty_length = length-filled _ was.novelty _ _ (omega arith) (omega arith);
      rows_stay = row-over was.features patch.new rows feature_width patch.start k nan w.whole w.new-whole w.inside;
      similarity_stays = λ i h. filled_outside _ was.similarity _ _ (omega arith) (omega arith) i nan h;
      untouched_stay = λ i h. untouched_keeps _ rows patch.start (past_row feature_width patch) was.similarity _ _ (omega arith) (omega arith) i h;
      novelty_stays = λ i h. filled_outside _ was.novelty _ _ (omega arith) (omega arith) i nan h;
    }

module _ (rows : ℕ) (was : FeatureTrack) (slots : PatchedFeatures) (now : FeatureTrack) where
  kept_by : (n start : ℕ) (new : List Float) → feature_patch_number rows was (patch_of start new) ≡ n
      → patched_features_says (Ok slots) ≡ returned n (features_named rows (patch_of start new))
      → now ≡ unless_refused n (unless_empty new (mended_features rows was (patch_of start new)) was) was
      → KeptFeatures (patch_of start new) slots.similarity_first slots.similarity_past slots.novelty_first slots.novelty_past was now
  kept_by (suc n) start new e h k = absurd (some-slots (sym (same-slots h)))
  kept_by zero start [] e h k =
      rw k (unmoved (patch_of start []) slots.similarity_first slots.similarity_past slots.novelty_first slots.novelty_past was)
  kept_by zero start (x ∷ xs) e h k =
      let patch = patch_of start (x ∷ xs) in
      let s = same_ends (same-slots h) in
      rw (k, s.0, s.1, s.2, s.3) (mended_keeps rows was patch (asked rows was patch e))

pub outside_stays : (rows : ℕ) (was : FeatureTrack) (patch : Patch) (slots : PatchedFeatures) (now : FeatureTrack)
    → PatchFeaturesPromise rows was patch (Ok slots) now
    → KeptFeatures patch slots.similarity_first slots.similarity_past slots.novelty_first slots.novelty_past was now
unfolding features_after
outside_stays rows was patch slots now done =
    kept_by rows was slots now (feature_patch_number rows was patch) patch.start patch.new refl done.answer_is done.track_is

-- ---- (3) An empty patch changes nothing. (4) A refused one changes nothing.

empty_keeps_all : (n : ℕ) (was now : FeatureTrack) → now ≡ unless_refused n was was → now ≡ was
empty_keeps_all zero was now e = e
empty_keeps_all (suc n) was now e = e

pub empty_changes_nothing : (rows : ℕ) (was : FeatureTrack) (start : ℕ) (answer : Result PatchedFeatures Refusal) (now : FeatureTrack)
    → PatchFeaturesPromise rows was (patch_of start []) answer now → now ≡ was
unfolding features_after
empty_changes_nothing rows was start answer now done = empty_keeps_all (feature_patch_number rows was (patch_of start [])) was now done.track_is

module _ (rows : ℕ) (was now : FeatureTrack) where
  refused_keeps_all : (n start : ℕ) (new : List Float) → (n ≡ 0 → ⊥)
      → now ≡ unless_refused n (unless_empty new (mended_features rows was (patch_of start new)) was) was → now ≡ was
  refused_keeps_all (suc n) start new e h = h
  refused_keeps_all zero start new e h = absurd (e refl)

pub refused_changes_nothing : (rows : ℕ) (was : FeatureTrack) (patch : Patch) (e : Refusal) (now : FeatureTrack)
    → PatchFeaturesPromise rows was patch (Err e) now → now ≡ was
unfolding features_after
refused_changes_nothing rows was patch e now done =
    refused_keeps_all rows was now (feature_patch_number rows was patch) patch.start patch.new
    (λ z. number-not_0 e (same_number done.answer_is ∙ z)) done.track_is

-- ---- (5) Any run of patches on a fresh analysis, refused ones among them, ends as one fresh analysis of the last rows.

-- what each step keeps: the curves are those of the rows, and what lies behind them is as it was lent
record Going (rows : ℕ) (lent st : FeatureTrack) : Type 0 where
  fresh : FreshFeatures rows st
  similarity-rest : drop (pairs rows) st.similarity ≡ drop (pairs rows) lent.similarity
  novelty-rest : drop rows st.novelty ≡ drop rows lent.novelty

going_on : (rows : ℕ) (lent st : FeatureTrack) (patch : Patch) → Going rows lent st → Asked rows st patch → Going rows lent (mended_features rows st patch)
unfolding mended_features
going_on rows lent st patch h a =
    record {
      fresh = mends rows st patch h.fresh a;
      similarity-rest = similarity-rest rows st patch a ∙ h.similarity-rest;
      novelty-rest = novelty-rest rows st patch a ∙ h.novelty-rest;
    }

-- what a mended patch keeps, calls one after the other keep
calls_keep : (P : FeatureTrack → Type 0) (rows : ℕ) → ((was : FeatureTrack) (patch : Patch) → P was → Asked rows was patch → P (mended_features rows was patch))
    → {was now : FeatureTrack} → P was → RanFeatures rows was now → P now
calls_keep P rows keeps h stays = h
calls_keep P rows keeps h (patches p ran) = calls_keep P rows keeps (rw p.track_is (by_outcome P rows _ _ h (keeps _ _ h))) ran
calls_keep P rows keeps h (refuses p ran) = calls_keep P rows keeps (rw (refused_changes_nothing _ _ _ _ _ p) h) ran
calls_keep P rows keeps h (empties p ran) = calls_keep P rows keeps (rw (empty_changes_nothing _ _ _ _ _ p) h) ran

module _ (rows : ℕ) (lent : FeatureTrack) where
  pub analysed_is_fresh : FreshFeatures rows (analysed_features rows lent)
  unfolding analysed_features similarity_curve novelty_curve
  analysed_is_fresh = record { similarity = filled-first _ lent.similarity (pairs rows); novelty = filled-first _ lent.novelty rows }

  analysed_going : Going rows lent (analysed_features rows lent)
  unfolding analysed_features
  analysed_going =
      record {
        fresh = analysed_is_fresh;
        similarity-rest = filled-rest _ lent.similarity (pairs rows);
        novelty-rest = filled-rest _ lent.novelty rows;
      }

  going_is_analysed : (st : FeatureTrack) → Going rows lent st → st ≡ analysed_features rows (feature_track st.features lent.similarity lent.novelty)
  unfolding analysed_features similarity_curve novelty_curve
  going_is_analysed st h =
      ap (λ (s : List Float). feature_track st.features s st.novelty)
      (filled_by (similarity_at st.features rows) lent.similarity st.similarity (pairs rows) h.fresh.similarity h.similarity-rest)
      ∙ ap (λ (n : List Float). feature_track st.features (filled (similarity_at st.features rows) lent.similarity 0 (pairs rows)) n)
      (filled_by (novelty_at (similarity_curve rows st.features) rows) lent.novelty st.novelty rows h.fresh.novelty h.novelty-rest)

  -- calls one after the other, refused and empty ones of any rows among them
  pub calls_are_one_analysis : {now : FeatureTrack} → RanFeatures rows (analysed_features rows lent) now
      → now ≡ analysed_features rows (feature_track now.features lent.similarity lent.novelty)
  calls_are_one_analysis {now} ran = going_is_analysed now (calls_keep (Going rows lent) rows (going_on rows lent) analysed_going ran)

-- the same of curves that were fresh to begin with, wherever they came from
pub calls_end_fresh : (rows : ℕ) {was now : FeatureTrack} → FreshFeatures rows was → RanFeatures rows was now → FreshFeatures rows now
calls_end_fresh rows fresh ran = calls_keep (FreshFeatures rows) rows (mends rows) fresh ran

-- what the two calls of the analysis write, where neither refuses, is `analysed_features`
pub calls_analyse : (rows : ℕ) (lent : FeatureTrack) (similarity novelty : List Float)
    → SimilarityPromise lent.features rows lent.similarity 0 similarity
    → NoveltyPromise (take (pairs rows) similarity) rows lent.novelty 0 novelty
    → feature_track lent.features similarity novelty ≡ analysed_features rows lent
unfolding analysed_features similarity_curve
calls_analyse rows lent similarity novelty s n =
    let f : similarity ≡ filled (similarity_at lent.features rows) lent.similarity 0 (pairs rows) = s.slots ∙ passed_does _ _ _ (sym s.answer) in
    let c : take (pairs rows) similarity ≡ curve (similarity_at lent.features rows) (pairs rows) =
    ap (take (pairs rows)) f ∙ filled-first (similarity_at lent.features rows) lent.similarity (pairs rows) in
    let e : novelty ≡ filled (novelty_at (take (pairs rows) similarity) rows) lent.novelty 0 rows = n.slots ∙ passed_does _ _ _ (sym n.answer) in
    ap (λ (x : List Float). feature_track lent.features x novelty) f
    ∙ ap (feature_track lent.features (filled (similarity_at lent.features rows) lent.similarity 0 (pairs rows)))
    (e ∙ ap (λ (x : List Float). filled (novelty_at x rows) lent.novelty 0 rows) c)

-- and neither refuses a sound track: there is one fresh analysis of it
pub sound_is_analysed : (rows : ℕ) (lent : FeatureTrack) (similarity novelty : List Float) (n m : ℕ) → SoundFeatures rows lent
    → SimilarityPromise lent.features rows lent.similarity n similarity → NoveltyPromise (take (pairs rows) similarity) rows lent.novelty m novelty
    → (n ≡ 0) × (m ≡ 0) × (feature_track lent.features similarity novelty ≡ analysed_features rows lent)
unfolding similarity_number
sound_is_analysed rows lent similarity novelty n m s done next =
    let ok : similarity_number lent.features rows (length lent.similarity) ≡ 0 =
    lowest_0 _ _ _ _ (le-leb _ _ s.rows_fit) (eq-eqb _ _ s.whole) (le-leb _ _ s.similarity_room) s.fine in
    let z : n ≡ 0 = done.answer ∙ ok in
    let c : take (pairs rows) similarity ≡ curve (similarity_at lent.features rows) (pairs rows) =
    ap (take (pairs rows)) (done.slots ∙ passed_does _ _ _ ok) ∙ filled-first (similarity_at lent.features rows) lent.similarity (pairs rows) in
    let y : m ≡ 0 =
    next.answer ∙ ap (λ (x : List Float). novelty_number x rows (length lent.novelty)) c
    ∙ genuine_passes lent.features rows (length lent.similarity) (length lent.novelty) ok s.novelty_room in
    (z, y, calls_analyse rows lent similarity novelty (rw z at done) (rw y at next))

-- ---- (6) A good patch on fresh curves is accepted, at any place of a run.

pub good_is_accepted : (rows : ℕ) (was : FeatureTrack) (patch : Patch) → SoundFeatures rows was → FreshFeatures rows was → GoodFeatures rows patch
    → feature_patch_number rows was patch ≡ 0
unfolding feature_patch_number feature_patch_values
good_is_accepted rows was patch sound fresh good =
    let k : patch.start ≤ rows = let h : patch.start + good.count ≤ rows = good.inside in omega arith in
    let lengths : whole_rows (length was.features) rows feature_width patch.start (length patch.new) ≡ true =
    rw good.whole (whole_asked (length was.features) rows feature_width patch.start good.count (lit≤ tt) sound.whole good.inside) in
    let similarity : every similarity_fine (take (pairs rows) was.similarity) ≡ true =
    rw fresh.similarity (similarities_are_fine rows was.features sound.whole sound.fine) in
    let novelty : every value_fine (take rows was.novelty) ≡ true =
    rw fresh.novelty (novelties_are_fine rows was.features sound.whole sound.fine) in
    lowest_0 _ _ _ _ (bounds_asked rows patch.start (record { rows_fit = sound.rows_fit; starts = k })) lengths
    (room_asked rows (length was.similarity) (length was.novelty)
    (record { similarity_room = sound.similarity_room; novelty_room = sound.novelty_room }))
    (and_both (every value_fine was.features) _ sound.fine
    (and_both (every value_fine patch.new) _ good.fine (and_both (every similarity_fine (take (pairs rows) was.similarity)) _ similarity novelty)))

-- a patch leaves a sound track sound
mended_sound : (rows : ℕ) (was : FeatureTrack) (patch : Patch) → SoundFeatures rows was → Asked rows was patch
    → SoundFeatures rows (mended_features rows was patch)
unfolding mended_features edited
mended_sound rows was patch s a =
    let kept = mended_keeps rows was patch a in
    record {
      rows_fit = s.rows_fit;
      whole = kept.features_length ∙ s.whole;
      fine = every-over value_fine was.features (patch.start * feature_width) patch.new s.fine a.new-fine;
      similarity_room = rw kept.similarity_length s.similarity_room;
      novelty_room = rw kept.novelty_length s.novelty_room;
    }

pub calls_keep_sound : (rows : ℕ) {was now : FeatureTrack} → SoundFeatures rows was → RanFeatures rows was now → SoundFeatures rows now
calls_keep_sound rows sound ran = calls_keep (SoundFeatures rows) rows (mended_sound rows) sound ran

pub analysed_is_sound : (rows : ℕ) (lent : FeatureTrack) → SoundFeatures rows lent → SoundFeatures rows (analysed_features rows lent)
unfolding analysed_features
analysed_is_sound rows lent s =
    record {
      rows_fit = s.rows_fit;
      whole = s.whole;
      fine = s.fine;
      similarity_room =
          rw (length-filled (similarity_at lent.features rows) lent.similarity 0 (pairs rows) (omega arith) s.similarity_room) s.similarity_room;
      novelty_room =
          rw (length-filled (novelty_at (similarity_curve rows lent.features) rows) lent.novelty 0 rows (omega arith) s.novelty_room) s.novelty_room;
    }

pub good_is_accepted_after_calls : (rows : ℕ) (lent : FeatureTrack) {now : FeatureTrack} (patch : Patch)
    → SoundFeatures rows lent → RanFeatures rows (analysed_features rows lent) now → GoodFeatures rows patch → feature_patch_number rows now patch ≡ 0
good_is_accepted_after_calls rows lent {now} patch s ran good =
    good_is_accepted rows now patch (calls_keep_sound rows (analysed_is_sound rows lent s) ran) (calls_end_fresh rows (analysed_is_fresh rows lent) ran) good
