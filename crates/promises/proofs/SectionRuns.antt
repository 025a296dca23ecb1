-- The parts of the first two theorems of RepairedSections, for feature rows. A full run is `similarity`, then `novelty` of the similarity that it wrote,
-- then `boundaries` of that novelty. The first two leave what one analysis from nothing does (`analysed_features`), so the curves are those of the
-- rows (`FreshFeatures`)
-- and the rows are rows that a full run accepts (`SoundFeatures`). Each step of `UsedFeatures` keeps both: patches do, other slices hold the same
-- first slots, and a
-- novelty written anew is again that of the rows, since the similarity is theirs. A novelty of accepted rows is at most 256 in size, so that `boundaries`
-- accepts it, and what it lists doesn't depend on the slices. What a theorem asks is written in it or at the head of its section; no axiom stands
-- behind one.
use mathlib.Core.Bool.{true, ◌&&◌}
use mathlib.Core.List.{List}
use mathlib.Core.Path.{◌≡◌, refl, sym, ap, ◌∙◌}
use Prim.Native.Nat.{ℕ, ◌≤◌}
use borrow.Author.Tests.{le-leb}
use lib.Dec.{leb}
use lib.Ieee.{Float}
use native.Mathlib.Omega.{arith}
use lib.ListN.{length, take}
use Rattle.numbers.specs.Limits.{most_features, value_fine}
use Rattle.numbers.specs.Lists.{filled, listed, every}
use Rattle.numbers.proofs.Tabs.{length-tab, length-filled, filled-first}
use Rattle.numbers.proofs.Tests.{and_both, lowest_0, passed_does}
use Rattle.similarities.specs.Similarity.{SimilarityPromise}
use Rattle.similarities.proofs.Calls.{similarity_passed}
use Rattle.novelties.specs.Novelty.{novelty_at, NoveltyPromise}
use Rattle.novelties.proofs.Calls.{novelty_passed}
use Rattle.sections.specs.Boundaries.{grid_fine, boundaries_of, boundaries_refusal}
use Rattle.sections.specs.Outcomes.{SectionsSaid, BoundariesPromise}
use Rattle.patch_features.specs.Features.{FeatureTrack, feature_track, pairs}
use Rattle.patch_features.specs.Runs.{similarity_curve, novelty_curve, FreshFeatures, SoundFeatures, analysed_features, RanFeatures, stays}
use Rattle.patch_features.proofs.Fine.{novelties_are_fine}
use Rattle.patch_features.proofs.Repairs.{calls_analyse, sound_is_analysed, analysed_is_fresh, analysed_is_sound, calls_end_fresh, calls_keep_sound}
use Rattle.promises.specs.RepairedSections.{RelentFeatures, UsedFeatures, ends, runs, relends, analyses, SameSections, SameSectionsElsewhere}
use Rattle.promises.proofs.FullRuns.{same_entries}

-- ---- what a full run leaves

-- the two calls that leave a curve, neither refused
module _
    (features : List Float) (rows : ℕ) (similarity₀ novelty₀ : List Float) {similarity novelty : List Float}
    (first : SimilarityPromise features rows similarity₀ 0 similarity) (second : NoveltyPromise (take (pairs rows) similarity) rows novelty₀ 0 novelty) where
  -- the curves are those that demand 2 gives the rows,
  pub full_run_is_fresh : FreshFeatures rows (feature_track features similarity novelty)
  full_run_is_fresh =
      rw (calls_analyse rows (feature_track features similarity₀ novelty₀) similarity novelty first second)
      (analysed_is_fresh rows (feature_track features similarity₀ novelty₀))

  -- and the track is one that the analysis accepts
  pub full_run_is_sound : SoundFeatures rows (feature_track features similarity novelty)
  full_run_is_sound =
      let p = similarity_passed features rows (length similarity₀) (sym first.answer) in
      let q = novelty_passed (take (pairs rows) similarity) rows (length novelty₀) (sym second.answer) in
      rw (calls_analyse rows (feature_track features similarity₀ novelty₀) similarity novelty first second)
      (analysed_is_sound rows (feature_track features similarity₀ novelty₀)
      (record { rows_fit = p.few; whole = p.whole; fine = p.fine; similarity_room = p.space; novelty_room = q.space }))

-- ---- what is done with a track

-- each step keeps both
relent_keeps : (rows : ℕ) {was now : FeatureTrack} → RelentFeatures rows was now → FreshFeatures rows was → SoundFeatures rows was
    → FreshFeatures rows now × SoundFeatures rows now
relent_keeps rows r f s = (
  record {
    similarity = r.same_similarity ∙ f.similarity ∙ ap (similarity_curve rows) (sym r.same_rows);
    novelty = r.same_novelty ∙ f.novelty ∙ ap (novelty_curve rows) (sym r.same_rows);
  },
  record {
    rows_fit = s.rows_fit;
    whole = ap length r.same_rows ∙ s.whole;
    fine = ap (every value_fine) r.same_rows ∙ s.fine;
    similarity_room = r.similarity_room;
    novelty_room = r.novelty_room;
  },
)

-- a novelty of the similarity of some rows is theirs, and was lent room
novelty-is : (rows : ℕ) (features similarity lent : List Float) {novelty : List Float} → take (pairs rows) similarity ≡ similarity_curve rows features
    → NoveltyPromise (take (pairs rows) similarity) rows lent 0 novelty → (take rows novelty ≡ novelty_curve rows features) × (rows ≤ length novelty)
unfolding novelty_curve
novelty-is rows features similarity lent {novelty} is done =
    let rule = novelty_at (similarity_curve rows features) rows in
    let room = (novelty_passed (take (pairs rows) similarity) rows (length lent) (sym done.answer)).space in
    let f : novelty ≡ filled rule lent 0 rows =
    done.slots ∙ passed_does _ _ _ (sym done.answer) ∙ ap (λ (x : List Float). filled (novelty_at x rows) lent 0 rows) is in
    let l : length novelty ≡ length lent = ap length f ∙ length-filled rule lent 0 rows (omega arith) room in
    (ap (take rows) f ∙ filled-first rule lent rows, omega arith)

pub used_keeps : (rows : ℕ) {was now : FeatureTrack} → UsedFeatures rows was now → FreshFeatures rows was → SoundFeatures rows was
    → FreshFeatures rows now × SoundFeatures rows now
used_keeps rows ends f s = (f, s)
used_keeps rows (runs ran more) f s = used_keeps rows more (calls_end_fresh rows f ran) (calls_keep_sound rows s ran)
used_keeps rows (relends r more) f s = let k = relent_keeps rows r f s in used_keeps rows more k.0 k.1
used_keeps rows (analyses {was} {lent = lent} done more) f s =
    let k = novelty-is rows was.features was.similarity lent f.similarity done in
    used_keeps rows more
    (record { similarity = f.similarity; novelty = k.0 })
    (record { rows_fit = s.rows_fit; whole = s.whole; fine = s.fine; similarity_room = s.similarity_room; novelty_room = k.1 })

-- ---- after any run of patches

-- `boundaries` accepts the novelty of sound rows
novelty_accepted : (rows : ℕ) (lent : FeatureTrack) → SoundFeatures rows lent → (samples rate room work : ℕ) → grid_fine samples rate ≡ true
    → rows ≤ room → rows ≤ work
    → boundaries_refusal (novelty_curve rows lent.features) samples rate room work ≡ 0
unfolding boundaries_refusal novelty_curve
novelty_accepted rows lent s samples rate room work grid h k =
    let c = novelty_curve rows lent.features in
    let l : length c ≡ rows = length-tab (novelty_at (similarity_curve rows lent.features) rows) 0 rows in
    lowest_0 (leb (length c) most_features && grid_fine samples rate) true (leb (length c) room && leb (length c) work) (every value_fine c)
    (and_both (leb (length c) most_features) (grid_fine samples rate) (rw l (le-leb rows most_features s.rows_fit)) grid)
    refl
    (and_both (leb (length c) room) (leb (length c) work) (rw l (le-leb rows room h)) (rw l (le-leb rows work k)))
    (novelties_are_fine rows lent.features s.whole s.fine)

-- a sound track, patches on it, a length and a rate that are fine, slices with room, and the three calls of a full run on the last rows
module _
    (rows : ℕ) {was last : FeatureTrack} (sound : SoundFeatures rows was) (ran : RanFeatures rows was last)
    (samples rate max_sections : ℕ) (grid : grid_fine samples rate ≡ true)
    (similarity₀ novelty₀ : List Float) (similarity_room : pairs rows ≤ length similarity₀) (novelty_room : rows ≤ length novelty₀)
    (begins₀ : List ℕ) (work₀ : List Float) (begins-room : rows ≤ length begins₀) (work_room : rows ≤ length work₀)
    {m n : ℕ} {similarity novelty : List Float} {answer : SectionsSaid} {begins : List ℕ} {work : List Float}
    (first : SimilarityPromise last.features rows similarity₀ m similarity)
    (second : NoveltyPromise (take (pairs rows) similarity) rows novelty₀ n novelty)
    (third : BoundariesPromise (take rows novelty) samples rate max_sections begins₀ work₀ answer begins work) where
  curves_accepted : (m ≡ 0) × (n ≡ 0) × (feature_track last.features similarity novelty ≡ analysed_features rows
      (feature_track last.features similarity₀ novelty₀))
  curves_accepted =
      let s = calls_keep_sound rows sound ran in
      sound_is_analysed rows (feature_track last.features similarity₀ novelty₀) similarity novelty m n
      (record { rows_fit = s.rows_fit; whole = s.whole; fine = s.fine; similarity_room = similarity_room; novelty_room = novelty_room })
      first
      second

  curves_fresh : FreshFeatures rows (feature_track last.features similarity novelty)
  curves_fresh = rw curves_accepted.2 (analysed_is_fresh rows (feature_track last.features similarity₀ novelty₀))

  -- none of the three is refused
  pub full_run_is_accepted : (m ≡ 0) × (n ≡ 0) × (answer.number ≡ 0)
  full_run_is_accepted = (
    curves_accepted.0,
    curves_accepted.1,
    third.number_is ∙ ap (λ (x : List Float). boundaries_refusal x samples rate (length begins₀) (length work₀)) curves_fresh.novelty
        ∙ novelty_accepted rows last (calls_keep_sound rows sound ran) samples rate (length begins₀) (length work₀) grid begins-room work_room,
  )

  -- and where the curves were those of the rows, they answer and leave what `boundaries` of the patched novelty does
  pub same_as_full_run : FreshFeatures rows was → {a : SectionsSaid} {x : List ℕ} {w : List Float}
      → BoundariesPromise (take rows last.novelty) samples rate max_sections begins₀ work₀ a x w
      → SameSections rows last a x m similarity n novelty answer begins
  same_as_full_run fresh p =
      let now = calls_end_fresh rows fresh ran in
      let e : take rows last.novelty ≡ take rows novelty = now.novelty ∙ sym curves_fresh.novelty in
      let q = rw e at p in
      let one = q.number_is ∙ sym third.number_is in
      let two = q.sections_are ∙ sym third.sections_are in
      let three = q.count_is ∙ sym third.count_is in
      let four = q.confidence_is ∙ sym third.confidence_is in
      record {
        similarity_accepted = full_run_is_accepted.0;
        novelty_accepted = full_run_is_accepted.1;
        accepted = full_run_is_accepted.2;
        same_similarity = now.similarity ∙ sym curves_fresh.similarity;
        same_novelty = e;
        same_answer = λ i. record { number = one i; sections = two i; count = three i; confidence = four i };
        same_begins = q.rows_are ∙ sym third.rows_are;
      }

-- ---- lent different slices

-- a sound track with the curves of its rows, a length and a rate that are fine, slices with room, and the three calls of a full run lent others with room
module _
    (rows : ℕ) {last : FeatureTrack} (fresh : FreshFeatures rows last) (sound : SoundFeatures rows last)
    (samples rate max_sections : ℕ) (grid : grid_fine samples rate ≡ true)
    (begins₀ : List ℕ) (work₀ : List Float) (begins-room : rows ≤ length begins₀) (work_room : rows ≤ length work₀)
    (similarity₀ novelty₀ : List Float) (similarity_room : pairs rows ≤ length similarity₀) (novelty_room : rows ≤ length novelty₀)
    (full_begins₀ : List ℕ) (full_work₀ : List Float) (full-begins-room : rows ≤ length full_begins₀) (full-work-room : rows ≤ length full_work₀)
    {m n : ℕ} {similarity novelty : List Float} {answer : SectionsSaid} {begins : List ℕ} {work : List Float}
    (first : SimilarityPromise last.features rows similarity₀ m similarity)
    (second : NoveltyPromise (take (pairs rows) similarity) rows novelty₀ n novelty)
    (third : BoundariesPromise (take rows novelty) samples rate max_sections full_begins₀ full_work₀ answer begins work) where
  -- `boundaries` of the novelty answers and lists what they do
  pub same_elsewhere : {a : SectionsSaid} {x : List ℕ} {w : List Float}
      → BoundariesPromise (take rows last.novelty) samples rate max_sections begins₀ work₀ a x w
      → SameSectionsElsewhere rows last a x m similarity n novelty answer begins
  same_elsewhere {a} {x} p =
      let accepted =
      full_run_is_accepted rows sound stays samples rate max_sections grid similarity₀ novelty₀ similarity_room novelty_room full_begins₀ full_work₀
      full-begins-room full-work-room first second third in
      let curves =
      curves_fresh rows sound stays samples rate max_sections grid similarity₀ novelty₀ similarity_room novelty_room full_begins₀ full_work₀
      full-begins-room full-work-room first second third in
      let e : take rows last.novelty ≡ take rows novelty = fresh.novelty ∙ sym curves.novelty in
      let q = rw e at p in
      let bounds = boundaries_of (take rows novelty) samples rate max_sections in
      let z : boundaries_refusal (take rows novelty) samples rate (length begins₀) (length work₀) ≡ 0 =
      ap (λ (c : List Float). boundaries_refusal c samples rate (length begins₀) (length work₀)) curves.novelty
      ∙ novelty_accepted rows last sound samples rate (length begins₀) (length work₀) grid begins-room work_room in
      let z' : boundaries_refusal (take rows novelty) samples rate (length full_begins₀) (length full_work₀) ≡ 0 = sym third.number_is ∙ accepted.2 in
      let one : a.number ≡ answer.number = q.number_is ∙ z ∙ sym accepted.2 in
      let two : a.sections ≡ answer.sections = q.sections_are ∙ passed_does _ _ _ z ∙ sym (third.sections_are ∙ passed_does _ _ _ z') in
      let count : a.count ≡ length bounds = q.count_is ∙ passed_does _ _ _ z in
      let three : a.count ≡ answer.count = count ∙ sym (third.count_is ∙ passed_does _ _ _ z') in
      let four : a.confidence ≡ answer.confidence = q.confidence_is ∙ passed_does _ _ _ z ∙ sym (third.confidence_is ∙ passed_does _ _ _ z') in
      let here : x ≡ listed bounds begins₀ = q.rows_are ∙ passed_does _ _ _ z in
      let there : begins ≡ listed bounds full_begins₀ = third.rows_are ∙ passed_does _ _ _ z' in
      record {
        similarity_accepted = accepted.0;
        novelty_accepted = accepted.1;
        accepted = accepted.2;
        same_similarity = fresh.similarity ∙ sym curves.similarity;
        same_novelty = e;
        same_answer = λ i. record { number = one i; sections = two i; count = three i; confidence = four i };
        same_begins = rw (count, here, there) (same_entries bounds begins₀ full_begins₀ refl);
      }
