-- A patch that is not refused and has rows: the mended curves of fresh ones are those of the edited rows (the law of locality,
-- `local_curve`), and the slots behind them stay.
use mathlib.Core.Bool.{true, false}
use mathlib.Core.List.{List}
use mathlib.Core.Logic.{◌⊎◌, inl, inr, ⊎_elim}
use mathlib.Core.Path.{◌≡◌, sym, ap, ◌∙◌}
use Prim.Native.Nat.{ℕ, ◌+◌, ◌*◌, ◌/◌, ◌≤◌, ◌<◌}
use native.Mathlib.Omega.{arith}
use lib.Ieee.{Float, nan}
use lib.ListN.{length, get_or, set, take, drop}
use lib.Seq.{get_or-take}
use Rattle.numbers.proofs.Tabs.{local_curve, get_or-curve, filled_ext, filled_join, filled_more, get_or_filled_high}
use Rattle.numbers.proofs.Tests.{which, pick_true, pick-false}
use Rattle.numbers.specs.Limits.{feature_width}
use Rattle.numbers.specs.Lists.{curve, filled}
use Rattle.numbers.specs.Rounded.{pick}
use Rattle.patches.proofs.Parts.{take-filled, drop-filled}
use Rattle.patches.specs.Patches.{Patch, past_row, edited}
use Rattle.row_pairs.proofs.Local.{similarity-over}
use Rattle.novelties.proofs.Local.{novelty-kept}
use Rattle.novelties.specs.Novelty.{novelty_at}
use Rattle.row_pairs.specs.Pairs.{similarity_at}
use Rattle.patch_features.specs.Features.{
  FeatureTrack,
  pairs,
  first_pair,
  similarity_first,
  similarity_past,
  novelty_first,
  novelty_past,
  touched,
  mended_at,
  mended_similarity,
  mended_novelty,
}
use Rattle.patch_features.specs.Runs.{similarity_curve, novelty_curve, FreshFeatures}
use Rattle.patch_features.proofs.Asked.{Asked}
use Rattle.patch_features.proofs.Touched.{own_touched, outside_untouched, untouched_rows, pair_untouched}

-- ---- the slots that are written, in two runs

-- one slot more, as code writes it: from the slot that it finds there
pub mended-more : (features : List Float) (rows a b : ℕ) (lent now : List Float) (from k : ℕ) (v : Float) → from ≤ k → k < length lent
    → now ≡ filled (mended_at features rows a b lent) lent from k → v ≡ pick (touched a b k) (similarity_at features rows k) (get_or now k nan)
    → set now k v ≡ filled (mended_at features rows a b lent) lent from (k + 1)
unfolding mended_at
mended-more features rows a b lent now from k v h l e w =
    let f = mended_at features rows a b lent in
    let found : get_or now k nan ≡ get_or lent k nan = ap (λ (c : List Float). get_or c k nan) e
    ∙ get_or_filled_high f lent from k h (omega arith) k nan (omega arith) in
    let value : v ≡ f k = w ∙ ap (pick (touched a b k) (similarity_at features rows k)) found in
    ap (λ (x : Float). set now k x) value ∙ ap (λ (c : List Float). set c k (f k)) e ∙ filled_more f lent from k h nan l

-- the pairs of rows before, and then the rows themselves, whole
pub mended-whole : (features : List Float) (rows a b : ℕ) (lent : List Float) → a ≤ b → b * 17 ≤ length lent
    → filled (similarity_at features rows) (filled (mended_at features rows a b lent) lent (first_pair a) (a * 17)) (a * 17) (b * 17)
    ≡ filled (mended_at features rows a b lent) lent (first_pair a) (b * 17)
unfolding mended_at
mended-whole features rows a b lent h l =
    filled_ext (similarity_at features rows) (mended_at features rows a b lent) (filled (mended_at features rows a b lent) lent (first_pair a) (a * 17))
    (a * 17) (b * 17)
    (λ k p q. sym (pick_true (touched a b k) (similarity_at features rows k) (get_or lent k nan) (own_touched a b k p q)))
    ∙ filled_join (mended_at features rows a b lent) lent (first_pair a) (a * 17) (b * 17) (omega arith) (omega arith) nan l

pub mended-joined : (features : List Float) (rows a b : ℕ) (lent mid now : List Float) (first : ℕ) → a ≤ b → b * 17 ≤ length lent → first ≡ first_pair a
    → mid ≡ filled (mended_at features rows a b lent) lent first (a * 17) → now ≡ filled (similarity_at features rows) mid (a * 17) (b * 17)
    → now ≡ filled (mended_at features rows a b lent) lent (first_pair a) (b * 17)
mended-joined features rows a b lent mid now first h l e m n = rw (n, m, e) (mended-whole features rows a b lent h l)

-- ---- one patch

module _ (rows : ℕ) (was : FeatureTrack) (patch : Patch) (asked : Asked rows was patch) where
  abbrev rows_now : List Float
  rows_now = edited feature_width was.features patch

  abbrev a : ℕ
  a = patch.start

  abbrev b : ℕ
  b = past_row feature_width patch

  abbrev k : ℕ
  k = length patch.new / feature_width

  -- a slot of a pair that touches no replaced row stays
  slot_stays : (slot : ℕ) → touched a b slot ≡ false → similarity_at rows_now rows slot ≡ similarity_at was.features rows slot
  unfolding edited
  slot_stays slot e =
      let w = asked.lengths in
      let u = untouched_rows a b slot e in
      similarity-over was.features patch.new rows a k w.whole w.new-whole w.inside slot u.0 u.1

  similarity-order : similarity_first patch ≤ similarity_past patch
  similarity-order = let w = asked.lengths in omega arith

  similarity_end : similarity_past patch ≤ pairs rows
  similarity_end = let w = asked.lengths in omega arith

  -- where the lent similarity is fresh, a mended slot is that of the edited rows, written or not
  slot_mends : take (pairs rows) was.similarity ≡ similarity_curve rows was.features → (k : ℕ) → k < pairs rows
      → mended_at rows_now rows a b was.similarity k ≡ similarity_at rows_now rows k
  unfolding mended_at similarity_curve
  slot_mends e k h = ⊎_elim (λ (t : touched a b k ≡ true). pick_true _ _ _ t) (λ (t : touched a b k ≡ false). pick-false _ _ _ t ∙ kept t)
      (which (touched a b k))
    where
      kept : touched a b k ≡ false → get_or was.similarity k nan ≡ similarity_at rows_now rows k
      kept t =
          sym (get_or-take (pairs rows) was.similarity k nan h) ∙ ap (λ (c : List Float). get_or c k nan) e
          ∙ get_or-curve (similarity_at was.features rows) (pairs rows) k nan h ∙ sym (slot_stays k t)

  -- the mended similarity of a fresh one
  pub similarity_mends : take (pairs rows) was.similarity ≡ similarity_curve rows was.features
      → take (pairs rows) (mended_similarity rows was patch) ≡ similarity_curve rows rows_now
  unfolding mended_similarity similarity_curve
  similarity_mends e =
      take-filled (mended_at rows_now rows a b was.similarity) was.similarity (pairs rows) (similarity_first patch) (similarity_past patch)
      similarity-order similarity_end asked.rooms.similarity_room
      ∙ ap (λ (d : List Float). filled (mended_at rows_now rows a b was.similarity) d (similarity_first patch) (similarity_past patch)) e
      ∙ filled_ext (mended_at rows_now rows a b was.similarity) (similarity_at rows_now rows) (curve (similarity_at was.features rows) (pairs rows))
      (similarity_first patch) (similarity_past patch) (λ k p q. slot_mends e k (omega (arith, similarity_end)))
      ∙ local_curve (similarity_at was.features rows) (similarity_at rows_now rows) (pairs rows) (similarity_first patch) (similarity_past patch) nan
      similarity-order similarity_end (λ slot h u. slot_stays slot (outside_untouched a b slot (omega arith) u))

  -- two rows that both stay are as alike as they were
  pair_stays : (i d : ℕ) → d < 17 → i + d < rows → (i < a) ⊎ (b ≤ i) → (i + d < a) ⊎ (b ≤ i + d)
      → get_or (similarity_curve rows rows_now) (i * 17 + d) nan ≡ get_or (similarity_curve rows was.features) (i * 17 + d) nan
  unfolding similarity_curve
  pair_stays i d h l p q =
      let inside : i * 17 + d < pairs rows = omega arith in
      get_or-curve (similarity_at rows_now rows) (pairs rows) (i * 17 + d) nan inside
      ∙ slot_stays (i * 17 + d) (pair_untouched a b i d h p q)
      ∙ sym (get_or-curve (similarity_at was.features rows) (pairs rows) (i * 17 + d) nan inside)

  novelty-order : novelty_first patch ≤ novelty_past rows patch
  novelty-order = let w = asked.lengths in omega arith

  novelty_stays : (i : ℕ) → i < rows → (i < novelty_first patch) ⊎ (novelty_past rows patch ≤ i)
      → novelty_at (similarity_curve rows rows_now) rows i ≡ novelty_at (similarity_curve rows was.features) rows i
  novelty_stays i h =
      let kept = novelty-kept (similarity_curve rows was.features) (similarity_curve rows rows_now) rows a k pair_stays i in
      ⊎_elim (λ (u : i < novelty_first patch). kept (inl (omega arith))) (λ (u : novelty_past rows patch ≤ i). kept (inr (omega arith)))

  -- the mended novelty of a fresh one
  pub novelty_mends : FreshFeatures rows was → take rows (mended_novelty rows was patch) ≡ novelty_curve rows rows_now
  unfolding mended_novelty novelty_curve
  novelty_mends fresh =
      take-filled (novelty_at (take (pairs rows) (mended_similarity rows was patch)) rows) was.novelty rows (novelty_first patch) (novelty_past rows patch)
      novelty-order (omega arith) asked.rooms.novelty_room
      ∙ ap (λ (c : List Float). filled (novelty_at c rows) (take rows was.novelty) (novelty_first patch) (novelty_past rows patch))
      (similarity_mends fresh.similarity)
      ∙ ap (λ (d : List Float). filled (novelty_at (similarity_curve rows rows_now) rows) d (novelty_first patch) (novelty_past rows patch)) fresh.novelty
      ∙ local_curve (novelty_at (similarity_curve rows was.features) rows) (novelty_at (similarity_curve rows rows_now) rows) rows (novelty_first patch)
      (novelty_past rows patch) nan
      novelty-order (omega arith) novelty_stays

  -- what lies behind the curves stays
  pub similarity-rest : drop (pairs rows) (mended_similarity rows was patch) ≡ drop (pairs rows) was.similarity
  unfolding mended_similarity
  similarity-rest =
      drop-filled (mended_at rows_now rows a b was.similarity) was.similarity (pairs rows) (similarity_first patch) (similarity_past patch)
      similarity-order similarity_end asked.rooms.similarity_room

  pub novelty-rest : drop rows (mended_novelty rows was patch) ≡ drop rows was.novelty
  unfolding mended_novelty
  novelty-rest =
      drop-filled (novelty_at (take (pairs rows) (mended_similarity rows was patch)) rows) was.novelty rows (novelty_first patch) (novelty_past rows patch)
      novelty-order (omega arith) asked.rooms.novelty_room
