-- Frames that are lent as a grid, test by test, and how many they can be; and answers that count. Assumes nothing.
use Rattle.std.proofs.Common.{◌≡◌, ℕ, ◌+◌, ◌≤◌, true, false, List, length, sym, refl, ap, ◌∙◌, arith}
use Rattle.std.specs.Prelude.{Result, Ok, Err, IsErrAnd}
use Rattle.numbers.specs.Limits.{most_frame, frame_fine}
use Rattle.numbers.specs.Lists.{every, ascending}
use Rattle.numbers.specs.Refusals.{first_of}
use Rattle.numbers.specs.Refusals as Refusals
use Rattle.numbers.specs.declared.Refusal.{Refusal}
use Rattle.numbers.specs.Outcomes.{Listing, listing}
use Rattle.numbers.proofs.Tests.{and_left, and_right, refused_keeps, passed_does}
use Rattle.numbers.proofs.Firsts.{first-zero}
use Rattle.numbers.proofs.Ascents.{ascending-count}
use Rattle.numbers.proofs.Outcomes.{number-not_0}
use Rattle.lists.specs.Grids.{grid_rows, Counted}

module _ (frames : List ℕ) where
  pub grid-above : every frame_fine frames ≡ false → first_of (grid_rows frames) ≡ 1
  grid-above e = rw e

  pub grid-order : every frame_fine frames ≡ true → ascending 0 frames ≡ false → first_of (grid_rows frames) ≡ 11
  grid-order e h = rw (e, h)

  pub grid-none : every frame_fine frames ≡ true → ascending 0 frames ≡ true → first_of (grid_rows frames) ≡ 0
  grid-none e h = rw (e, h)

  -- what number 0 says
  pub record Grid : Type 0 where
    pub listed : every frame_fine frames ≡ true
    pub ascend : ascending 0 frames ≡ true
    pub few : length frames ≤ most_frame + 1

  pub grid_of_lem : every frame_fine frames ≡ true → ascending 0 frames ≡ true → Grid
  grid_of_lem e h = record { listed = e; ascend = h; few = omega (arith, ascending-count 0 most_frame frames (omega arith) h e) }

  pub grid-told : first_of (grid_rows frames) ≡ 0 → Grid
  unfolding every
  grid-told z =
      let all = first-zero (grid_rows frames) refl z in
      let rest = and_right (every frame_fine frames) _ all in
      grid_of_lem (and_left (every frame_fine frames) _ all) (and_left (ascending 0 frames) _ rest)

-- ---- a number and a count: a refusal and an answer each meet `Counted`, and number 0 tells the count

module _ (number count : ℕ) where
  pub counted_refused : (answer : Listing) → answer.number ≡ number → (answer.number ≡ 0 → ⊥) → answer.count ≡ 0 → Counted number count answer
  counted_refused answer e h n = record { number_is = e; count_is = n ∙ sym (refused_keeps number count 0 (λ z. h (e ∙ z))) }

  -- a refusal that `?` hands on: e is what refused
  pub counted_on : (r : Result ℕ Refusal) (e : Refusal) → IsErrAnd r (λ (x : Refusal). x ≡ e) → Refusals.number e ≡ number
      → Counted number count (listing r)
  counted_on (Ok n) e h k = absurd h
  counted_on (Err x) e h k = counted_refused (listing (Err x)) (ap Refusals.number h ∙ k) (λ z. number-not_0 x z) refl

  pub counted-done : (answer : Listing) → number ≡ 0 → answer.number ≡ 0 → answer.count ≡ count → Counted number count answer
  counted-done answer z e n = record { number_is = e ∙ sym z; count_is = n ∙ sym (passed_does number count 0 z) }

  pub counted-told : {answer : Listing} → Counted number count answer → answer.number ≡ 0 → (number ≡ 0) × (answer.count ≡ count)
  counted-told p e = let z = sym p.number_is ∙ e in (z, p.count_is ∙ passed_does number count 0 z)
