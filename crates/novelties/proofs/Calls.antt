-- What a call may rely on once it has refused nothing, and that a genuine similarity isn't refused.
use mathlib.Core.Path.{◌≡◌, sym, ◌∙◌}
use mathlib.Core.Bool.{true}
use mathlib.Core.List.{List}
use Prim.Native.Nat.{ℕ, ◌*◌, ◌≤◌}
use lib.Dec.{leb, eqb}
use lib.ListN.{length}
use lib.Ieee.{Float}
use borrow.Author.Tests.{leb-true, eqb-true, le-leb, eq-eqb}
use Rattle.numbers.specs.Limits.{most_features, similarity_fine}
use Rattle.std.specs.Prelude.{Result, IsErrAnd}
use Rattle.numbers.specs.Refusals.{number, number_of}
use Rattle.numbers.specs.declared.Refusal.{Refusal}
use Rattle.numbers.proofs.Outcomes.{number-not_0, handed_on}
use Rattle.numbers.specs.Lists.{every, curve}
use Rattle.numbers.proofs.Tests.{Passed, refused_keeps, lowest-zero, lowest_0}
use Rattle.numbers.proofs.Tabs.{length-tab}
use Rattle.row_pairs.specs.Pairs.{similarity_at}
use Rattle.similarities.specs.Similarity.{similarity_number}
use Rattle.novelties.specs.Novelty.{novelty_number, NoveltyPromise}
use Rattle.similarities.proofs.Calls.{SimilarityPassed, similarity_passed}
use Rattle.row_pairs.proofs.Fine.{similarities_fine}

pub record NoveltyPassed (similarity : List Float) (rows room : ℕ) : Type 0 where
  pub few : rows ≤ most_features
  pub whole : length similarity ≡ rows * 17
  pub space : rows ≤ room
  pub fine : every similarity_fine similarity ≡ true

pub novelty_passed : (similarity : List Float) (rows room : ℕ) → novelty_number similarity rows room ≡ 0 → NoveltyPassed similarity rows room
unfolding novelty_number
novelty_passed similarity rows room e =
    let p : Passed (leb rows most_features) (eqb (length similarity) (rows * 17)) (leb rows room) (every similarity_fine similarity) = lowest-zero _ _ _ _ e in
    record {
      few = leb-true _ _ p.bounds;
      whole = eqb-true _ _ p.lengths;
      space = leb-true _ _ p.room;
      fine = p.values;
    }

-- novelty never refuses a similarity that `similarity` has written: with room for it, its number is 0
pub genuine_passes : (features : List Float) (rows room slots : ℕ) → similarity_number features rows room ≡ 0 → rows ≤ slots
    → novelty_number (curve (similarity_at features rows) (rows * 17)) rows slots ≡ 0
unfolding novelty_number
genuine_passes features rows room slots e h =
    let p = similarity_passed features rows room e in
    lowest_0 _ _ _ _ (le-leb _ _ p.few) (eq-eqb _ _ (length-tab (similarity_at features rows) 0 (rows * 17))) (le-leb _ _ h)
    (similarities_fine features rows p.whole p.fine)

-- a refusal that `?` hands on, of which e is what refused, leaves the lent slots as they were
pub novelty_refused : {A : Type 0} (similarity : List Float) (rows : ℕ) (was : List Float) (r : Result A Refusal) (e : Refusal) → IsErrAnd r (λ (x : Refusal). x ≡ e)
    → number e ≡ novelty_number similarity rows (length was) → NoveltyPromise similarity rows was (number_of r) was
novelty_refused similarity rows was r e h k =
    let n : number_of r ≡ number e = handed_on r e h in
    record { answer = n ∙ k; slots = sym (refused_keeps _ _ _ (λ z. number-not_0 e (k ∙ z))) }
