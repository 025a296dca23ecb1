-- What a call may rely on once it has refused nothing.
use mathlib.Core.Path.{◌≡◌, sym, ◌∙◌}
use mathlib.Core.Bool.{true}
use mathlib.Core.List.{List}
use Prim.Native.Nat.{ℕ, ◌*◌, ◌≤◌}
use lib.Dec.{leb, eqb}
use lib.ListN.{length}
use lib.Ieee.{Float}
use borrow.Author.Tests.{leb-true, eqb-true}
use Rattle.numbers.specs.Limits.{most_features, value_fine}
use Rattle.std.specs.Prelude.{Result, IsErrAnd}
use Rattle.numbers.specs.Refusals.{number, number_of}
use Rattle.numbers.specs.declared.Refusal.{Refusal}
use Rattle.numbers.proofs.Outcomes.{number-not_0, handed_on}
use Rattle.numbers.specs.Lists.{every}
use Rattle.numbers.proofs.Tests.{Passed, refused_keeps, lowest-zero}
use Rattle.similarities.specs.Similarity.{similarity_number, SimilarityPromise}

pub record SimilarityPassed (features : List Float) (rows room : ℕ) : Type 0 where
  pub few : rows ≤ most_features
  pub whole : length features ≡ rows * 16
  pub space : rows * 17 ≤ room
  pub fine : every value_fine features ≡ true

pub similarity_passed : (features : List Float) (rows room : ℕ) → similarity_number features rows room ≡ 0 → SimilarityPassed features rows room
unfolding similarity_number
similarity_passed features rows room e =
    let p : Passed (leb rows most_features) (eqb (length features) (rows * 16)) (leb (rows * 17) room) (every value_fine features) = lowest-zero _ _ _ _ e in
    record {
      few = leb-true _ _ p.bounds;
      whole = eqb-true _ _ p.lengths;
      space = leb-true _ _ p.room;
      fine = p.values;
    }

-- a refusal that `?` hands on, of which e is what refused, leaves the lent slots as they were
pub similarity_refused : {A : Type 0} (features : List Float) (rows : ℕ) (was : List Float) (r : Result A Refusal) (e : Refusal) → IsErrAnd r (λ (x : Refusal). x ≡ e)
    → number e ≡ similarity_number features rows (length was) → SimilarityPromise features rows was (number_of r) was
similarity_refused features rows was r e h k =
    let n : number_of r ≡ number e = handed_on r e h in
    record { answer = n ∙ k; slots = sym (refused_keeps _ _ _ (λ z. number-not_0 e (k ∙ z))) }
