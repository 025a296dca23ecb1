-- The answer where there is a tempo, from its parts: the winner's pair, and the candidates by how many there are. Assumes nothing.
use mathlib.Core.Path.{◌≡◌, sym, ap, ◌∙◌}
use mathlib.Core.List.{List, [], ◌∷◌}
use Prim.Native.Nat.{ℕ, ◌+◌}
use lib.ListN.{length}
use lib.Ieee.{Float}
use Rattle.lags.specs.Lags.{bpm_at}
use Rattle.tempo.specs.declared.Candidate.{Candidate}
use Rattle.tempo.specs.declared.Tempo.TheVariants.{Found}
use Rattle.lag_candidates.specs.Candidates.{winner_of, candidates_of}
use Rattle.tempo.specs.Answers.{EstimateSaid, unused, candidate_at, pairs_of, found_of}

-- the answer with these candidates
abbrev answer_with : (bpm : Float) → (first : Candidate) → List Candidate → ℕ → EstimateSaid
answer_with bpm first pairs n = record { number = 0; tempo = Found bpm first.salience; candidates = pairs; count = n }

module _ (rate min_lag : ℕ) (cs ws : List Float) (w : ℕ) (first : Candidate) (bpm : Float)
    (is-w : w ≡ winner_of ws) (is-first : first ≡ candidate_at min_lag cs w) (is-bpm : bpm ≡ bpm_at rate first.lag) where
  answer_is : (slots : List ℕ) → candidates_of min_lag ws ≡ slots → answer_with bpm first (pairs_of min_lag cs slots) (length slots) ≡ found_of rate min_lag cs ws
  unfolding found_of
  answer_is slots e =
      let same : first ≡ candidate_at min_lag cs (winner_of ws) = is-first ∙ ap (candidate_at min_lag cs) is-w in
      ap (λ (x : Float). answer_with x first (pairs_of min_lag cs slots) (length slots)) is-bpm
      ∙ ap (λ (x : Candidate). answer_with (bpm_at rate x.lag) x (pairs_of min_lag cs slots) (length slots)) same
      ∙ ap (λ (x : List ℕ). answer_with (bpm_at rate (min_lag + winner_of ws)) (candidate_at min_lag cs (winner_of ws)) (pairs_of min_lag cs x) (length x)) (sym e)

  pub found-one : candidates_of min_lag ws ≡ w ∷ [] → answer_with bpm first (first ∷ unused ∷ unused ∷ []) 1 ≡ found_of rate min_lag cs ws
  unfolding pairs_of
  found-one e =
      ap (λ (x : Candidate). answer_with bpm first (x ∷ unused ∷ unused ∷ []) 1) is-first
      ∙ answer_is (w ∷ []) e

  module _ (b : ℕ) (second : Candidate) (is-second : second ≡ candidate_at min_lag cs b) where
    pub found-two : candidates_of min_lag ws ≡ w ∷ b ∷ [] → answer_with bpm first (first ∷ second ∷ unused ∷ []) 2 ≡ found_of rate min_lag cs ws
    unfolding pairs_of
    found-two e =
        ap (λ (x : Candidate). answer_with bpm first (x ∷ second ∷ unused ∷ []) 2) is-first
        ∙ ap (λ (x : Candidate). answer_with bpm first (candidate_at min_lag cs w ∷ x ∷ unused ∷ []) 2) is-second
        ∙ answer_is (w ∷ b ∷ []) e

    pub found_three : (c : ℕ) (third : Candidate) → third ≡ candidate_at min_lag cs c → candidates_of min_lag ws ≡ w ∷ b ∷ c ∷ []
        → answer_with bpm first (first ∷ second ∷ third ∷ []) 3 ≡ found_of rate min_lag cs ws
    unfolding pairs_of
    found_three c third is-third e =
        ap (λ (x : Candidate). answer_with bpm first (x ∷ second ∷ third ∷ []) 3) is-first
        ∙ ap (λ (x : Candidate). answer_with bpm first (candidate_at min_lag cs w ∷ x ∷ third ∷ []) 3) is-second
        ∙ ap (λ (x : Candidate). answer_with bpm first (candidate_at min_lag cs w ∷ candidate_at min_lag cs b ∷ x ∷ []) 3) is-third
        ∙ answer_is (w ∷ b ∷ c ∷ []) e
