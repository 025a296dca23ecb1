-- The lines of an answer: the lags of its three candidates, and what is put of its lists. Assumes nothing.
use mathlib.Core.Path.{◌≡◌, refl}
use mathlib.Core.List.{List, [], ◌∷◌}
use Prim.Native.Nat.{ℕ}
use native.Mathlib.Omega.{arith}
use lib.ListN.{length, get_or, take, length-take}
use Rattle.stability.specs.Answers.{agreeing_in, windows_in}
use Rattle.tempo.specs.declared.Candidate.{Candidate}
use Rattle.track.specs.Analyses.{AnalysisSaid}
use Rattle.report_text.specs.Text.{report_text, report_room, PutWithin}
use Rattle.report_text.proofs.Puts.{put_as}
use Rattle.report_lines.specs.declared.Counts.{Counts}
use Rattle.report_lines.specs.Lines.{text_room, candidate_lags, lines_of, Listable}

pub three_lags : (cs : List Candidate) (z : Candidate) → length cs ≡ 3 → ((get_or cs 0 z).lag ∷ (get_or cs 1 z).lag ∷ (get_or cs 2 z).lag ∷ []) ≡ candidate_lags cs
three_lags [] z e = absurd (omega arith)
three_lags (a ∷ []) z e = absurd (omega arith)
three_lags (a ∷ b ∷ []) z e = absurd (omega arith)
three_lags (a ∷ b ∷ c ∷ []) z e = refl
three_lags (a ∷ b ∷ c ∷ d ∷ cs) z e = absurd (omega arith)

pub lines_put : (a : AnalysisSaid) (onsets beats downbeats lags : List ℕ) (share : Counts) {bytes bytes' : List ℕ} {end : ℕ} → lags ≡ candidate_lags a.candidates
    → share ≡ record { agreeing = agreeing_in a.stability; windows = windows_in a.stability } → Listable a onsets beats downbeats
    → PutWithin bytes 0
    (report_text (take a.onsets onsets) (take a.count lags) (take a.beats beats) (take a.downbeats downbeats)
    share.agreeing share.windows)
    (report_room (length (take a.onsets onsets)) (length (take a.beats beats)) (length (take a.downbeats downbeats)))
    end bytes'
    → PutWithin bytes 0 (lines_of a onsets beats downbeats) text_room end bytes'
lines_put a onsets beats downbeats lags share l s q p =
    put_as (rw (l, s) refl)
    (omega (
      arith,
      length-take a.onsets onsets,
      length-take a.beats beats,
      length-take a.downbeats downbeats,
      q.onset_lists,
      q.beat_lists,
      q.downbeat_lists,
    ))
    p
