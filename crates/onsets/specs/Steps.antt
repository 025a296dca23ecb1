-- Inner: what the inner calls leave, and how far the loops that pick and suppress have come. No promise of a public call is written in these words.
use Rattle.std.specs.Prelude.{ℕ, ◌+◌, ◌≤◌, ◌≡◌, Bool, List, [], ◌∷◌, ◌++◌, length, Float, Option, Some, None, is_some, unwrap_or}
use Rattle.numbers.specs.Rounded.{pick}
use Rattle.numbers.specs.Lists.{filled, listed, one_if}
use Rattle.numbers.specs.Outcomes.{Open}
use Rattle.threshold.specs.Threshold.{threshold_at, sorting_room}
use Rattle.onsets.specs.Peaks.{bests, suppressed}
use Rattle.onsets.specs.Onsets.{onsets_in}
use Rattle.onsets.specs.declared.peaks.Group.{Group}

-- a call whose answers are the rule's, which gives each slot its threshold
abbrev pub IsRule : (answers : ℕ → Float → Type 0) → (rule : ℕ → Float) → Type 0
IsRule answers rule = (t : ℕ) (x : Float) → answers t x → x ≡ rule t

-- an inner call that lists entries and answers how many they are
pub record Picked (entries was : List ℕ) (count : ℕ) (after : List ℕ) : Type 0 where
  pub count_is : count ≡ length entries
  pub frames_are : after ≡ listed entries was

-- an inner call that writes the threshold of an envelope, lists the onsets by it and answers how many they are
pub record OnsetsListed
    (env : List Float) (rate : ℕ) (threshold : List Float) (onsets : List ℕ) (work : List Float)
    (count : ℕ) (threshold' : List Float) (onsets' : List ℕ) (work' : List Float) : Type 0 where
  pub count_is : count ≡ length (onsets_in env rate)
  pub threshold_is : threshold' ≡ filled (threshold_at env) threshold 0 (length env)
  pub onsets_are : onsets' ≡ listed (onsets_in env rate) onsets
  pub works : Open (sorting_room env) work work'

-- what is still to be kept, of the open group by its best, if one is open, and of the peaks that follow
unfoldable pub following : List Float → (gap : ℕ) → (best : Option ℕ) → List ℕ → List ℕ
following curve gap (Some best) peaks = bests curve gap best peaks
following curve gap None peaks = suppressed curve gap peaks

-- The bests of the closed groups are listed, and with what follows they are the whole.
pub record Going (curve : List Float) (gap : ℕ) (whole peaks was : List ℕ) (group : Group) (frames : List ℕ) : Type 0 where
  pub kept : List ℕ
  pub all : kept ++ following curve gap group.best peaks ≡ whole
  pub many : group.count ≡ length kept
  pub slots : frames ≡ listed kept was

-- A step past slot t, which is a peak or is not: where the loop has come to it, it has then come past it. Where no group
-- is open, 0 stands for its best.
pub record Stepped (curve : List Float) (gap t : ℕ) (peak : Bool) (group : Group) (frames : List ℕ) (group' : Group) (frames' : List ℕ) : Type 0 where
  pub best_at : unwrap_or group'.best 0 ≤ t
  pub counted : group'.count + one_if (is_some group'.best) ≤ group.count + one_if (is_some group.best) + 1
  pub goes : (whole peaks was : List ℕ)
      → Going curve gap whole (pick peak (t ∷ peaks) peaks) was group frames → Going curve gap whole peaks was group' frames'

-- The end of the loop: the last group's best is listed too.
pub record Closed (group : Group) (frames : List ℕ) (count : ℕ) (frames' : List ℕ) : Type 0 where
  pub ends : (curve : List Float) (gap : ℕ) (whole was : List ℕ) → Going curve gap whole [] was group frames → Picked whole was count frames'
