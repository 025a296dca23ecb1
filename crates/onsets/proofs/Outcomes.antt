-- What the inner call leaves that makes the threshold itself. Assumes nothing.
use mathlib.Core.List.{List}
use mathlib.Core.Path.{◌≡◌}
use Prim.Native.Nat.{ℕ, ◌-◌}
use native.Mathlib.Nat.{sub-zero}
use lib.Ieee.{Float}
use lib.ListN.{length, take, drop}
use Rattle.numbers.proofs.Tabs.{filled-first}
use Rattle.numbers.specs.Lists.{curve, filled}
use Rattle.threshold.specs.Threshold.{threshold_at, sorting_room}
use Rattle.onsets.specs.Peaks.{at, peaks_of, suppressed}
use Rattle.onsets.specs.Onsets.{gap_of, onsets_of, onsets_in}
use Rattle.onsets.specs.Steps.{Picked, OnsetsListed}

-- the threshold was written, and the slots of it that are read are the curve
pub listed_by : (env : List Float) (rate gap count : ℕ) (threshold threshold' : List Float) (onsets onsets' : List ℕ) (work work' : List Float)
    → threshold' ≡ filled (threshold_at env) threshold 0 (length env)
    → length work' ≡ length work → drop (sorting_room env) work' ≡ drop (sorting_room env) work
    → gap ≡ gap_of rate
    → Picked (suppressed env gap (peaks_of env (at (take (length env - 0) (drop 0 threshold'))))) onsets count onsets'
    → OnsetsListed env rate threshold onsets work count threshold' onsets' work'
unfolding onsets_in onsets_of
listed_by env rate gap count threshold threshold' onsets onsets' work work' t l k g p =
    let c : take (length env - 0) (drop 0 threshold') ≡ curve (threshold_at env) (length env) =
    rw (sub-zero, t) (filled-first (threshold_at env) threshold (length env)) in
    let p' = rw (c, g) at p in
    record { count_is = p'.count_is; threshold_is = t; onsets_are = p'.frames_are; works = record { same_length = l; kept = k } }
