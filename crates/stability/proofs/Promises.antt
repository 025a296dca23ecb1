-- What follows from the promise of `stability_of`: any two outcomes have one answer and one length of each lent slice, and coincide in every slot
-- that is not left open; and no more windows agree than there are, of which there are at most four. Assumes nothing.
use mathlib.Core.Path.{◌≡◌, sym, ◌∙◌}
use mathlib.Core.Bool.{Bool, true, false}
use mathlib.Core.List.{List}
use Prim.Native.Nat.{ℕ, zero, suc, ◌+◌, ◌/◌, ◌≤◌}
use native.Mathlib.Nat.{min-le_left}
use native.Mathlib.Omega.{arith}
use lib.ListN.{length, drop}
use lib.Ieee.{Float}
use Rattle.numbers.specs.Lists.{one_if}
use Rattle.numbers.specs.Refusals.{unless_refused}
use Rattle.numbers.proofs.Outcomes.{open_unique}
use Rattle.options.specs.declared.TempoOpts.{TempoOpts}
use Rattle.lags.specs.Lags.{min_lag, max_lag}
use Rattle.stability.specs.Windows.{windows_of, window_at, window_agrees, agreeing_to}
use Rattle.stability.specs.Answers.{Steadiness, stability_refusal, left_open, StabilityPromise}

-- two slices that are alike in length and in every slot that is not left open
abbrev pub Alike : (number room : ℕ) → (xs ys : List Float) → Type 0
Alike number room xs ys = (length xs ≡ length ys) × (drop (unless_refused number room 0) xs ≡ drop (unless_refused number room 0) ys)

pub coincide : {env : List Float} {rate : ℕ} {o : TempoOpts} {whole : ℕ} {clarity weight work : List Float}
    {r s : Steadiness} {c d w v k l : List Float}
    → StabilityPromise env rate o whole clarity weight work r c w k → StabilityPromise env rate o whole clarity weight work s d v l
    → let number = stability_refusal env rate o whole (length clarity) (length weight) (length work) in
    let room = left_open (length env) (min_lag rate o) (max_lag rate o) whole in
    (r ≡ s) × Alike number room c d × Alike number room w v × Alike number room k l
coincide p q = (
  p.answered ∙ sym q.answered,
  open_unique p.clarities q.clarities,
  open_unique p.weights q.weights,
  open_unique p.works q.works,
)

pub windows-most : (n max_lag : ℕ) → windows_of n max_lag ≤ 4
unfolding windows_of
windows-most n max_lag = min-le_left 4 (n / (max_lag + 2))

one-most : (b : Bool) → one_if b ≤ 1
one-most true = omega arith
one-most false = omega arith

pub agreeing-most : (env : List Float) (rate min_lag max_lag whole w k : ℕ) → agreeing_to env rate min_lag max_lag whole w k ≤ k
unfolding agreeing_to
agreeing-most env rate min_lag max_lag whole w zero = omega arith
agreeing-most env rate min_lag max_lag whole w (suc k) =
    omega (arith, agreeing-most env rate min_lag max_lag whole w k, one-most (window_agrees (window_at env w k) rate min_lag max_lag whole))
