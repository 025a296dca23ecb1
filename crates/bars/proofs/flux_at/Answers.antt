-- `bars::flux_at` meets its contract: within the envelope an entry is the same whatever its default, past it the default is +0. Assumes nothing.
use mathlib.Core.Path.{◌≡◌, refl, sym}
use mathlib.Core.List.{List, [], ◌∷◌}
use Prim.Native.Nat.{ℕ, zero, suc, ◌<◌}
use native.Mathlib.Nat.{not-suc-le-zero, le_of_suc-le-suc}
use native.Mathlib.Omega.{arith}
use lib.ListN.{length, get_or, get_or-eq_default}
use lib.Ieee.{Float}
use Rattle.bars.specs.Downbeats.{beat_flux}
use Rattle.bars.proofs.flux_at.Goals as goal

any-default : (xs : List Float) (i : ℕ) (d e : Float) → i < length xs → get_or xs i d ≡ get_or xs i e
any-default [] i d e h = absurd (not-suc-le-zero h)
any-default (x ∷ xs) zero d e h = refl
any-default (x ∷ xs) (suc i) d e h = any-default xs i d e (le_of_suc-le-suc h)

pub returns-then-at-envelope : goal.returns-then-at-envelope
unfolding beat_flux
returns-then-at-envelope c = any-default c.args.envelope.now _ _ _ (omega arith)

pub returns-else-at-envelope : goal.returns-else-at-envelope
unfolding beat_flux
returns-else-at-envelope c = sym (get_or-eq_default c.args.envelope.now _ (omega arith))
