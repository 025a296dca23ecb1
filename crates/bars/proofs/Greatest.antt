-- "of phases 0 to 3", to meter - 1, "the first with the greatest flux sum": what the phase that is found has, for every envelope that is not refused:
-- it is below the meter, no phase's sum is greater, and each phase before it has less: "ties still go to the earliest".
use mathlib.Core.Path.{◌≡◌, refl, sym, ap, subst}
use mathlib.Core.Bool.{true}
use mathlib.Core.Logic.{⊎_elim}
use mathlib.Core.List.{List, [], ◌∷◌, map}
use Prim.Native.Nat.{ℕ, suc, ◌^◌, ◌≤◌, ◌<◌}
use native.Mathlib.Omega.{arith}
use lib.Dec.{lit≤}
use lib.ListN.{length, get_or-eq_default}
use lib.Ieee.{Float}
use Rattle.numbers.specs.Rounded.{nought}
use Rattle.numbers.specs.Limits.{value_fine}
use Rattle.numbers.specs.Lists.{every}
use Rattle.numbers.proofs.Tests.{lt_or_le}
use Rattle.sizes.specs.Sizes.{Within, Each, none, more}
use Rattle.sizes.proofs.Sizes.{most_not_nan, nought-most}
use Rattle.sizes.proofs.Lists.{values-within, each_at}
use Rattle.sizes.proofs.Sums.{sum-within}
use Rattle.lists.proofs.Greatest.{First, first_is}
use Rattle.bars.specs.Downbeats.{beat_flux, in_phase, phase_sum, downbeat_phase}
use Rattle.bars.proofs.Phases.{length_phase}

-- the flux of a list of beats is of size at most 2 ^ 150, as the envelope's is
flux-within : (envelope : List Float) → Each (Within 150) envelope → (t : ℕ) → Within 150 (beat_flux envelope t)
unfolding beat_flux
flux-within envelope h t =
    ⊎_elim (λ (g : t < length envelope). each_at t nought h g)
    (λ (g : length envelope ≤ t). subst (Within 150) (sym (get_or-eq_default envelope nought g)) nought-most) (lt_or_le t (length envelope))

fluxes-within : (envelope : List Float) → Each (Within 150) envelope → (ts : List ℕ) → Each (Within 150) (map (beat_flux envelope) ts)
fluxes-within envelope h [] = none
fluxes-within envelope h (t ∷ ts) = more (flux-within envelope h t) (fluxes-within envelope h ts)

length-map : (f : ℕ → Float) (ts : List ℕ) → length (map f ts) ≡ length ts
length-map f [] = refl
length-map f (t ∷ ts) = ap suc (length-map f ts)

-- more beats than could be lent
pub phase_first_greatest : (envelope : List Float) (beats : List ℕ) (meter : ℕ) → every value_fine envelope ≡ true → length beats ≤ 2 ^ 52 → 1 ≤ meter
    → First (phase_sum envelope beats meter) meter (downbeat_phase envelope beats meter)
unfolding downbeat_phase phase_sum
phase_first_greatest envelope beats meter fine few some =
    first_is (phase_sum envelope beats meter) meter some
    (λ p q.
    most_not_nan
    (sum-within 52 150 (lit≤ tt) (lit≤ tt) (omega (arith, few, length-map (beat_flux envelope) (in_phase meter p 0 beats), length_phase meter p 0 beats))
    (fluxes-within envelope (values-within envelope fine) (in_phase meter p 0 beats))))
