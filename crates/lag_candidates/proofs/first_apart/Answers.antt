use mathlib.Core.Path.{◌≡◌, refl, ap, ◌∙◌}
use mathlib.Core.List.{[], ◌∷◌}
use Prim.Native.Nat.{ℕ}
use native.Mathlib.Omega.{arith}
use borrow.Author.Rules.{rules}
use lib.ListN.{length}
use Rattle.lag_candidates.specs.Candidates.{ranked_to, ranked, stands_apart, first_passing}
use Rattle.lag_candidates.proofs.first_apart.Goals as goal

pub loop-i-init : goal.loop-i-init
unfolding ranked_to first_passing
loop-i-init c = (search rules, refl)

pub loop-i-preserved : goal.loop-i-preserved
loop-i-preserved c = (omega arith, c.next_best-best.ensures)

pub returns : goal.returns
unfolding ranked
returns c =
    let l = c.loop-i in
    let s = c.args in
    let ws = s.weight.now in
    let e : l.i ≡ length ws = omega arith in
    l.invariant.1 ∙ ap (λ (k : ℕ). first_passing (stands_apart s.min_lag (s.a ∷ s.b ∷ [])) (ranked_to ws k) (length ws)) e
