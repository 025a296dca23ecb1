-- `bars::downbeat_phase` meets its contract: what stands in the list of sums is each phase's sum, so the first greatest is one. Assumes nothing.
use mathlib.Core.Path.{◌≡◌, ap, ◌∙◌}
use mathlib.Core.List.{List}
use Prim.Native.Nat.{ℕ, ◌≤◌, zero-le}
use native.Mathlib.Omega.{arith}
use lib.ListN.{length}
use lib.Ieee.{Float, nan}
use Rattle.numbers.specs.Lists.{filled}
use Rattle.numbers.proofs.Tabs.{get_or_filled_in}
use Rattle.lists.specs.Greatest.{value_at, first_greatest}
use Rattle.lists.proofs.Greatest.{first_ext}
use Rattle.bars.specs.Downbeats.{phase_sum, downbeat_phase}
use Rattle.bars.proofs.downbeat_phase.Goals as goal

-- the first greatest of what was written is the rule's
read_back : (f : ℕ → Float) (n : ℕ) (was sums : List Float) → 1 ≤ n → n ≤ length was → sums ≡ filled f was 0 n
    → first_greatest (value_at sums) n ≡ first_greatest f n
read_back f n was sums some room e =
    first_ext (value_at sums) f n some (λ i h. ap (λ (l : List Float). value_at l i) e ∙ get_or_filled_in f was 0 n zero-le room i nan zero-le h)

pub returns : goal.returns
unfolding downbeat_phase
returns c = c.first_greatest.ensures.1 ∙ read_back (phase_sum _ _ _) _ _ _ (omega arith) (omega arith) c.fill_sums.ensures
