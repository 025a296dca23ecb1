-- `sections::write_times` meets its contract. The invariant: the slots up to i are written by the rule, and the list is as long as it was. Slot by slot
-- is entry by entry (`filled-map`). Assumes nothing.
use Rattle.std.proofs.Common.{◌≡◌, ℕ, ◌-◌, ◌≤◌, length, get_or}
use Rattle.numbers.specs.Lists.{filled}
use Rattle.numbers.specs.Rounded.{◌⊗◌, real}
use Rattle.sections.proofs.write_times.Given as goal

abbrev pub invariant-loop-i : goal.invariant-loop-i
invariant-loop-i l = (l.i ≤ length l.rows) × (length l.ms ≡ length l.initial.ms) × (l.ms ≡ filled (λ (k : ℕ). real (get_or l.rows k 0) ⊗ l.each) l.initial.ms 0 l.i)
