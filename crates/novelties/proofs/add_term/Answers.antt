-- `novelties::add_term` meets its contract. Both rows are inside and lie at most fifteen apart, so that their slot is inside the similarity; the table's
-- entry is the kernel's. Assumes nothing.
use mathlib.Core.Path.{sym}
use Prim.Native.Nat.{◌+◌, ◌-◌, ◌<◌, ◌*◌}
use native.Mathlib.Omega.{arith}
use Rattle.novelties.specs.Novelty.{slot_of, likeness}
use Rattle.kernels.proofs.Weights.{kernel_entry}
use Rattle.novelties.proofs.Terms.{is-inside, slot_below, term_added}
use Rattle.novelties.proofs.add_term.Goals.{After-slot_of-k}
use Rattle.novelties.proofs.add_term.Goals as goal

-- the slot is inside
slot-in : (c : After-slot_of-k) → let s = c.args in slot_of (s.i + s.u - 8) (s.i + s.v - 8) < s.rows * 17
slot-in c =
    let s = c.args in
    slot_below s.rows (s.i + s.u - 8) (s.i + s.v - 8) (omega arith) (omega arith) (omega arith) (omega arith)

pub offset_bounds-similarity-k : goal.offset_bounds-similarity-k
offset_bounds-similarity-k c = omega (arith, c.slot_of-k.ensures, slot-in (goal.at.offset_bounds-similarity-k c).After-slot_of-k)

pub bounds-similarity-k : goal.bounds-similarity-k
bounds-similarity-k c = omega (arith, c.slot_of-k.ensures, slot-in (goal.at.bounds-similarity-k c).After-slot_of-k)

pub returns : goal.returns
unfolding likeness
returns c =
    let a = c.args in
    rw (c.requires.0, kernel_entry a.u a.v c.requires.2 c.requires.3, c.slot_of-k.ensures)
    (sym (term_added _ _ _ _ _ _ (is-inside a.rows a.i a.u c.requires.4 c.requires.5) (is-inside a.rows a.i a.v c.requires.6 c.requires.7)))
