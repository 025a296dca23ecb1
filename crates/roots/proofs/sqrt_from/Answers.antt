-- `roots::sqrt_from` meets its contract: each branch is one case of the definition. What is above zero has a pattern above 0 (`above-bits`). Assumes nothing.
use mathlib.Core.Path.{sym, ◌∙◌}
use lib.Ieee.{binary64, fits}
use denote.Floats.{passes}
use Rattle.roots.proofs.Floats.{nought_by_nought, above-bits, sqrt_above, sqrt_infinite, sqrt_nought, sqrt_none}
use Rattle.roots.proofs.sqrt_from.Goals as goal

pub root_bits-requires : goal.root_bits-requires
root_bits-requires c =
    let e = c.bits_of-n.ensures in
    (rw e (above-bits _ (passes (fits binary64 c.args.x) c.well_formed.0.1) c.if-x.true), c.if-n-lt-INFINITE.true)

pub returns-then-n-lt-INFINITE : goal.returns-then-n-lt-INFINITE
returns-then-n-lt-INFINITE c =
    let e = c.bits_of-n.ensures in
    c.float_of.ensures ∙ rw (c.root_bits.ensures, e) (sym (sqrt_above _ c.if-x.true (rw e at c.if-n-lt-INFINITE.true)))

pub returns-then-x : goal.returns-then-x
returns-then-x c = sym (sqrt_infinite _ c.if-x.true (rw c.bits_of-n.ensures at c.if-n-lt-INFINITE.false))

pub returns-then-x-2 : goal.returns-then-x-2
returns-then-x-2 c = sym (sqrt_nought _ c.if-x.false c.if-x-2.true)

pub returns : goal.returns
returns c = nought_by_nought ∙ sym (sqrt_none _ c.if-x.false c.if-x-2.false)
