-- `median::median_in` meets its contract: the part of work that is lent holds the values. Assumes nothing.
use mathlib.Core.Path.{◌≡◌, refl, sym}
use native.Mathlib.Omega.{arith}
use lib.ListN.{length, take}
use Rattle.median.proofs.Lent.{lent_length, lent_chosen}
use Rattle.median.proofs.median_in.Goals.{After-copy}
use Rattle.median.proofs.median_in.Goals as goal

-- the part that is lent has as many slots as there are values
part : (c : After-copy) → length (take (length c.args.values.now) c.copy.new.dst) ≡ length
    c.args.values.now
part c =
    lent_length c.args.values.now c.args.values.now c.args.work.now _ refl c.requires.1 c.copy.ensures

pub slice_bounds-middle-end-2 : goal.slice_bounds-middle-end-2
slice_bounds-middle-end-2 c = sym (part (goal.at.slice_bounds-middle-end-2 c).After-copy)

pub middle-requires : goal.middle-requires
middle-requires c = omega (arith, part (goal.at.middle-requires c).After-copy, c.requires.0)

pub returns : goal.returns
returns c =
    let m = c.middle in
    lent_chosen c.args.values.now c.args.values.now c.args.work.now _ refl c.requires.1 c.copy.ensures _
    m.new.a m.ensures m.auto.a
