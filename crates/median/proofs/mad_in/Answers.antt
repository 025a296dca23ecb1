-- `median::mad_in` meets its contract: the part of work that is lent holds the distances. Assumes nothing.
use mathlib.Core.Path.{◌≡◌, sym}
use mathlib.Core.List.{map}
use native.Mathlib.Omega.{arith}
use lib.ListN.{length, take, length-map}
use Rattle.median.specs.Median.{distance, mad_of}
use Rattle.median.proofs.Lent.{lent_length, lent_chosen}
use Rattle.median.proofs.mad_in.Goals.{After-distances}
use Rattle.median.proofs.mad_in.Goals as goal

-- the part that is lent has as many slots as there are values
part : (c : After-distances) → length (take (length c.args.values.now) c.distances.new.dst)
    ≡ length c.args.values.now
part c =
    let f = distance c.args.median in
    lent_length c.args.values.now (map f c.args.values.now) c.args.work.now _ (length-map c.args.values.now f)
    c.requires.1 c.distances.ensures

pub slice_bounds-middle-end-2 : goal.slice_bounds-middle-end-2
slice_bounds-middle-end-2 c = sym (part (goal.at.slice_bounds-middle-end-2 c).After-distances)

pub middle-requires : goal.middle-requires
middle-requires c = omega (arith, part (goal.at.middle-requires c).After-distances, c.requires.0)

pub returns : goal.returns
unfolding mad_of
returns c =
    let m = c.middle in
    let f = distance c.args.median in
    lent_chosen c.args.values.now (map f c.args.values.now) c.args.work.now _ (length-map c.args.values.now f)
    c.requires.1 c.distances.ensures _ m.new.a m.ensures m.auto.a
