-- `flux::fill_flux` meets its contract: slot 0 has no row before it and is written alone, and the others join on (`filled_join`). Assumes nothing.
use mathlib.Core.Path.{◌≡◌, sym, ap, ◌∙◌}
use native.Mathlib.Omega.{arith}
use lib.Ieee.{nan}
use Rattle.numbers.proofs.Tabs.{filled_none, filled_join}
use Rattle.numbers.specs.Lists.{filled}
use Rattle.flux.specs.Flux.{flux_at}
use Rattle.flux.proofs.fill_flux.Goals as goal

pub returns-then-past-lt1 : goal.returns-then-past-lt1
returns-then-past-lt1 c =
    let g = c.args in
    let e : g.past ≡ g.from = omega arith in
    sym (ap (filled (flux_at g.m.values.now g.m.slab) g.out.now g.from) e ∙ filled_none _ _ _)

pub fill_each-requires : goal.fill_each-requires
fill_each-requires c =
    (omega arith, omega arith, omega arith)

pub fill_four-requires : goal.fill_four-requires
fill_four-requires c =
    (omega arith, omega arith, omega arith, omega (arith, c.fill_each.auto.out))

pub returns-then-from-lt1 : goal.returns-then-from-lt1
returns-then-from-lt1 c =
    let g = c.args in
    c.fill_four.ensures
    ∙ rw c.fill_each.ensures
    (filled_join (flux_at g.m.values.now g.m.slab) g.out.now g.from 1 g.past (omega arith) (omega arith) nan (omega arith))
