use Prim.Native.Nat.{ℕ, ◌<◌, zero-le}
use mathlib.Core.Path.{◌≡◌, refl, sym, ap, ◌∙◌}
use mathlib.Core.List.{List, map}
use native.Mathlib.Omega.{arith}
use lib.ListN.{length, length-set, length-map}
use lib.Seq.{ext_get_or}
use lib.Ieee.{Float, nan}
use Rattle.numbers.specs.Lists.{curve, filled}
use Rattle.numbers.proofs.Tabs.{length-tab, get_or-curve, filled_none, filled_more, filled-all}
use Rattle.median.specs.Median.{sort}
use Rattle.windows.specs.Windows.{one_zero}
use Rattle.windows.proofs.Spreads.{map_at}
use Rattle.windows.proofs.sorted.Invariants.{rule}
use Rattle.windows.proofs.sorted.Goals as goal

rule-is : (xs : List Float) (n : ℕ) → length xs ≡ n → curve (rule xs) n ≡ map one_zero xs
rule-is xs n e = ext_get_or nan _ _ (length-tab (rule xs) 0 n ∙ sym (length-map xs one_zero ∙ e)) (λ i l.
    let k : i < n = omega (arith, length-tab (rule xs) 0 n) in
    get_or-curve (rule xs) n i nan k ∙ sym (map_at one_zero xs i (omega arith)))

pub loop-i-init : goal.loop-i-init
loop-i-init c = (omega arith, refl, sym (filled_none _ _ _))

pub one_zero-requires : goal.one_zero-requires
one_zero-requires c = tt

pub loop-i-preserved : goal.loop-i-preserved
loop-i-preserved c =
    let v = c.loop-i.invariant in
    (omega arith, simp length-set v.1, rw (v.2, c.one_zero.ensures) (filled_more _ _ _ _ zero-le nan (omega arith)))

pub slice_bounds-sort_by_bits-end : goal.slice_bounds-sort_by_bits-end
slice_bounds-sort_by_bits-end c = sym c.loop-i.invariant.1

pub sort_by_bits-requires : goal.sort_by_bits-requires
sort_by_bits-requires c = tt

pub returns : goal.returns
returns c =
    let xs = c.args.values.now in
    let v = c.loop-i.invariant in
    let e : c.loop-i.i ≡ 21 = omega arith in
    c.sort_by_bits.ensures
    ∙ ap sort (v.2 ∙ ap (filled (rule xs) _ 0) e ∙ filled-all (rule xs) _ 21 refl ∙ rule-is xs 21 c.requires)
