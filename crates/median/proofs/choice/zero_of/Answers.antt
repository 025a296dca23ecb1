use Prim.Native.Nat.{◌<◌}
use mathlib.Core.Path.{◌≡◌, ◌∙◌, sym, ap}
use native.Mathlib.Omega.{arith}
use lib.ListN.{length, take}
use borrow.Author.Tests.{lt-ltb, le-ltb}
use Rattle.numbers.proofs.Tests.{pick_true, pick-false}
use Rattle.median.specs.Ranks.{below}
use Rattle.median.specs.Choice.{plus_zero}
use Rattle.median.proofs.Choosing.{below_none, below-counts, below_skips}
use Rattle.median.proofs.choice.zero_of.Goals.{else-key_of-lt9223372036854775808, then-key_of-lt9223372036854775808}
use Rattle.median.proofs.choice.zero_of.Goals as goal

pub loop-i-init : goal.loop-i-init
loop-i-init c = (omega arith, omega arith, sym (below_none _ c.args.a.now))

pub key_of-requires : goal.key_of-requires
key_of-requires c = tt

pub loop-i-preserved : goal.loop-i-preserved
loop-i-preserved c =
    let xs = c.args.a.now in
    let i = c.loop-i.i in
    let l : i < length xs = omega (arith, c.requires) in
    let k = c.key_of.ensures in
    elim c.if-key_of-lt9223372036854775808.branch [ then-key_of-lt9223372036854775808 w ↦ let e = below-counts plus_zero xs i l (omega (arith, k, w.if-key_of-lt9223372036854775808.true)) in omega (arith, e) | else-key_of-lt9223372036854775808 w ↦ let e = below_skips plus_zero xs i l (omega (arith, k, w.if-key_of-lt9223372036854775808.false)) in omega (arith, e) ]

pub returns-then-rank-n : goal.returns-then-rank-n
returns-then-rank-n c =
    let e : c.loop-i.i ≡ c.args.m = omega arith in
    let n : c.loop-i.n ≡ below plus_zero (take c.args.m c.args.a.now) =
    c.loop-i.invariant.2 ∙ ap (λ i. below plus_zero (take i c.args.a.now)) e in
    sym (pick_true _ _ _ (lt-ltb c.args.rank (below plus_zero (take c.args.m c.args.a.now)) (omega (arith, n))))

pub returns : goal.returns
returns c =
    let e : c.loop-i.i ≡ c.args.m = omega arith in
    let n : c.loop-i.n ≡ below plus_zero (take c.args.m c.args.a.now) =
    c.loop-i.invariant.2 ∙ ap (λ i. below plus_zero (take i c.args.a.now)) e in
    sym (pick-false _ _ _ (le-ltb c.args.rank (below plus_zero (take c.args.m c.args.a.now)) (omega (arith, n))))
