use Prim.Native.Nat.{◌+◌, ◌≤◌, ◌<◌}
use mathlib.Core.Path.{◌≡◌, ◌∙◌, sym, ap, subst}
use native.Mathlib.Omega.{arith}
use lib.ListN.{length, get_or, take}
use lib.Dec.{T}
use lib.Ieee.{nan, binary64, fits}
use Rattle.median.specs.Ranks.{below}
use Rattle.median.specs.Choice.{first_key, past_key}
use Rattle.median.proofs.Levels.{lt_first, not_lt_first, le_past, not_le_past}
use Rattle.median.proofs.Choosing.{below_none, below-counts, below_skips}
use Rattle.median.proofs.choice.counted.Goals.{else-x-high, else-x-low, then-x-high, then-x-low}
use Rattle.median.proofs.choice.counted.Goals as goal

pub loop-i-init : goal.loop-i-init
loop-i-init c = (omega arith, omega arith, omega arith, sym (below_none _ c.args.a.now), sym (below_none _ c.args.a.now))

pub loop-i-preserved : goal.loop-i-preserved
loop-i-preserved c =
    let xs = c.args.a.now in
    let i = c.loop-i.i in
    let low = c.args.low in
    let high = c.args.high in
    let fx : T (fits binary64 (get_or xs i nan)) = c.shared_slice_known-1.given i in
    let fl : T (fits binary64 low) = subst T (sym c.well_formed.1.1.0.1) tt in
    let fh : T (fits binary64 high) = subst T (sym c.well_formed.1.1.1.0.1) tt in
    let l : i < length xs = omega (arith, c.requires) in
    let first : (c.if-x-low.c ≤ i + 1) × (c.if-x-low.c ≡ below (first_key low) (take (i + 1) xs)) = elim c.if-x-low.branch [ then-x-low w ↦ let e = below-counts (first_key low) xs i l (lt_first (get_or xs i nan) low fx fl w.if-x-low.true) in omega (arith, e) | else-x-low w ↦ let e = below_skips (first_key low) xs i l (not_lt_first (get_or xs i nan) low fx fl w.if-x-low.false) in omega (arith, e) ] in
    let last : (c.if-x-high.d ≤ i + 1) × (c.if-x-high.d ≡ below (past_key high) (take (i + 1) xs)) = elim c.if-x-high.branch [ then-x-high w ↦ let e = below-counts (past_key high) xs i l (le_past (get_or xs i nan) high fx fh w.if-x-high.true) in omega (arith, e) | else-x-high w ↦ let e = below_skips (past_key high) xs i l (not_le_past (get_or xs i nan) high fx fh w.if-x-high.false) in omega (arith, e) ] in
    (omega arith, first.0, last.0, first.1, last.1)

pub returns : goal.returns
returns c =
    let v = c.loop-i.invariant in
    let e : c.loop-i.i ≡ c.args.m = omega arith in (
      v.3 ∙ ap (λ i. below (first_key c.args.low) (take i c.args.a.now)) e,
      v.4 ∙ ap (λ i. below (past_key c.args.high) (take i c.args.a.now)) e,
    )
