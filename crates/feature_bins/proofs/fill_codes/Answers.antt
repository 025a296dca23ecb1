use mathlib.Core.Path.{sym, ap, ◌∙◌}
use mathlib.Core.List.{List}
use Prim.Native.Nat.{ℕ}
use native.Mathlib.Omega.{arith}
use lib.ListN.{length-set, get_or}
use Rattle.numbers.proofs.Tabs.{filled_none, filled_more, get_or_filled_in}
use Rattle.feature_bins.specs.Bins.{code_at}
use Rattle.feature_bins.proofs.fill_codes.Goals as goal

pub loop-k-init : goal.loop-k-init
loop-k-init c = (omega arith, c.requires, sym (filled_none _ _ _))

pub overflow_mul-codes : goal.overflow_mul-codes
overflow_mul-codes c = omega (arith, c.class_slot.ensures.1)

pub overflow_add-codes : goal.overflow_add-codes
overflow_add-codes c = omega (arith, c.class_slot.ensures.1, c.band_of.ensures.1)

pub loop-k-preserved : goal.loop-k-preserved
unfolding code_at
loop-k-preserved c = let a = c.args in (
  omega arith,
  simp length-set c.loop-k.invariant.1,
  rw (c.loop-k.invariant.2, c.class_slot.ensures.0, c.band_of.ensures.0, c.bin_hz-hz.ensures)
      (filled_more (code_at a.rate) a.codes.now 0 c.loop-k.k (omega arith) 0 (omega (arith, c.requires))),
)

pub returns : goal.returns
returns c = record {
  whole = c.loop-k.invariant.1;
  code = λ k h.
      ap (λ (x : List ℕ). get_or x k 0) c.loop-k.invariant.2
      ∙ get_or_filled_in (code_at c.args.rate) c.args.codes.now 0 c.loop-k.k (omega arith) (omega (arith, c.requires)) k 0
      (omega arith) (omega arith);
}
