-- `report::stream::take_row` meets its contract: no value was fine before, or one of this row's is not, or slot t is the flux of the two rows kept.
-- Assumes nothing.
use mathlib.Core.Path.{◌≡◌, refl, sym, ap, ◌∙◌}
use mathlib.Core.Bool.{Bool}
use mathlib.Core.List.{List, ◌++◌}
use Prim.Native.Nat.{ℕ, ◌*◌, ◌-◌, min}
use native.Mathlib.Omega.{arith}
use borrow.Author.Tests.{not-true, not-false}
use lib.Ieee.{Float}
use lib.ListN.{length, take, drop, set, length-drop, length-append}
use Rattle.numbers.proofs.Everys.{every_append, every_drop}
use Rattle.numbers.proofs.Tests.{and-held, and_failed}
use Rattle.numbers.specs.Limits.{magnitude_fine, slab_of}
use Rattle.numbers.specs.Lists.{every}
use Rattle.flux.specs.Flux.{flux_at}
use Rattle.report.specs.Input.{values_of}
use Rattle.report.proofs.Rows.{kept_part}
use Rattle.report.proofs.Values.{length-values}
use mathlib.Core.Bool.{not}
use Rattle.report.proofs.stream.take_row.Goals as goal

-- the rows that are kept, and their lengths
row-length : (bytes : List ℕ) (bins : ℕ) → length bytes ≡ bins * 4 → length (values_of bytes) ≡ bins
row-length bytes bins e = length-values bytes ∙ omega arith

before-length : (kept : List Float) (bins : ℕ) → length kept ≡ 2 * bins → length (drop bins kept) ≡ bins
before-length kept bins e = simp length-drop (omega arith)

-- the test of the second row is the test of the bytes' values
part_fine : (kept whole : List Float) (bytes : List ℕ) (bins : ℕ) (b : Bool) → length kept ≡ 2 * bins → length bytes ≡ bins * 4
    → whole ≡ drop bins kept ++ values_of bytes → b ≡ every magnitude_fine (take (length whole - bins) (drop bins whole))
    → b ≡ every magnitude_fine (values_of bytes)
part_fine kept whole bytes bins b e h w f =
    f ∙ ap (every magnitude_fine) (kept_part whole (drop bins kept) (values_of bytes) bins (before-length kept bins e) (row-length bytes bins h) w)

pub returns-then-not-fine : goal.returns-then-not-fine
returns-then-not-fine c =
    let off = not-true c.args.fine (ap not c.if-not-fine.true) in
    record { fine_is = sym off ∙ and_failed _ _ off; kept_is = c.keep_row.ensures; flux_is = refl }

pub returns-then-not-magnitudes_fine : goal.returns-then-not-magnitudes_fine
returns-then-not-magnitudes_fine c =
    let on = not-false c.args.fine (ap not c.if-not-fine.false) in
    let off = not-true c.magnitudes_fine.result (ap not c.if-not-magnitudes_fine.true) in
    let told = part_fine c.args.kept.now _ c.args.bytes.now c.args.bins _ c.requires.bytes_len.1 c.requires.bytes_len.0
    c.keep_row.ensures c.magnitudes_fine.ensures in
    record { fine_is = sym off ∙ told ∙ and-held c.args.fine _ on; kept_is = c.keep_row.ensures; flux_is = refl }

pub invariant_of-pair : goal.invariant_of-pair
invariant_of-pair c =
    let kept = c.args.kept.now in
    let bytes = c.args.bytes.now in
    let bins = c.args.bins in
    let on = not-false c.args.fine (ap not c.if-not-fine.false) in
    let passed = not-false c.magnitudes_fine.result (ap not c.if-not-magnitudes_fine.false) in
    let told = part_fine kept _ bytes bins _ c.requires.bytes_len.1 c.requires.bytes_len.0 c.keep_row.ensures c.magnitudes_fine.ensures in
    let d = before-length kept bins c.requires.bytes_len.1 in
    let v = row-length bytes bins c.requires.bytes_len.0 in record {
      whole = ap length c.keep_row.ensures ∙ length-append (drop bins kept) (values_of bytes) ∙ omega arith;
      fine = ap (every magnitude_fine) c.keep_row.ensures
          ∙ every_append magnitude_fine (drop bins kept) (values_of bytes) (every_drop magnitude_fine kept bins (c.requires.kept_value on)) (sym told ∙ passed);
    }

pub flux_slot-requires : goal.flux_slot-requires
flux_slot-requires c = omega (arith, c.min.ensures)

pub returns : goal.returns
returns c =
    let bins = c.args.bins in
    let on = not-false c.args.fine (ap not c.if-not-fine.false) in
    let passed = not-false c.magnitudes_fine.result (ap not c.if-not-magnitudes_fine.false) in
    let told = part_fine c.args.kept.now _ c.args.bytes.now bins _ c.requires.bytes_len.1 c.requires.bytes_len.0
    c.keep_row.ensures c.magnitudes_fine.ensures in
    record {
      fine_is = sym passed ∙ told ∙ and-held c.args.fine _ on;
      kept_is = c.keep_row.ensures;
      flux_is = ap (set c.args.flux.now c.args.t) (c.flux_slot.ensures
          ∙ ap (flux_at _ (slab_of 2 bins)) c.min.ensures ∙ ap (λ (r : List Float). flux_at r (slab_of 2 bins) (min c.args.t 1))
          c.keep_row.ensures);
    }
