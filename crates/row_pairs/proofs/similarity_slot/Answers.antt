-- `row_pairs::similarity_slot` meets its contract: past the end +0, and else the definition, call by call. Assumes nothing.
use mathlib.Core.Path.{◌≡◌, sym, ap, ◌∙◌}
use mathlib.Core.List.{List}
use Prim.Native.Nat.{◌+◌}
use native.Mathlib.Omega.{arith}
use borrow.Author.Rules.{rules}
use lib.Ieee.{Float}
use lib.ListN.{length}
use Rattle.numbers.proofs.Overs.{length-row}
use Rattle.roots.specs.Roots.{sqrt_of}
use Rattle.row_pairs.specs.Pairs.{feature_row}
use Rattle.row_pairs.proofs.Slots.{slot_past, slot_of_lem, dot-same, norm-is}
use Rattle.row_pairs.proofs.similarity_slot.Goals.{After-feature_row-other}
use Rattle.row_pairs.proofs.similarity_slot.Goals as goal

-- each row has sixteen values
sixteen : (c : After-feature_row-other) → (length c.feature_row-own.result.now ≡ 16) × (length c.feature_row-other.result.now ≡ 16)
sixteen c =
    let a = c.args in (
      ap length c.feature_row-own.ensures ∙ length-row a.features.now a.rows 16 a.i c.requires.0 c.requires.1,
      ap length c.feature_row-other.ensures ∙ length-row a.features.now a.rows 16 (a.i + a.d) c.requires.0 (omega arith),
    )

pub returns-then-rows-i : goal.returns-then-rows-i
returns-then-rows-i c = let a = c.args in sym (slot_past a.features.now a.rows a.i a.d (omega arith))

pub dot-requires : goal.dot-requires
dot-requires c = let r = sixteen (goal.at.dot-requires c).After-feature_row-other in search rules

pub dot-requires-2 : goal.dot-requires-2
dot-requires-2 c = let r = sixteen (goal.at.dot-requires-2 c).After-feature_row-other in search rules

pub dot-requires-3 : goal.dot-requires-3
dot-requires-3 c = let r = sixteen (goal.at.dot-requires-3 c).After-feature_row-other in search rules

pub returns : goal.returns
returns c =
    let a = c.args in
    let own : List Float = feature_row a.features.now a.i in
    let other : List Float = feature_row a.features.now (a.i + a.d) in
    let e : c.feature_row-own.result.now ≡ own = c.feature_row-own.ensures in
    let f : c.feature_row-other.result.now ≡ other = c.feature_row-other.ensures in
    c.settle.ensures
    ∙ slot_of_lem a.features.now a.rows a.i a.d (omega arith) c.dot-3.result c.sqrt-norm.result c.sqrt-norm2.result
    (c.dot-3.ensures ∙ dot-same _ _ own other e f)
    (c.sqrt-norm.ensures ∙ ap sqrt_of (c.dot.ensures ∙ dot-same _ _ own own e e) ∙ norm-is own)
    (c.sqrt-norm2.ensures ∙ ap sqrt_of (c.dot-2.ensures ∙ dot-same _ _ other other f f) ∙ norm-is other)
