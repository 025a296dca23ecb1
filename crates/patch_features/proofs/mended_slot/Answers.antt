-- `patch_features::mended_slot` meets its contract: the test of the pair chooses between the slot by itself and the lent one. Assumes nothing.
use mathlib.Core.Path.{sym, ◌∙◌}
use Rattle.numbers.proofs.Tests.{pick_true, pick-false}
use Rattle.patch_features.proofs.Touched.{slot_is, touched-is}
use Rattle.patch_features.proofs.mended_slot.Goals as goal

pub returns-then-is_touched : goal.returns-then-is_touched
returns-then-is_touched c = c.similarity_slot.ensures ∙ sym (slot_is _ _ _)
    ∙ sym (pick_true _ _ _ (touched-is _ _ _ _ c.is_touched.ensures ∙ c.if-is_touched.true))

pub returns : goal.returns
returns c = sym (pick-false _ _ _ (touched-is _ _ _ _ c.is_touched.ensures ∙ c.if-is_touched.false))
