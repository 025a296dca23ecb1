-- `patch_features::is_touched` meets its contract: each return rewrites the chain of tests with those that led to it. Assumes nothing.
use mathlib.Core.Path.{sym, ◌∙◌}
use Rattle.patch_features.proofs.Touched.{or-held}
use Rattle.patch_features.proofs.is_touched.Goals as goal

pub returns-then-is_replaced : goal.returns-then-is_replaced
returns-then-is_replaced c = c.if-is_replaced.true ∙ sym (or-held _ _ (sym c.is_replaced.ensures ∙ c.if-is_replaced.true))

pub returns-else-is_replaced : goal.returns-else-is_replaced
returns-else-is_replaced c = rw (sym c.is_replaced.ensures ∙ c.if-is_replaced.false) c.is_replaced-else-is_replaced.ensures
