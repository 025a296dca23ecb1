-- `report_npy::value_of` meets its contract: a pattern above infinity's is the NaN, any other is passed as it is. Assumes nothing.
use mathlib.Core.Path.{sym, ap, ◌∙◌}
use lib.Ieee.{binary32, of_bits}
use Rattle.report_npy.proofs.Patterns.{no_nan_pattern, above_is_nan, nan_pattern}
use Rattle.report_npy.proofs.value_of.Goals as goal

pub float_from_bits-result : goal.float_from_bits-result
float_from_bits-result c = rw (no_nan_pattern _ c.if-word-gt2139095040.false) tt

pub returns-then-word-gt2139095040 : goal.returns-then-word-gt2139095040
returns-then-word-gt2139095040 c = nan_pattern ∙ sym (above_is_nan _ c.if-word-gt2139095040.true) ∙ ap (of_bits binary32) c.word_of-word.ensures

pub returns-else-word-gt2139095040 : goal.returns-else-word-gt2139095040
returns-else-word-gt2139095040 c = ap (of_bits binary32) c.word_of-word.ensures
