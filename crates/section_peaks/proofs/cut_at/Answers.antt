-- `section_peaks::cut_at` meets its contract: the entry of the sorted list from which on all that is taken stands (`cut_room`, `cut_is`). Assumes nothing.
use mathlib.Core.Path.{refl}
use Rattle.section_peaks.proofs.Cuts.{cut_room, cut_is}
use Rattle.section_peaks.proofs.cut_at.Goals as goal

pub overflow_sub-spare-2 : goal.overflow_sub-spare-2
overflow_sub-spare-2 c =
    cut_room _ _ c.requires.1 c.requires.0 _ _ c.sort_by_bits.ensures c.at_most.ensures

pub returns : goal.returns
returns c =
    cut_is _ _ c.requires.1 c.requires.0 _ _ c.sort_by_bits.ensures c.at_most.ensures _ refl refl
