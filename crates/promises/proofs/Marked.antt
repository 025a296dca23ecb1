-- The marked numbers of document 01: every case of the list holds, by computing on the definitions. Assumes nothing.
use mathlib.Core.Path.{refl}
use lib.Ieee.{add, sub, mul, div, neg, lt, le, of_int, of_bits, to_bits}
use Rattle.numbers.specs.Rounded.{sum_from}
use Rattle.sizes.specs.Sizes.{Each, none, more}
use Rattle.floats.specs.TotalOrder.{turned, key}
use Rattle.median.specs.Median.{insert, sort, median_of}
use Rattle.onsets.specs.Peaks.{bests, suppressed}
use Rattle.lags.specs.Lags.{lag_range}
use Rattle.lags.specs.Pairs.{apart, agrees}
use Rattle.beats.specs.Grids.{grid_of}
use Rattle.lists.specs.Greatest.{greatest, first_greatest}
use Rattle.bars.specs.Downbeats.{beat_flux, in_phase, phase_sum, downbeat_phase, downbeats_of}
use Rattle.promises.specs.Marked.{valued, Holds, marked}

pub all_hold : Each Holds marked
unfolding median_of sort insert key turned to_bits of_int valued suppressed bests lag_range of_bits div mul add sub neg lt le apart agrees grid_of sum_from
    downbeats_of downbeat_phase first_greatest greatest phase_sum in_phase beat_flux
all_hold =
    more refl (more refl (more refl (more refl (more refl (more refl (more refl (more refl (more refl (more refl (more refl (more refl (
    more refl (more refl (more refl (more refl (more refl (more refl (more refl (more refl (more refl (more refl (more refl (more refl (
    more refl (more refl (more refl none))))))))))))))))))))))))))
