-- Document 02, No. 6: "10 for a time .. that is no listed frame's": the one frame that can have a time, and whether it has it.
use Rattle.std.specs.Prelude.{ℕ, ◌+◌, ◌-◌, ◌*◌, ◌/◌, Bool, ◌&&◌, leb, eqb}
use Rattle.numbers.specs.Limits.{most_frame}
use Rattle.numbers.specs.Rounded.{pick}
use Rattle.times.specs.Micros.{microseconds}
use Rattle.lists.specs.declared.Reading.{Reading}
use Rattle.lists.specs.Grids.{next_read, missed}

-- the least frame whose time is at least u: no other can have the time u, since no two frames share a microsecond
unfoldable pub frame_for : (u rate : ℕ) → ℕ
frame_for u rate = (u * (rate * 2) - (1024000000 + rate) + 511999999) / 512000000

-- u is the time of a listed frame
unfoldable pub time_fine : (rate u : ℕ) → Bool
unfolding microseconds frame_for
time_fine rate u = leb (frame_for u rate) most_frame && eqb (microseconds (frame_for u rate) rate) u

-- one time more that is read
unfoldable pub time_read : (rate : ℕ) → Reading → (u : ℕ) → Reading
time_read rate j u = pick (time_fine rate u) (next_read j (frame_for u rate)) (missed j)
