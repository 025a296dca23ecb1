-- An input as it is read, and the zeros that are kept before its first row. Assumes nothing.
use mathlib.Core.Path.{◌≡◌, refl}
use mathlib.Core.Bool.{true}
use mathlib.Core.List.{List, [], ◌++◌}
use Prim.Native.Nat.{ℕ, zero, suc, ◌*◌, ◌≤◌}
use lib.Ieee.{Float, binary32, of_bits, neg, le}
use lib.ListN.{length, replicate}
use Rattle.numbers.proofs.Tests.{and_both}
use Rattle.numbers.specs.Limits.{most_bins, magnitude_fine}
use Rattle.numbers.specs.Lists.{every}
use Rattle.report.specs.Input.{most_reported}
use Rattle.report_head.specs.declared.Feed.{Feed}
use Rattle.report_feed.specs.declared.Reading.{Reading}
use Rattle.report_feed.specs.Feeds.{held_room, Begins, Step, Closes}
use Rattle.report_read.specs.Reads.{Coming, InputRead}

zero-fine : magnitude_fine (of_bits binary32 0) ≡ true
unfolding magnitude_fine of_bits neg le
zero-fine = refl

pub zeros_fine : (n : ℕ) → every magnitude_fine (replicate n (of_bits binary32 0)) ≡ true
unfolding every
zeros_fine zero = refl
zeros_fine (suc n) = and_both (magnitude_fine (of_bits binary32 0)) _ zero-fine (zeros_fine n)

-- ---- what has come

pub coming_none : {feed : Feed} {held : List ℕ} {kept was : List Float} → Begins feed
    → (held_room ≤ length held) × (2 * most_bins ≤ length kept) × (most_reported ≤ length was) × (every magnitude_fine kept ≡ true) → Coming feed held kept was was
coming_none {feed} {held} {kept} {was} b h = record { input = []; fed = b.fed held kept was h.0 h.1 h.2 h.3 }

pub coming_more : {bytes : List ℕ} {feed feed' : Feed} {held held' : List ℕ} {kept kept' was flux flux' : List Float}
    → Step bytes feed held kept flux feed' held' kept' flux'
    → Coming feed held kept was flux → Coming feed' held' kept' was flux'
coming_more {bytes} {was = was} s come = record { input = come.input ++ bytes; fed = s.fed come.input was come.fed }

pub coming_told : {feed : Feed} {held : List ℕ} {kept was flux : List Float} {answer : Reading} → Closes feed answer → Coming feed held kept was flux
    → InputRead was answer flux
coming_told {feed} {held} {kept} {was} {flux} c come = record { input = come.input; told = c.tells come.input held kept was flux come.fed }
