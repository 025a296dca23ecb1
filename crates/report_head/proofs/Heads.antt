-- What two bytes can state. Assumes nothing.
use mathlib.Core.Path.{◌≡◌}
use mathlib.Core.Bool.{Bool, true, false, ◌&&◌}
use mathlib.Core.List.{List}
use Prim.Native.Nat.{ℕ, ◌+◌, ◌*◌, ◌≤◌, ◌<◌}
use native.Mathlib.Omega.{arith}
use lib.Dec.{leb}
use lib.ListN.{length, get_or}
use Rattle.std.specs.Prelude.{Some, None}
use Rattle.numbers.specs.Rounded.{pick}
use Rattle.texts.specs.Texts.{starts}
use Rattle.report_npy.specs.Header.{magic, preamble_of}
use Rattle.report_head.specs.Heads.{most_text}

-- a length of two bytes
pub stated_fits : (bytes : List ℕ) → get_or bytes 8 0 < 256 → get_or bytes 9 0 < 256 → (size : ℕ) → preamble_of bytes ≡ Some size → size ≤ most_text
unfolding preamble_of
stated_fits bytes h k size e = go (starts magic bytes && leb 10 (length bytes)) e
  where
    go : (b : Bool) → pick b (Some (get_or bytes 8 0 + get_or bytes 9 0 * 256)) None ≡ Some size → size ≤ most_text
    go true e = let f : get_or bytes 8 0 + get_or bytes 9 0 * 256 ≡ size = cc in omega arith
    go false e = let z : ◌≡◌ {A = ℕ} 0 1 = cc in absurd (omega arith)
