-- The library's version, of which a caller can hold the header that it was compiled with to the library that it runs with.
use Rattle.std.specs.Prelude.{ℕ, ◌+◌, ◌*◌}

-- 0.2.0, as one number that grows with each version
abbrev pub version : ℕ
version = 0 * 1000000 + 2 * 1000 + 0
