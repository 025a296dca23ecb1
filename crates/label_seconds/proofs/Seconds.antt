-- How long a time is. Assumes nothing.
use mathlib.Core.Path.{◌≡◌, ◌∙◌}
use mathlib.Core.List.{[], ◌∷◌, ◌++◌}
use Prim.Native.Nat.{ℕ, ◌+◌, ◌/◌, ◌%◌}
use native.Mathlib.Omega.{arith}
use lib.ListN.{length, length-append}
use Rattle.texts.specs.Decimals.{decimal}
use Rattle.label_seconds.specs.Seconds.{dot, padded, seconds_text}
use Rattle.label_seconds.proofs.Padded.{padded-length}

pub seconds_length : (u : ℕ) → length (seconds_text u) ≡ length (decimal (u / 1000000)) + 7
unfolding seconds_text
seconds_length u =
    length-append (decimal (u / 1000000)) ((dot ∷ []) ++ padded 6 (u % 1000000)) ∙ (omega (arith, padded-length 6 (u % 1000000)))
