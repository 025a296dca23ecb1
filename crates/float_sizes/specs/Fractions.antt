-- Sizes in units of 2 ^ -20, where the whole numbers of the crate sizes are too coarse.
-- No promise of a call is written in these words: proofs use them.
use Rattle.std.specs.Prelude.{ℕ, ◌*◌, ◌^◌, ◌≤◌, Float}
use Rattle.std.specs.Float.{nan, inf, fin}
use Rattle.std.specs.Float.Ieee.{up, down}

-- |x| ≤ p / 2 ^ 20
abbrev pub parts_up_to : ℕ → Float → Type 0
parts_up_to p nan = ⊥
parts_up_to p (inf s) = ⊥
parts_up_to p (fin s m e) = m * up e * 2 ^ 20 ≤ p * down e

pub record Under (p : ℕ) (x : Float) : Type 0 where
  pub size : parts_up_to p x
