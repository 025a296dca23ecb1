-- The definitions computed on a few numbers. Assumes nothing.
use mathlib.Core.Path.{◌≡◌, refl}
use mathlib.Core.List.{[], ◌∷◌}
use Rattle.texts.specs.Decimals.{decimal}

-- 8000 in decimal, and 0
eight_thousand : decimal 8000 ≡ 56 ∷ 48 ∷ 48 ∷ 48 ∷ []
unfolding decimal
eight_thousand = refl

nought-written : decimal 0 ≡ 48 ∷ []
unfolding decimal
nought-written = refl
