-- Document 02, No. 6: "seconds with no needless zeros in front and six decimals".
use Rattle.std.specs.Prelude.{ℕ, zero, suc, ◌/◌, ◌%◌, List, [], ◌∷◌, ◌++◌}
use Rattle.texts.specs.Decimals.{digit_of, decimal}

-- `.`
abbrev pub dot : ℕ
dot = 46

-- the last k digits of n, with zeros in front
unfoldable pub padded : (k n : ℕ) → List ℕ
padded zero n = []
padded (suc k) n = padded k (n / 10) ++ (digit_of (n % 10) ∷ [])

-- microseconds as seconds with six decimals
unfoldable pub seconds_text : ℕ → List ℕ
unfolding decimal padded
seconds_text u = decimal (u / 1000000) ++ ((dot ∷ []) ++ padded 6 (u % 1000000))
