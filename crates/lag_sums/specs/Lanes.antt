-- Lag sums side by side: the words for the inner steps of the fast form. No call of the library is promised in them.
use Rattle.std.specs.Prelude.{ℕ, ◌+◌, List, [], ◌∷◌, get_or, Float}
use Rattle.std.specs.Float.{nan}
use Rattle.numbers.specs.Rounded.{◌⊕◌, ◌⊗◌, sum_of}
use Rattle.numbers.specs.Lists.{curve}
use Rattle.lag_sums.specs.declared.abreast.Eight.{Eight}
use Rattle.lag_sums.specs.declared.abreast.ThirtyTwo.{ThirtyTwo}
use Rattle.lag_sums.specs.Sums.{centred, product_at}

-- eight entries of a rule, from entry i on
abbrev pub eight_by : (ℕ → Float) → ℕ → Eight
eight_by r i =
    record { a = r i; b = r (i + 1); c = r (i + 2); d = r (i + 3); e = r (i + 4); f = r (i + 5); g = r (i + 6); h = r (i + 7) }

-- the sums over the times below t: at eight lags from `lag` on, and at thirty-two
unfoldable pub eight_sums : List Float → Float → ℕ → ℕ → Eight
unfolding product_at
eight_sums env mean lag t = eight_by (λ l. sum_of (curve (product_at env mean l) t)) lag

unfoldable pub thirty_two_sums : List Float → Float → ℕ → ℕ → ThirtyTwo
unfolding eight_sums
thirty_two_sums env mean lag t =
    record { a = eight_sums env mean lag t; b = eight_sums env mean (lag + 8) t; c = eight_sums env mean (lag + 16) t; d = eight_sums env mean (lag + 24) t }

-- the sums s with one product more each: that of v with eight values y
abbrev pub eight_more : Eight → Float → Eight → Eight
eight_more s v y =
    record {
      a = s.a ⊕ v ⊗ y.a;
      b = s.b ⊕ v ⊗ y.b;
      c = s.c ⊕ v ⊗ y.c;
      d = s.d ⊕ v ⊗ y.d;
      e = s.e ⊕ v ⊗ y.e;
      f = s.f ⊕ v ⊗ y.f;
      g = s.g ⊕ v ⊗ y.g;
      h = s.h ⊕ v ⊗ y.h;
    }

-- the centred slots from `from` on
abbrev pub centred_from : List Float → Float → ℕ → ℕ → Float
centred_from env mean from i = centred env mean (from + i)

-- entry i of a list
abbrev pub entry : List Float → ℕ → Float
entry xs i = get_or xs i nan

-- the sums s with a product more for each value of a list: that of the value with eight entries of another list, from entry i on and
-- then one further each time
unfoldable pub eight_run : Eight → List Float → List Float → ℕ → Eight
eight_run s [] later i = s
eight_run s (v ∷ vs) later i = eight_run (eight_more s v (eight_by (entry later) i)) vs later (i + 1)

unfoldable pub thirty_two_run : ThirtyTwo → List Float → List Float → ThirtyTwo
unfolding eight_run
thirty_two_run s times later =
    record { a = eight_run s.a times later 0; b = eight_run s.b times later 8; c = eight_run s.c times later 16; d = eight_run s.d times later 24 }
