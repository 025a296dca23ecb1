-- What an answer of `bar_beat_at` says tells which answer it is, so its promise permits one. Assumes nothing.
use mathlib.Core.Path.{◌≡◌, refl, sym, ap}
use mathlib.Core.List.{List, [], ◌∷◌}
use Prim.Native.Nat.{ℕ}
use native.Mathlib.Omega.{arith}
use Rattle.bars.specs.declared.BarBeat.{BarBeat}
use Rattle.bars.specs.declared.BarBeat.TheVariants.{Nowhere, At}
use Rattle.bars.specs.BarBeats.{bar_beat_says}

same-values : {m n : ℕ} {x y : List ℕ} → ◌≡◌ {A = ℕ × List ℕ} (m, x) (n, y) → x ≡ y
same-values e = ap (λ (said : ℕ × List ℕ). said.1) e

-- a place has values, nowhere has none
apart : {bar beat : ℕ} → [] ≡ bar ∷ beat ∷ [] → ⊥
apart e = let z : ◌≡◌ {A = ℕ} 0 1 = cc in omega arith

pub says_one : (a b : BarBeat) → bar_beat_says a ≡ bar_beat_says b → a ≡ b
says_one Nowhere Nowhere e = refl
says_one (At bar beat) (At bar' beat') e = cc (same-values e)
says_one Nowhere (At bar beat) e = absurd (apart (same-values e))
says_one (At bar beat) Nowhere e = absurd (apart (sym (same-values e)))
