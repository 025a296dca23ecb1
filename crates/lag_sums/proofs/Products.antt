-- The sum of centred products a lag apart, one time more. Assumes nothing.
use mathlib.Core.Path.{◌≡◌, sym, ap, ◌∙◌}
use mathlib.Core.List.{List, [], ◌∷◌}
use Prim.Native.Nat.{ℕ, ◌+◌}
use native.Mathlib.Nat.{zero-add}
use native.Mathlib.Numerals.{add-one}
use lib.Ieee.{Float}
use Rattle.numbers.specs.Rounded.{◌⊕◌, ◌⊗◌, nought, sum_from, sum_of}
use Rattle.numbers.specs.Lists.{tab, curve}
use Rattle.numbers.proofs.Tabs.{tab_snoc}
use Rattle.numbers.proofs.Sums.{sum-append}
use Rattle.lag_sums.specs.Sums.{centred, product_at}

-- the sum of a rule over one time more
pub sum_next : (f : ℕ → Float) (t : ℕ) → sum_of (curve f t) ⊕ f t ≡ sum_of (curve f (t + 1))
unfolding sum_from
sum_next f t =
    sym (ap (λ (k : ℕ). sum_of (tab f 0 k)) (add-one t)
    ∙ ap sum_of (tab_snoc f 0 t)
    ∙ sum-append nought (tab f 0 t) (f (0 + t) ∷ [])
    ∙ ap (λ (k : ℕ). sum_of (tab f 0 t) ⊕ f k) (zero-add t))

module _ (env : List Float) (mean : Float) where
  -- the sum at a lag over the times below t
  abbrev pub sum_to : ℕ → ℕ → Float
  sum_to lag t = sum_of (curve (product_at env mean lag) t)

  pub product_next : (lag t at : ℕ) → at ≡ t + lag → sum_to lag t ⊕ centred env mean t ⊗ centred env mean at ≡ sum_to lag (t + 1)
  unfolding product_at
  product_next lag t at e = ap (λ (k : ℕ). sum_to lag t ⊕ centred env mean t ⊗ centred env mean k) e ∙ sum_next (product_at env mean lag) t
