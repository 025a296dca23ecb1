-- `bars::bar_beat_at` meets its contract: bar 0 is nowhere and has no values, and any other is one more than its downbeat's place. Assumes nothing.
use mathlib.Core.Path.{◌≡◌, refl, sym, ap, ◌∙◌}
use mathlib.Core.List.{List}
use Prim.Native.Nat.{ℕ, zero, suc, ◌<◌, ◌-◌, max}
use native.Mathlib.Omega.{arith}
use lib.ListN.{length, get_or}
use lib.Ieee.{Float, nan}
use Rattle.numbers.specs.Rounded.{◌⊕◌, ◌⊖◌}
use Rattle.bars.specs.declared.BarBeat.TheVariants.{Nowhere, At}
use Rattle.bars.specs.BarBeats.{slack, last_bar, during, passing, beat_in, bar_beat_says, in_bar, bar_and_beat}
use Rattle.bars.proofs.bar_beat_at.Goals as goal

module _ (time : Float) (downbeats beats : List Float) (bar : ℕ) (e : bar ≡ last_bar (time ⊕ slack) downbeats (length downbeats)) where
  nowhere : bar ≡ 0 → bar_beat_says Nowhere ≡ (0, bar_and_beat time downbeats beats)
  unfolding bar_and_beat in_bar
  nowhere z = ap (λ (k : ℕ). (0, in_bar k time downbeats beats)) (sym z ∙ e)

  at : (heard beat : ℕ) → 0 < bar → heard ≡ passing (during (get_or downbeats (bar - 1) nan ⊖ slack) (time ⊕ slack)) beats → beat ≡ max 1 heard
      → bar_beat_says (At bar beat) ≡ (0, bar_and_beat time downbeats beats)
  unfolding bar_and_beat in_bar beat_in
  at heard beat h p q = go bar h refl
    where
      go : (k : ℕ) → 0 < k → bar ≡ k → bar_beat_says (At bar beat) ≡ (0, in_bar (last_bar (time ⊕ slack) downbeats (length downbeats)) time downbeats beats)
      go zero g z = absurd (omega arith)
      go (suc k) g z =
          let j : bar - 1 ≡ k = omega arith in
          ap (λ (b : ℕ). bar_beat_says (At b beat)) z
          ∙ ap (λ (b : ℕ). bar_beat_says (At (suc k) b))
          (q ∙ ap (max 1) (p ∙ ap (λ (i : ℕ). passing (during (get_or downbeats i nan ⊖ slack) (time ⊕ slack)) beats) j))
          ∙ ap (λ (b : ℕ). (0, in_bar b time downbeats beats)) (sym z ∙ e)

pub returns-then-bar-eq0 : goal.returns-then-bar-eq0
returns-then-bar-eq0 c = nowhere _ _ _ _ c.last_bar-bar.ensures.1 c.if-bar-eq0.true

pub returns : goal.returns
returns c =
    at _ _ _ _ c.last_bar-bar.ensures.1 c.beats_during-heard.result c.max.result (omega arith)
    c.beats_during-heard.ensures (omega arith)
