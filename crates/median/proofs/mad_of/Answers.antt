-- `median::mad_of` meets its contract, as `median::median_of` does; the test of the given median is the one its number speaks of. Assumes nothing.
use mathlib.Core.Path.{◌≡◌, sym, ◌∙◌, ap}
use mathlib.Core.Bool.{Bool}
use Prim.Native.Nat.{ℕ}
use mathlib.Core.List.{List}
use lib.Ieee.{Float}
use Rattle.numbers.specs.Limits.{value_fine}
use Rattle.median.specs.Answers.{refusal_of, mad_refusal}
use Rattle.median.proofs.Told.{told_on, told-value, told_lengths}
use Rattle.median.proofs.mad_of.Goals as goal

-- the number with the test that was made is the number of the call
judged : (xs : List Float) (m : Float) (room : ℕ) (b : Bool) → b ≡ value_fine m → refusal_of xs b room ≡ mad_refusal xs m room
judged xs m room b e = ap (λ (t : Bool). refusal_of xs t room) e

pub returns-in_err-refusal : goal.returns-in_err-refusal
returns-in_err-refusal c = told_on _ _ _ c.from_residual.ensures.1 (c.in_err-refusal.ensures ∙ judged _ _ _ _ c.value_fine.ensures)

pub mad_in-requires : goal.mad_in-requires
mad_in-requires c = told_lengths _ _ _ (sym c.in_ok-refusal.ensures)

pub returns : goal.returns
returns c = told-value _ (sym (judged _ _ _ _ c.value_fine.ensures) ∙ sym c.in_ok-refusal.ensures) c.mad_in.ensures
