use mathlib.Core.Path.{◌≡◌, refl, sym, ap, ◌∙◌}
use mathlib.Core.List.{List, [], ◌∷◌}
use Prim.Native.Nat.{ℕ, ◌+◌, min}
use native.Mathlib.Omega.{arith}
use lib.ListN.{drop, get_or}
use Rattle.texts.specs.Decimals.{leading, number_from}
use Rattle.texts.proofs.Texts.{leading_end, leading_digit, leading_other, held_more, held_none}
use Rattle.texts.proofs.number_at.Goals as goal
use Rattle.texts.proofs.number_at.Goals.{At-loop-x}

pub loop-x-init : goal.loop-x-init
loop-x-init c = record { held = omega arith; number = refl }

-- where no digit is left, v is the number
ended : (c : At-loop-x) → leading (drop c.loop-x.x-index c.rest_of-x-items.result.now) ≡ []
    → c.loop-x.v ≡ min (number_from 0 (leading (drop c.args.at c.args.text.now))) c.args.most
ended c e =
    sym (ap (λ (r : List ℕ). min (number_from 0 (leading r)) c.args.most) (sym c.rest_of-x-items.ensures)
    ∙ c.loop-x.invariant.number
    ∙ ap (λ (r : List ℕ). min (number_from c.loop-x.v r) c.args.most) e
    ∙ held_none c.args.most c.loop-x.v c.loop-x.invariant.held)

pub returns-then-not-is_ascii_digit : goal.returns-then-not-is_ascii_digit
returns-then-not-is_ascii_digit c =
    ended ((goal.at.returns-then-not-is_ascii_digit c).At-loop-x)
    (leading_other c.rest_of-x-items.result.now c.loop-x.x-index (omega arith) (cc))

pub loop-x-preserved : goal.loop-x-preserved
loop-x-preserved c =
    let rest = c.rest_of-x-items.result.now in
    let x = get_or rest c.loop-x.x-index 0 in
    let left = leading (drop (c.loop-x.x-index + 1) rest) in
    let e : leading (drop c.loop-x.x-index rest) ≡ x ∷ left = leading_digit rest c.loop-x.x-index (omega arith) (cc) in
    record {
      held = omega (arith, c.one_more-v.ensures);
      number =
          c.loop-x.invariant.number
          ∙ ap (λ (r : List ℕ). min (number_from c.loop-x.v r) c.args.most) e
          ∙ held_more c.args.most x c.loop-x.v left
          ∙ ap (λ (w : ℕ). min (number_from w left) c.args.most) (sym c.one_more-v.ensures);
    }

pub returns : goal.returns
returns c = ended ((goal.at.returns c).At-loop-x) (leading_end c.rest_of-x-items.result.now c.loop-x.x-index (omega arith))
