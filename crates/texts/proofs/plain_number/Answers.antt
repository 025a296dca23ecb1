-- `texts::plain_number` meets its contract: no digit, one digit, several, of which the first is that of the text. Assumes nothing.
use mathlib.Core.Path.{◌≡◌, sym, ap, ◌∙◌}
use mathlib.Core.Bool.{not}
use Prim.Native.Nat.{ℕ}
use native.Mathlib.Nat.{add-zero}
use native.Mathlib.Omega.{arith}
use lib.Dec.{eqb}
use lib.ListN.{get_or, drop, length-drop}
use lib.Seq.{get_or-drop}
use Rattle.texts.specs.Decimals.{leading}
use Rattle.texts.proofs.Texts.{leading-fits, leading-first, plain-none, plain-one, plain_several}
use Rattle.texts.proofs.plain_number.Goals as goal

pub returns-in-0 : goal.returns-in-0
returns-in-0 c = let ds = leading (drop c.args.at c.args.text.now) in
    sym (plain-none ds (omega arith))

pub returns-in-1 : goal.returns-in-1
returns-in-1 c = let ds = leading (drop c.args.at c.args.text.now) in
    sym (plain-one ds (omega arith))

pub bounds-text-at : goal.bounds-text-at
bounds-text-at c = let rest = drop c.args.at c.args.text.now in
    omega (arith, leading-fits rest, length-drop c.args.at c.args.text.now)

pub returns-in_default : goal.returns-in_default
returns-in_default c = let text = c.args.text.now in
    let at = c.args.at in
    let rest = drop at text in
    let first : get_or (leading rest) 0 0 ≡ get_or text at 0
    = leading-first rest (omega arith) ∙ get_or-drop at text 0 0 ∙ ap (λ (k : ℕ). get_or text k 0) (add-zero at) in
    sym (plain_several (leading rest) (omega arith) ∙ ap (λ (x : ℕ). not (eqb x 48)) first)
