-- `label_lines::line_fine` meets its contract, test by test. Assumes nothing.
use native.Mathlib.Omega.{arith}
use mathlib.Core.Path.{◌≡◌, refl, sym, ap, ◌∙◌}
use mathlib.Core.Bool.{true}
use mathlib.Core.List.{[], ◌∷◌}
use Prim.Native.Nat.{◌+◌, ◌-◌, ◌≤◌}
use lib.Dec.{eqb}
use lib.ListN.{length, take, drop, length-take, length-drop}
use borrow.Author.Tests.{eq-eqb, ne_eqb}
use Rattle.numbers.proofs.Tests.{and-held, and_failed}
use Rattle.texts.specs.Texts.{starts}
use Rattle.texts.specs.Decimals.{leading, plain}
use Rattle.texts.proofs.Texts.{fails, holds, starts-fits}
use Rattle.label_lines.proofs.Lines.{again, line_tests}
use borrow.Author.Rules.{rules}
use mathlib.Core.Bool.{not}
use Rattle.label_lines.proofs.line_fine.Goals.{Else-end-dot-ne7, Else-not-plain_number, Else-not-stands, Else-not-stands-2, Else-not-stands-3}
use Rattle.label_lines.proofs.line_fine.Goals as goal

-- what each test that passed says, at the place behind it
plain-holds : (c : Else-not-plain_number) → plain (leading (drop c.args.at c.args.text.now)) ≡ true
plain-holds c = holds _ _ c.plain_number.ensures (ap not c.if-not-plain_number.false)

dot_holds : (c : Else-not-stands) → starts (46 ∷ []) (drop c.digits_end-dot.result c.args.text.now) ≡ true
dot_holds c = holds _ _ c.stands.ensures (ap not c.if-not-stands.false)

end_is : (c : Else-end-dot-ne7) → c.digits_end-end.result ≡ c.digits_end-dot.result + 7
end_is c = omega (arith, c.if-end-dot-ne7.false, c.digits_end-end.ensures)

six-hold : (c : Else-end-dot-ne7) → eqb (length (leading (drop (c.digits_end-dot.result + 1) c.args.text.now))) 6 ≡ true
six-hold c =
    eq-eqb (length (leading (drop (c.digits_end-dot.result + 1) c.args.text.now))) 6 (omega (arith, end_is c, c.digits_end-end.ensures))

tab-holds : (c : Else-not-stands-2) → starts (9 ∷ []) (drop c.digits_end-end.result c.args.text.now) ≡ true
tab-holds c = holds _ _ c.stands-2.ensures (ap not c.if-not-stands-2.false)

again-holds : (c : Else-not-stands-3) → again c.args.text.now
    c.args.at
    c.digits_end-end.result ≡ true
again-holds c = holds _ _ c.stands-3.ensures (ap not c.if-not-stands-3.false)

-- the bytes are there
tab-there : (c : Else-not-stands-2) → c.digits_end-end.result + 1 ≤ length c.args.text.now
tab-there c =
    omega (
      arith,
      starts-fits (9 ∷ []) (drop c.digits_end-end.result c.args.text.now) (tab-holds c),
      length-drop
          c.digits_end-end.result c.args.text.now,
    )

starts-here : (c : Else-not-stands-2) → c.args.at ≤
    c.digits_end-end.result
starts-here c =
    let end_is-here : c.digits_end-end.result ≡ c.digits_end-dot.result + 7 = omega (arith, c.if-end-dot-ne7.false, c.digits_end-end.ensures) in
    omega (arith, c.digits_end-dot.ensures, end_is-here)

pub returns-then-not-plain_number : goal.returns-then-not-plain_number
returns-then-not-plain_number c =
    let text = c.args.text.now in
    let at = c.args.at in
    let h = fails _ _ c.plain_number.ensures (ap not c.if-not-plain_number.true) in
    sym h ∙ and_failed _ _ h ∙ sym (line_tests text at (at + length (leading (drop at text))) refl (at + length (leading (drop at text)) + 7) refl)

pub returns-then-not-stands : goal.returns-then-not-stands
returns-then-not-stands c =
    let h = fails _ _ c.stands.ensures (ap not c.if-not-stands.true) in
    sym h ∙ and_failed _ _ h ∙ and-held _ _ (plain-holds (goal.at.returns-then-not-stands c).Else-not-plain_number)
    ∙ sym (line_tests c.args.text.now
    c.args.at c.digits_end-dot.result
    c.digits_end-dot.ensures (c.digits_end-dot.result + 7) refl)

pub overflow_add-dot : goal.overflow_add-dot
overflow_add-dot c =
    omega (
      arith,
      starts-fits (46 ∷ []) (drop c.digits_end-dot.result c.args.text.now) (dot_holds (goal.at.overflow_add-dot c).Else-not-stands),
      length-drop c.digits_end-dot.result c.args.text.now,
    )

pub returns-then-end-dot-ne7 : goal.returns-then-end-dot-ne7
returns-then-end-dot-ne7 c =
    let h = ne_eqb (length (leading (drop (c.digits_end-dot.result + 1) c.args.text.now))) 6 (λ e. c.if-end-dot-ne7.true (omega
    (arith, e, c.digits_end-end.ensures))) in
    sym h ∙ and_failed _ _ h ∙ and-held _ _ (dot_holds (goal.at.returns-then-end-dot-ne7 c).Else-not-stands) ∙ and-held _ _ (plain-holds (goal.at.returns-then-end-dot-ne7 c).Else-not-plain_number)
    ∙ sym (line_tests c.args.text.now
    c.args.at c.digits_end-dot.result
    c.digits_end-dot.ensures (c.digits_end-dot.result + 7) refl)

pub returns-then-not-stands-2 : goal.returns-then-not-stands-2
returns-then-not-stands-2 c =
    let h = fails _ _ c.stands-2.ensures (ap not c.if-not-stands-2.true) in
    sym h ∙ and_failed _ _ h ∙ and-held _ _ (six-hold (goal.at.returns-then-not-stands-2 c).Else-end-dot-ne7) ∙ and-held _ _ (dot_holds (goal.at.returns-then-not-stands-2 c).Else-not-stands)
    ∙ and-held _ _ (plain-holds (goal.at.returns-then-not-stands-2 c).Else-not-plain_number)
    ∙ sym (line_tests c.args.text.now
    c.args.at
    c.digits_end-dot.result
    c.digits_end-dot.ensures c.digits_end-end.result (end_is
    (goal.at.returns-then-not-stands-2 c).Else-end-dot-ne7))

pub overflow_add-end : goal.overflow_add-end
overflow_add-end c = omega (arith, tab-there (goal.at.overflow_add-end c).Else-not-stands-2)

pub slice_bounds-stands-end-3 : goal.slice_bounds-stands-end-3
slice_bounds-stands-end-3 c = let h = tab-there (goal.at.slice_bounds-stands-end-3 c).Else-not-stands-2 in let k = starts-here (goal.at.slice_bounds-stands-end-3 c).Else-not-stands-2 in search rules

pub returns-then-not-stands-3 : goal.returns-then-not-stands-3
returns-then-not-stands-3 c =
    let h = fails _ _ c.stands-3.ensures (ap not c.if-not-stands-3.true) in
    sym h ∙ and_failed _ _ h ∙ and-held _ _ (tab-holds (goal.at.returns-then-not-stands-3 c).Else-not-stands-2)
    ∙ and-held _ _ (six-hold (goal.at.returns-then-not-stands-3 c).Else-end-dot-ne7)
    ∙ and-held _ _ (dot_holds (goal.at.returns-then-not-stands-3 c).Else-not-stands)
    ∙ and-held _ _ (plain-holds (goal.at.returns-then-not-stands-3 c).Else-not-plain_number)
    ∙ sym (line_tests c.args.text.now c.args.at
    c.digits_end-dot.result
    c.digits_end-dot.ensures
    c.digits_end-end.result (end_is (goal.at.returns-then-not-stands-3 c).Else-end-dot-ne7))

pub overflow_add-end-2 : goal.overflow_add-end-2
overflow_add-end-2 c = omega (arith, tab-there (goal.at.overflow_add-end-2 c).Else-not-stands-2)

pub overflow_add-end-3 : goal.overflow_add-end-3
overflow_add-end-3 c =
    let text = c.args.text.now in
    let at = c.args.at in
    let end = c.digits_end-end.result in
    omega (
      arith,
      tab-there (goal.at.overflow_add-end-3 c).Else-not-stands-2,
      starts-here (goal.at.overflow_add-end-3 c).Else-not-stands-2,
      starts-fits (take (end - at) (drop at text)) (drop
          (end + 1) text) (again-holds (goal.at.overflow_add-end-3 c).Else-not-stands-3),
      length-take (end - at) (drop at text),
      length-drop at text,
      length-drop (end + 1) text,
    )

pub returns : goal.returns
returns c =
    c.stands-4.ensures ∙ and-held _ _ (again-holds (goal.at.returns c).Else-not-stands-3) ∙ and-held _ _ (tab-holds (goal.at.returns c).Else-not-stands-2)
    ∙ and-held _ _ (six-hold (goal.at.returns c).Else-end-dot-ne7)
    ∙ and-held _ _ (dot_holds (goal.at.returns c).Else-not-stands)
    ∙ and-held _ _ (plain-holds (goal.at.returns c).Else-not-plain_number)
    ∙ sym (line_tests c.args.text.now c.args.at c.digits_end-dot.result
    c.digits_end-dot.ensures
    c.digits_end-end.result (end_is
    (goal.at.returns c).Else-end-dot-ne7))
