-- `report_npy::read_header` meets its contract. Each test that passed is a law of the place behind it, typed by that place, and each return cites
-- those before it and the law of the test that failed. Assumes nothing.
use mathlib.Core.Path.{◌≡◌, sym, ap, ◌∙◌}
use mathlib.Core.Bool.{true}
use Prim.Native.Nat.{ℕ, ◌+◌}
use native.Mathlib.Omega.{arith}
use lib.ListN.{drop, length-drop}
use Rattle.texts.proofs.Texts.{fails, holds, starts-fits}
use Rattle.std.specs.Prelude.{Some}
use Rattle.texts.specs.Texts.{starts}
use Rattle.texts.specs.Decimals.{leading, plain, number_from}
use Rattle.report_npy.specs.Header.{front, comma, closing, held_number, shape_of, columns_of, header_of}
use Rattle.report_npy.proofs.Headers.{header_malformed, rows_at_plain, rows_at_comma, rows_at, columns_at_plain, columns_at_closing, columns_at_end, columns-at}
use mathlib.Core.Bool.{not}
use Rattle.report_npy.proofs.read_header.Goals.{Else-not-plain_number, Else-not-plain_number-2, Else-not-stands, Else-not-stands-2, Else-not-stands-3}
use Rattle.report_npy.proofs.read_header.Goals as goal

-- the front is there
front-holds : (c : Else-not-stands) → starts front c.args.text.now ≡ true
front-holds c = holds _ _ c.stands.ensures (ap not c.if-not-stands.false)

-- and then a number
rows-hold : (c : Else-not-plain_number) → plain (leading (drop 51 c.args.text.now)) ≡ true
rows-hold c = holds _ _ c.plain_number.ensures (ap not c.if-not-plain_number.false)

-- and then a comma
comma-holds : (c : Else-not-stands-2) → starts comma (drop c.digits_end-rows_end.result
    c.args.text.now) ≡ true
comma-holds c = holds _ _ c.stands-2.ensures (ap not c.if-not-stands-2.false)

-- so that the columns decide
columns-decide : (c : Else-not-stands-2) → header_of c.args.text.now
    ≡ columns_of (number_from 0 (leading (drop 51 c.args.text.now))) (drop (c.digits_end-rows_end.result + 2)
    c.args.text.now)
columns-decide c =
    let front-holds-here : starts front c.args.text.now ≡ true = holds _ _ c.stands.ensures (ap not c.if-not-stands.false) in
    let rows-hold-here : plain (leading (drop 51 c.args.text.now)) ≡ true = holds _ _ c.plain_number.ensures (ap not c.if-not-plain_number.false) in
    rows_at _ (front-holds-here) _ c.digits_end-rows_end.ensures
    (rows-hold-here) (comma-holds c)

-- a second number
columns-hold : (c : Else-not-plain_number-2) → plain (leading (drop (c.digits_end-rows_end.result + 2)
    c.args.text.now)) ≡ true
columns-hold c = holds _ _ c.plain_number-2.ensures (ap not c.if-not-plain_number-2.false)

-- and the closing
closing-holds : (c : Else-not-stands-3) → starts closing (drop c.digits_end-columns_end.result
    c.args.text.now) ≡ true
closing-holds c = holds _ _ c.stands-3.ensures (ap not c.if-not-stands-3.false)

pub returns-then-not-stands : goal.returns-then-not-stands
returns-then-not-stands c = sym (header_malformed _ (fails _ _ c.stands.ensures (ap not c.if-not-stands.true)))

pub returns-then-not-plain_number : goal.returns-then-not-plain_number
returns-then-not-plain_number c = sym (rows_at_plain _ (front-holds (goal.at.returns-then-not-plain_number c).Else-not-stands) (fails _ _ c.plain_number.ensures (ap not c.if-not-plain_number.true)))

pub returns-then-not-stands-2 : goal.returns-then-not-stands-2
returns-then-not-stands-2 c =
    sym (rows_at_comma _ (front-holds (goal.at.returns-then-not-stands-2 c).Else-not-stands) _ c.digits_end-rows_end.ensures
    (rows-hold (goal.at.returns-then-not-stands-2 c).Else-not-plain_number) (fails _ _ c.stands-2.ensures (ap not c.if-not-stands-2.true)))

pub overflow_add-columns : goal.overflow_add-columns
overflow_add-columns c =
    let text = c.args.text.now in
    let r = c.digits_end-rows_end.result in
    omega (arith, starts-fits comma (drop r text) (comma-holds (goal.at.overflow_add-columns c).Else-not-stands-2), length-drop r text)

pub returns-then-not-plain_number-2 : goal.returns-then-not-plain_number-2
returns-then-not-plain_number-2 c =
    let text = c.args.text.now in
    sym (columns-decide (goal.at.returns-then-not-plain_number-2 c).Else-not-stands-2 ∙ columns_at_plain _ text (c.digits_end-rows_end.result + 2)
    (fails _ _ c.plain_number-2.ensures (ap not c.if-not-plain_number-2.true)))

pub returns-then-not-stands-3 : goal.returns-then-not-stands-3
returns-then-not-stands-3 c =
    sym (columns-decide (goal.at.returns-then-not-stands-3 c).Else-not-stands-2
    ∙ columns_at_closing _ _ _ _ c.digits_end-columns_end.ensures (columns-hold (goal.at.returns-then-not-stands-3 c).Else-not-plain_number-2)
    (fails _ _ c.stands-3.ensures (ap not c.if-not-stands-3.true)))

pub overflow_add-columns_end : goal.overflow_add-columns_end
overflow_add-columns_end c =
    let text = c.args.text.now in
    let r = c.digits_end-columns_end.result in
    omega (arith, starts-fits closing (drop r text) (closing-holds (goal.at.overflow_add-columns_end c).Else-not-stands-3), length-drop r text)

pub returns-then-not-ends : goal.returns-then-not-ends
returns-then-not-ends c =
    sym (columns-decide (goal.at.returns-then-not-ends c).Else-not-stands-2
    ∙ columns_at_end _ _ _ _ c.digits_end-columns_end.ensures
    (columns-hold (goal.at.returns-then-not-ends c).Else-not-plain_number-2) (closing-holds (goal.at.returns-then-not-ends c).Else-not-stands-3)
    (fails _ _ c.ends.ensures (ap not c.if-not-ends.true)))

pub returns : goal.returns
returns c =
    let whole = columns-decide (goal.at.returns c).Else-not-stands-2
    ∙ columns-at _ _ _ _ c.digits_end-columns_end.ensures
    (columns-hold (goal.at.returns c).Else-not-plain_number-2) (closing-holds (goal.at.returns c).Else-not-stands-3)
    (holds _ _ c.ends.ensures (ap not c.if-not-ends.false)) in
    let rows = c.number_at.ensures in
    let columns = c.number_at-2.ensures in
    ap (λ (n : ℕ). Some (shape_of n c.number_at-2.result)) rows
    ∙ ap (λ (b : ℕ). Some (shape_of (held_number (number_from 0 (leading (drop 51 c.args.text.now)))) b)) columns
    ∙ sym whole
