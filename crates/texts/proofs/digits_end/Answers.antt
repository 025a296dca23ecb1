-- `texts::digits_end` meets its contract: what is counted is the digits that the rest of the text starts with. Assumes nothing.
use Rattle.std.proofs.Common.{ℕ, ◌+◌, ◌∙◌, ap, List, length, rules, tests}
use Rattle.std.proofs.lemmas.Iterator.{YieldsList-from_slice}
use Rattle.std.proofs.lemmas.Iterator.Consumers.{count_from_yields_List}
use Rattle.std.proofs.lemmas.Iterator.Search.{YieldsList-from_take_while}
use Rattle.texts.specs.Decimals.{is_digit, leading}
use Rattle.texts.proofs.Texts.{leading-taken}
use Rattle.texts.proofs.digits_end.Goals as goal

pub returns : goal.returns
returns c =
    let rest = c.rest_of.result.now in
    let counted =
    count_from_yields_List c.take_while.result _ c.count-count.ensures.ran
    (YieldsList-from_take_while _ is_digit (YieldsList-from_slice rest (cc)) c.take_while.ensures.closure c.take_while.ensures.done
    (λ x b q k. search (rules, tests))) in
    ap (λ (n : ℕ). c.args.at + n)
    (counted ∙ ap length (leading-taken rest) ∙ ap (λ (r : List ℕ). length (leading r)) c.rest_of.ensures)
