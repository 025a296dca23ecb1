-- `similarity` meets its contract: a refusal leaves the lent slots as they were, and without one all holds that the fill needs. Assumes nothing.
use mathlib.Core.Path.{sym, ◌∙◌}
use native.Mathlib.Omega.{arith}
use Rattle.numbers.proofs.Tests.{passed_does}
use Rattle.similarities.proofs.Calls.{similarity_refused, similarity_passed}
use Rattle.similarities.proofs.similarity.Goals as goal

pub returns-in_err-refusal : goal.returns-in_err-refusal
returns-in_err-refusal c = similarity_refused _ _ _ _ _ c.from_residual.ensures.1 c.in_err-refusal.ensures

pub fill_similarity_rows-requires : goal.fill_similarity_rows-requires
fill_similarity_rows-requires c =
    let p = similarity_passed _ _ _ (sym c.in_ok-refusal.ensures) in
    (p.whole, omega arith, omega arith, p.space)

pub returns : goal.returns
returns c =
    let z = sym c.in_ok-refusal.ensures in
    record { answer = sym z; slots = c.fill_similarity_rows.ensures ∙ sym (passed_does _ _ _ z) }
