-- `beat_links::extension_at` meets its contract. Frame 0 has no earlier beat. A later one's run from the first to the last allowed, and where
-- the table is long enough its slot for frame u is that of the interval t - u. Assumes nothing.
use mathlib.Core.Path.{◌≡◌, ap, ◌∙◌}
use mathlib.Core.List.{List}
use Prim.Native.Nat.{ℕ, ◌+◌, ◌-◌, ◌*◌, ◌≤◌, ◌<◌}
use native.Mathlib.Omega.{arith}
use lib.ListN.{length, get_or}
use lib.Ieee.{Float, nan}
use Rattle.numbers.specs.Rounded.{◌⊕◌}
use Rattle.lists.specs.Greatest.{greatest}
use Rattle.beat_links.specs.Extensions.{penalty, unlinked, extended}
use Rattle.beat_links.specs.Inner.{slot_penalty, Penalties, tabled}
use Rattle.lists.proofs.Greatest.{greatest_ext}
use Rattle.beat_links.proofs.Extensions.{extension-first, extension-later}
use Rattle.beat_links.proofs.extension_at.Goals as goal

-- what the table has
in_table : (period : ℕ) (ss table : List Float) (t lo end : ℕ) → Penalties period table → 2 * period ≤ length table → end ≤ t → t ≤ lo + 2 * period
    → greatest (tabled table ss (2 * period - (t - lo)) lo) lo (end - lo) unlinked ≡ greatest (extended period ss t) lo (end - lo) unlinked
unfolding tabled extended slot_penalty
in_table period ss table t lo end holds h g k =
    greatest_ext (tabled table ss (2 * period - (t - lo)) lo) (extended period ss t) lo (end - lo) unlinked
    (λ u a b.
    let slot : 2 * period - (t - lo) + (u - lo) < 2 * period = omega arith in
    let interval : 2 * period - (2 * period - (t - lo) + (u - lo)) ≡ t - u = omega arith in
    ap (λ (x : Float). get_or ss u nan ⊕ x) (holds (2 * period - (t - lo) + (u - lo)) h slot ∙ ap (penalty period) interval))

pub returns-then-t-eq0 : goal.returns-then-t-eq0
returns-then-t-eq0 c = extension-first _ _ _ (omega arith)

pub returns-then-table-period : goal.returns-then-table-period
returns-then-table-period c =
    let a = c.args in
    c.best_computed.ensures
    ∙ extension-later a.period a.score.now a.t c.saturating_sub-lo.result (c.saturating_sub-end.result + 1) (omega arith) c.saturating_sub-lo.ensures
    (ap (λ (k : ℕ). k + 1) c.saturating_sub-end.ensures)

pub returns-then-lo-end : goal.returns-then-lo-end
returns-then-lo-end c =
    let a = c.args in
    let end = c.saturating_sub-end.result + 1 in
    c.best_by_eights.ensures
    ∙ in_table a.period a.score.now a.table.now a.t c.saturating_sub-lo.result end c.requires.4 (omega arith) (omega arith) (omega arith)
    ∙ extension-later a.period a.score.now a.t c.saturating_sub-lo.result end (omega arith) c.saturating_sub-lo.ensures (ap (λ (k : ℕ). k + 1) c.saturating_sub-end.ensures)

pub returns : goal.returns
returns c =
    let a = c.args in
    let end = c.saturating_sub-end.result + 1 in
    c.best_in_table.ensures
    ∙ in_table a.period a.score.now a.table.now a.t c.saturating_sub-lo.result end c.requires.4 (omega arith) (omega arith) (omega arith)
    ∙ extension-later a.period a.score.now a.t c.saturating_sub-lo.result end (omega arith) c.saturating_sub-lo.ensures (ap (λ (k : ℕ). k + 1) c.saturating_sub-end.ensures)
