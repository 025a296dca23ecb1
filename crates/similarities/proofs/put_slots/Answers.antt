-- `similarities::put_slots` meets its contract: the row's dot products, divided and settled, are its slots (`row-slots`). Assumes nothing.
use mathlib.Core.Path.{◌≡◌, ap, ◌∙◌}
use mathlib.Core.List.{List}
use Prim.Native.Nat.{ℕ, ◌+◌, ◌-◌, ◌*◌, ◌<◌}
use native.Mathlib.Omega.{arith}
use lib.ListN.{length, get_or}
use lib.Ieee.{Float, nan}
use Rattle.numbers.specs.Lists.{filled}
use Rattle.numbers.proofs.Overs.{length-row}
use Rattle.row_pairs.specs.Pairs.{feature_row, dot_of}
use Rattle.similarities.specs.Lanes.{turned_column, lane_quotient, settled_from}
use Rattle.similarities.proofs.Blocks.{row-slots}
use Rattle.similarities.proofs.put_slots.Goals as goal

pub row_dots-sums-requires : goal.row_dots-sums-requires
row_dots-sums-requires c =
    let a = c.args in
    (ap length c.feature_row.ensures ∙ length-row a.features.now a.rows 16 a.i c.requires.0 c.requires.2, omega arith)

pub returns : goal.returns
returns c =
    let a = c.args in
    let i = a.i in
    let column : ℕ = i - a.first in
    let features : List Float = a.features.now in
    let norms : List Float = a.norms.now in
    let sums : List Float = c.row_dots-sums.result in
    let quotients : List Float = c.divide.new.sums in
    let place : a.first + column ≡ i = omega arith in
    let wrote : c.put_row.new.similarity ≡ filled (settled_from quotients norms column (i * 17)) a.similarity.now (i * 17)
    (i * 17 + 17) =
    c.put_row.ensures in
    let divided : quotients ≡ filled (lane_quotient sums norms column) sums 0 17 = c.divide.ensures in
    let others : (e : ℕ) → 0 < e → e < 17 → get_or sums e nan ≡ dot_of (feature_row features i) (turned_column a.turned.now (column + e)) =
    λ e p q. c.row_dots-sums.ensures.2 e p q ∙ ap (λ (x : List Float). dot_of x (turned_column a.turned.now (column + e))) c.feature_row.ensures in
    wrote
    ∙ row-slots features a.rows a.first a.turned.now a.squares.now norms c.requires.0 c.requires.5 i column place (omega arith)
    c.requires.2 sums quotients
    c.row_dots-sums.ensures.0 c.row_dots-sums.ensures.1 others divided a.similarity.now
