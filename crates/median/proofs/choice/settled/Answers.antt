-- `median::choice::settled` meets its contract: where the counts have the rank in the guess itself, the guess is the entry, or one of the zeros is.
-- Assumes nothing.
use Prim.Native.Nat.{ℕ, ◌-◌}
use mathlib.Core.Path.{◌≡◌, ◌∙◌, subst}
use mathlib.Core.List.{List}
use native.Mathlib.Omega.{arith}
use lib.ListN.{get_or, take}
use lib.Ieee.{Float, nan}
use Rattle.median.specs.Median.{sort}
use Rattle.median.specs.Choice.{Parted}
use Rattle.median.proofs.Choosing.{fit-take, guess_is_sort, guess_is_zero}
use Rattle.median.proofs.choice.settled.Goals as goal

-- the counts have the rank in the guess itself
level : {xs : List Float} {v : Float} {rank side before size : ℕ} → side ≡ 1 → Parted xs v v rank side before size → Parted xs v v rank 1 before size
level {xs} {v} {rank} {side} {before} {size} e p = subst (λ (s : ℕ). Parted xs v v rank s before size) e p

pub returns-then-part-ne1 : goal.returns-then-part-ne1
returns-then-part-ne1 c =
    let h = c.by_heap in
    let e : c.args.m - 0 ≡ c.args.m = omega arith in
    subst (λ (m : ℕ). h.result ≡ get_or (sort (take m c.args.a.now)) c.args.rank nan) e h.ensures

pub returns-then-guess : goal.returns-then-guess
returns-then-guess c =
    let f = fit-take c.args.m c.args.a.now (λ k. c.slice_known-1.given k) in
    c.zero_of.ensures
    ∙ guess_is_zero f c.args.guess c.if-guess.true (level c.if-part-ne1.false c.part_of-part.ensures)

pub returns : goal.returns
returns c =
    let f = fit-take c.args.m c.args.a.now (λ k. c.slice_known-1.given k) in
    guess_is_sort f c.args.guess c.if-guess.false (level c.if-part-ne1.false c.part_of-part.ensures)
