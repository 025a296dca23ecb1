-- `novelties::fill_novelty` meets its contract: the slots near the start one by one, those inside in blocks, and the slots near the end one by one are
-- three runs of one range. Assumes nothing.
use mathlib.Core.Path.{◌≡◌, sym, ap, ◌∙◌}
use mathlib.Core.List.{List}
use Prim.Native.Nat.{ℕ, ◌-◌, ◌≤◌, min, max}
use native.Mathlib.Nat.{le_trans, le_of_eq}
use native.Mathlib.Omega.{arith}
use lib.Ieee.{Float, nan}
use Rattle.numbers.specs.Lists.{filled}
use Rattle.numbers.proofs.Tabs.{filled_join}
use Rattle.novelties.specs.Novelty.{novelty_at}
use Rattle.novelties.proofs.fill_novelty.Goals.{After-max-stop}
use Rattle.novelties.proofs.fill_novelty.Goals as goal

-- where the three runs begin and end
record Runs (rows from past start stop : ℕ) : Type 0 where
  before : from ≤ start
  inner : start ≤ stop
  after : stop ≤ past
  low : min 8 stop ≤ start
  high : stop ≤ max start (rows - 7)

runs : (rows from past g start l stop : ℕ) → from ≤ past → g ≡ max from 8 → start ≡ min g past → l ≡ min past (rows - 7) → stop ≡ max start l
    → Runs rows from past start stop
runs rows from past g start l stop h e m n o =
    record { before = omega arith; inner = omega arith; after = omega arith; low = omega arith; high = omega arith }

runs_of : (c : After-max-stop)
    → let a = c.args in
    Runs a.rows a.from a.past c.min-start.result c.max-stop.result
runs_of c =
    runs _ _ _ _ _ _ _ c.requires.1 c.max.ensures c.min-start.ensures c.min.ensures c.max-stop.ensures

pub fill_blocks-requires : goal.fill_blocks-requires
fill_blocks-requires c =
    let r = runs_of (goal.at.fill_blocks-requires c).After-max-stop in
    (c.kernel-table.ensures, c.requires.0, c.if-rows-lt-SPAN.false, r.low, r.inner, r.high, omega arith)

pub fill_plain-requires-3 : goal.fill_plain-requires-3
fill_plain-requires-3 c =
    let r = runs_of (goal.at.fill_plain-requires-3 c).After-max-stop in
    (c.kernel-table.ensures, c.requires.0, r.after, c.requires.2, le_trans c.requires.3 (le_of_eq (sym (c.novelty-3-1.given ∙ c.novelty-2-1.given))))

pub returns : goal.returns
returns c =
    let r = runs_of (goal.at.returns c).After-max-stop in
    let a = c.args in
    let f : ℕ → Float = novelty_at a.similarity.now a.rows in
    let start : ℕ = c.min-start.result in
    let stop : ℕ = c.max-stop.result in
    c.fill_plain-3.ensures
    ∙ ap (λ (d : List Float). filled f d stop a.past)
    (c.fill_blocks.ensures
    ∙ ap (λ (d : List Float). filled f d start stop) c.fill_plain-2.ensures
    ∙ filled_join f a.novelty.now a.from start stop r.before r.inner nan (le_trans r.after c.requires.3))
    ∙ filled_join f a.novelty.now a.from stop a.past (le_trans r.before r.inner) r.after nan c.requires.3
