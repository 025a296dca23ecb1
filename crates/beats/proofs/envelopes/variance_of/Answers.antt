use mathlib.Core.Path.{◌≡◌, refl, sym, ap, ◌∙◌}
use mathlib.Core.List.{List, map}
use Prim.Native.Nat.{ℕ, ◌+◌, ◌≤◌, ◌<◌}
use native.Mathlib.Numerals.{add-one}
use native.Mathlib.Omega.{arith}
use lib.ListN.{length, drop, get_or, drop_of_length-le}
use lib.Seq.{drop-cons}
use lib.Ieee.{Float, nan}
use Rattle.numbers.specs.Rounded.{◌⊕◌, ◌⊘◌, sum_from, sum_of}
use Rattle.lists.specs.Means.{mean_of}
use Rattle.lists.proofs.Means.{mean_of_mapped}
use Rattle.beats.specs.Envelopes.{square_about, variance_of}
use Rattle.beats.proofs.envelopes.variance_of.Goals as goal

module _ (f : Float → Float) (acc : Float) (xs : List Float) (i : ℕ) where
  sum_step : i < length xs → sum_from (acc ⊕ f (get_or xs i nan)) (map f (drop (i + 1) xs)) ≡ sum_from acc (map f (drop i xs))
  unfolding sum_from
  sum_step h = rw (add-one, drop-cons xs i nan)

  sum_end : length xs ≤ i → acc ≡ sum_from acc (map f (drop i xs))
  unfolding sum_from
  sum_end h = rw drop_of_length-le

pub loop-i-init : goal.loop-i-init
loop-i-init c = (omega arith, refl)

pub loop-i-preserved : goal.loop-i-preserved
unfolding square_about
loop-i-preserved c = (
  omega arith,
  sum_step (square_about c.mean_of-mean.result) c.loop-i.sum c.args.xs.now c.loop-i.i (omega arith) ∙ c.loop-i.invariant.1,
)

pub returns : goal.returns
unfolding variance_of
returns c =
    let xs = c.args.xs.now in
    ap (λ (x : Float). x ⊘ c.float_of.result)
    (sum_end (square_about c.mean_of-mean.result) c.loop-i.sum xs c.loop-i.i c.loop-i-test.false ∙ c.loop-i.invariant.1
    ∙ ap (λ (mean : Float). sum_of (map (square_about mean) xs)) c.mean_of-mean.ensures)
    ∙ ap (λ (x : Float). sum_of (map (square_about (mean_of xs)) xs) ⊘ x) c.float_of.ensures
    ∙ sym (mean_of_mapped (square_about (mean_of xs)) xs)
