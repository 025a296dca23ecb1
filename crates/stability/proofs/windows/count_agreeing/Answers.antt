use mathlib.Core.Path.{◌≡◌, refl, sym, ap, ◌∙◌}
use mathlib.Core.List.{List}
use Prim.Native.Nat.{ℕ, ◌+◌, ◌*◌, ◌/◌, ◌≤◌, ◌<◌}
use borrow.Author.Rules.{rules}
use native.Mathlib.Omega.{arith}
use lib.ListN.{length}
use lib.Ieee.{Float, nan}
use Rattle.lags.specs.Pairs.{folds, agrees}
use Rattle.lags.proofs.Searches.{some-found, some_next, some_end}
use Rattle.lag_search.specs.Search.{winning_lag}
use Rattle.stability.specs.Windows.{window_at, agreeing_to}
use Rattle.numbers.proofs.Outcomes.{open_same, open_then, open_filled}
use Rattle.stability.proofs.Parts.{window-ends, part_is, part_long, next_without, next_agrees, next_differs}
use Rattle.stability.proofs.windows.count_agreeing.Goals.{After-window_lag-lag, In-windows}
use Rattle.stability.proofs.windows.count_agreeing.Goals as goal

-- the window lies in the envelope
ends : (c : In-windows)
    → let a = c.args in
    let n = length a.envelope.now in
    c.windows.i * (n / a.windows) + n / a.windows ≤ n
ends c =
    window-ends (length c.args.envelope.now) c.args.windows c.args.max_lag c.requires.le_windows.0 c.requires.le_windows.1 c.windows.i
    c.windows-test.true

-- the lag is that of the window's winner
found : (w : After-window_lag-lag)
    → let a = w.args in
    w.window_lag-lag.result ≡ winning_lag (window_at a.envelope.now a.windows w.windows.i) a.rate a.min_lag a.max_lag
found w =
    let a = w.args in
    w.window_lag-lag.ensures.winner a.rate _ w.requires.max_lag_in_bounds.2 w.fill_priors.ensures
    ∙ ap (λ (x : List Float). winning_lag x a.rate a.min_lag a.max_lag) (part_is a.envelope.now a.windows w.windows.i)

pub windows-init : goal.windows-init
unfolding agreeing_to
windows-init c = (search rules, refl, open_same _ _, open_same _ _)

pub overflow_mul-from : goal.overflow_mul-from
overflow_mul-from c = let h = ends (goal.at.overflow_mul-from c).In-windows in search rules

pub overflow_add-to : goal.overflow_add-to
overflow_add-to c = let h = ends (goal.at.overflow_add-to c).In-windows in search rules

pub offset_bounds-envelope-from : goal.offset_bounds-envelope-from
offset_bounds-envelope-from c = let h = ends (goal.at.offset_bounds-envelope-from c).In-windows in search rules

pub slice_bounds-window_lag-count : goal.slice_bounds-window_lag-count
slice_bounds-window_lag-count c = let h = ends (goal.at.slice_bounds-window_lag-count c).In-windows in search rules

pub slice_bounds-window_lag-start : goal.slice_bounds-window_lag-start
slice_bounds-window_lag-start c = let h = ends (goal.at.slice_bounds-window_lag-start c).In-windows in search rules

pub slice_bounds-window_lag-end : goal.slice_bounds-window_lag-end
slice_bounds-window_lag-end c = let h = ends (goal.at.slice_bounds-window_lag-end c).In-windows in search rules

pub window_lag-lag-requires : goal.window_lag-lag-requires
window_lag-lag-requires c =
    let l = c.windows.invariant in
    let a = c.args in
    let p = open_filled _ _ _ _ c.requires.max_lag_in_bounds.2 c.fill_priors.ensures in record {
      min_lag_le_max_lag = (
        c.requires.min_lag_le_max_lag.0,
        c.requires.min_lag_le_max_lag.1,
        part_long a.envelope.now a.windows c.windows.i a.max_lag c.requires.le_windows.0 c.requires.le_windows.1
            c.windows-test.true,
      );
      max_lag_in_bounds = (omega (arith, p.same_length), omega (arith, l.2.same_length), omega (arith, l.3.same_length));
    }

pub windows-preserved-then-lag-eq0 : goal.windows-preserved-then-lag-eq0
windows-preserved-then-lag-eq0 c =
    let l = c.windows in (
      omega arith,
      next_without _ _ _ _ _ _ _ _ _ l.invariant.1 (found (goal.at.windows-preserved-then-lag-eq0 c).After-window_lag-lag) c.if-lag-eq0.true,
      open_then _ _ _ _ l.invariant.2 c.window_lag-lag.ensures.clarities,
      open_then _ _ _ _ l.invariant.3 c.window_lag-lag.ensures.weights,
    )

pub loop-fold-init : goal.loop-fold-init
unfolding agrees
loop-fold-init c = (refl, refl)

pub windows-preserved : goal.windows-preserved
windows-preserved c =
    let f = c.loop-fold in
    let l = c.windows in
    let h : 5 ≤ f.fold-index = omega arith in (
      omega (arith, f.invariant.0),
      next_differs _ _ _ _ _ _ _ _ _ (f.invariant.0 ∙ l.invariant.1) (found (goal.at.windows-preserved c).After-window_lag-lag) c.if-lag-eq0.false (f.invariant.1 ∙ some_end _ folds f.fold-index h),
      open_then _ _ _ _ l.invariant.2 c.window_lag-lag.ensures.clarities,
      open_then _ _ _ _ l.invariant.3 c.window_lag-lag.ensures.weights,
    )

pub windows-preserved-then-fold_fits : goal.windows-preserved-then-fold_fits
windows-preserved-then-fold_fits c =
    let f = c.loop-fold in
    let l = c.windows in
    let h : f.fold-index < 5 = omega arith in
    let one-fits = f.invariant.1 ∙ some-found _ folds f.fold-index nan h (sym c.fold_fits.ensures ∙ c.if-fold_fits.true) in (
      omega (arith, f.invariant.0),
      ap (λ (a : ℕ). a + 1) f.invariant.0 ∙ next_agrees _ _ _ _ _ _ _ _ _ l.invariant.1 (found (goal.at.windows-preserved-then-fold_fits c).After-window_lag-lag) c.if-lag-eq0.false one-fits,
      open_then _ _ _ _ l.invariant.2 c.window_lag-lag.ensures.clarities,
      open_then _ _ _ _ l.invariant.3 c.window_lag-lag.ensures.weights,
    )

pub loop-fold-preserved : goal.loop-fold-preserved
loop-fold-preserved c =
    let f = c.loop-fold in
    let h : f.fold-index < 5 = omega arith in
    (f.invariant.0, f.invariant.1 ∙ some_next _ folds f.fold-index nan h (sym c.fold_fits.ensures ∙ c.if-fold_fits.false))

pub returns : goal.returns
returns c =
    let l = c.windows in
    let a = c.args in
    let e : l.i ≡ a.windows = omega arith in
    record {
      count = l.invariant.1 ∙ ap (agreeing_to a.envelope.now a.rate a.min_lag a.max_lag a.whole_lag a.windows) e;
      clarities = l.invariant.2;
      weights = l.invariant.3;
      works = open_filled _ _ _ _ c.requires.max_lag_in_bounds.2 c.fill_priors.ensures;
    }
