-- `stability::share` meets its contract, by its three returns. Assumes nothing.
use mathlib.Core.Path.{◌∙◌}
use Prim.Native.Nat.{◌≤◌}
use native.Mathlib.Nat.{min_comm}
use native.Mathlib.Omega.{arith}
use Rattle.stability.proofs.Shares.{windows-fit, shared_without, shared_few, shared_counted}
use Rattle.stability.proofs.share.Goals as goal

pub returns-then-whole_lag-eq0 : goal.returns-then-whole_lag-eq0
returns-then-whole_lag-eq0 c = shared_without _ _ _ _ _ _ _ _ c.if-whole_lag-eq0.true

pub returns-then-windows-lt2 : goal.returns-then-windows-lt2
returns-then-windows-lt2 c = shared_few _ _ _ _ _ _ _ _ c.if-whole_lag-eq0.false _ (c.min-windows.ensures ∙ min_comm _ 4) c.if-windows-lt2.true

pub count_agreeing-agreeing-requires : goal.count_agreeing-agreeing-requires
count_agreeing-agreeing-requires c =
    let h : 1 ≤ c.min-windows.result = omega arith in
    record {
      min_lag_le_max_lag = c.requires.min_lag_le_max_lag;
      le_windows = (h, windows-fit _ _ _ (c.min-windows.ensures ∙ min_comm _ 4));
      max_lag_in_bounds = c.requires.max_lag_in_bounds;
    }

pub returns : goal.returns
returns c =
    shared_counted _ _ _ _ _ _ _ _ c.if-whole_lag-eq0.false _ (c.min-windows.ensures ∙ min_comm _ 4) _ _ _ _ _ _ c.if-windows-lt2.false
    c.count_agreeing-agreeing.ensures
    c.float_of.ensures
    c.float_of-2.ensures
