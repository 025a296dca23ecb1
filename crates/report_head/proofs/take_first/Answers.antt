-- `report_head::take_first` meets its contract: the byte is held, and the ten bytes are asked once all are there. Assumes nothing.
use mathlib.Core.Path.{refl, sym, ap, ◌∙◌}
use native.Mathlib.Omega.{arith}
use borrow.Author.Tests.{lt-ltb, le-ltb}
use Rattle.numbers.proofs.Tests.{pick_true, pick-false}
use Rattle.report_head.specs.Heads.{behind_first}
use Rattle.report_head.proofs.take_first.Goals as goal

pub returns-then-come-lt-FIRST : goal.returns-then-come-lt-FIRST
returns-then-come-lt-FIRST c = record { held_is = refl; feed_is = sym (pick_true _ _ _ (lt-ltb _ _ c.if-come-lt-FIRST.true)); size_fits = λ h. absurd (omega (arith, c.if-come-lt-FIRST.true)) }

pub returns : goal.returns
returns c =
    let told = c.stated.ensures in
    record {
      held_is = refl;
      feed_is = c.behind_first.ensures ∙ ap behind_first told.0 ∙ sym (pick-false _ _ _ (le-ltb _ _ c.if-come-lt-FIRST.false));
      size_fits = λ h size e. told.1 size (told.0 ∙ e);
    }
