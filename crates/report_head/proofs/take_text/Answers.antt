-- `report_head::take_text` meets its contract: the byte is held, and the text is asked once it is whole. Assumes nothing.
use mathlib.Core.Path.{refl, sym, ap, ◌∙◌}
use borrow.Author.Tests.{lt-ltb, le-ltb}
use Rattle.numbers.proofs.Tests.{pick_true, pick-false}
use Rattle.report_head.specs.Heads.{behind_text}
use Rattle.report_head.proofs.take_text.Goals as goal

pub returns-then-come-size : goal.returns-then-come-size
returns-then-come-size c = record { held_is = refl; feed_is = sym (pick_true _ _ _ (lt-ltb _ _ c.if-come-size.true)) }

pub returns : goal.returns
returns c =
    let told = c.read_header.ensures in
    record {
      held_is = refl;
      feed_is = c.behind_text.ensures
          ∙ ap behind_text told
          ∙ sym (pick-false _ _ _ (le-ltb _ _ c.if-come-size.false));
    }
