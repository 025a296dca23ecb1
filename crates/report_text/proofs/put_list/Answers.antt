-- `report_text::put_list` meets its contract: `none`, or the numbers. Assumes nothing.
use mathlib.Core.Path.{sym}
use native.Mathlib.Omega.{arith}
use Rattle.report_text.proofs.Puts.{put_whole, put_as, list_none, list_some}
use Rattle.report_text.proofs.put_list.Goals as goal

pub returns-then-entries-eq0 : goal.returns-then-entries-eq0
returns-then-entries-eq0 c = put_as (sym (list_none _ c.if-entries-eq0.true)) (omega arith) (put_whole c.put_words.ensures)

pub returns : goal.returns
returns c = put_as (sym (list_some _ c.if-entries-eq0.false)) (omega arith) c.put_numbers.ensures
