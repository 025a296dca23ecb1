-- `report_text::put_share` meets its contract: `none`, or three pieces, one behind the other. Assumes nothing.
use mathlib.Core.Path.{sym}
use native.Mathlib.Omega.{arith}
use Rattle.report_text.proofs.Puts.{put_whole, put_then, put_as, share-none, share-some}
use Rattle.report_text.proofs.put_share.Goals as goal

pub returns-then-windows-eq0 : goal.returns-then-windows-eq0
returns-then-windows-eq0 c = put_as (sym (share-none _ _ c.if-windows-eq0.true)) (omega arith)
    (put_whole c.put_words.ensures)

pub returns : goal.returns
returns c = put_as (sym (share-some _ _ c.if-windows-eq0.false)) (omega arith)
    (put_then (put_then c.put_spaced-first_end.ensures
    (put_whole c.put_byte-slash_end.ensures)) c.put_number.ensures)
