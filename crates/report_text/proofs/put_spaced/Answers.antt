-- `report_text::put_spaced` meets its contract: a space, and the number behind it. Assumes nothing.
use Rattle.report_text.proofs.Puts.{put_whole, put_then}
use Rattle.report_text.proofs.put_spaced.Goals as goal

pub returns : goal.returns
returns c = put_then (put_whole c.put_byte-end.ensures) c.put_number.ensures
