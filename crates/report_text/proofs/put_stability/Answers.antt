-- `report_text::put_stability` meets its contract: three pieces, one behind the other. Assumes nothing.
use Rattle.report_text.specs.Text.{stability_text}
use Rattle.report_text.proofs.Puts.{put_whole, put_then}
use Rattle.report_text.proofs.put_stability.Goals as goal

pub returns : goal.returns
unfolding stability_text
returns c = put_then (put_then (put_whole c.put_words-words_end.ensures)
    c.put_share-share_end.ensures) (put_whole c.put_byte.ensures)
