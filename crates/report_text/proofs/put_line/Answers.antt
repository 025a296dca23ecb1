-- `report_text::put_line` meets its contract: three pieces, one behind the other. Assumes nothing.
use Rattle.report_text.specs.Text.{line_text}
use Rattle.report_text.proofs.Puts.{put_whole, put_then}
use Rattle.report_text.proofs.put_line.Goals as goal

pub returns : goal.returns
unfolding line_text
returns c = put_then (put_then (put_whole c.put_words-words_end.ensures)
    c.put_list-list_end.ensures) (put_whole c.put_byte.ensures)
