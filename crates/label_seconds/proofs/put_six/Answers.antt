-- `label_seconds::put_six` meets its contract: six digits, one behind the other. Assumes nothing.
use Rattle.label_seconds.specs.Seconds.{padded}
use Rattle.texts.proofs.Puts.{put_then}
use Rattle.label_seconds.proofs.put_six.Goals as goal

pub returns : goal.returns
unfolding padded
returns c =
    put_then (put_then (put_then (put_then (put_then c.put_last-e1.ensures c.put_last-e2.ensures) c.put_last-e3.ensures) c.put_last-e4.ensures)
    c.put_last-e5.ensures) c.put_last.ensures
