-- `label_seconds::put_seconds` meets its contract: a decimal, a point, six digits. Assumes nothing.
use native.Mathlib.Omega.{arith}
use Rattle.texts.proofs.Puts.{put_then}
use Rattle.label_seconds.specs.Seconds.{seconds_text}
use Rattle.label_seconds.proofs.Seconds.{seconds_length}
use Rattle.label_seconds.proofs.put_seconds.Goals as goal

pub put_decimal-e1-requires : goal.put_decimal-e1-requires
put_decimal-e1-requires c = omega (arith, c.requires, seconds_length c.args.u)

pub put_byte-e2-requires : goal.put_byte-e2-requires
put_byte-e2-requires c =
    let d = c.put_decimal-e1 in omega
    (arith, c.requires, seconds_length c.args.u, d.ensures.end_is, d.auto.out)

pub put_six-requires : goal.put_six-requires
put_six-requires c =
    let d
    = c.put_decimal-e1 in let b = c.put_byte-e2 in omega
    (arith, c.requires, seconds_length c.args.u, d.ensures.end_is, d.auto.out, b.ensures.end_is, b.auto.out)

pub returns : goal.returns
unfolding seconds_text
returns c =
    let d = c.put_decimal-e1 in
    let b = c.put_byte-e2 in
    put_then d.ensures (put_then b.ensures c.put_six.ensures)
