use mathlib.Core.Path.{ap}
use native.Mathlib.Omega.{arith}
use lib.ListN.{length}
use Rattle.texts.proofs.Decimals.{decimal-one, decimal_longer}
use Rattle.texts.proofs.Puts.{put_digit, put_last}
use Rattle.texts.proofs.+put_decimal.Goals as goal

pub put_byte-requires : goal.put_byte-requires
put_byte-requires t c = omega (arith, c.requires, ap length (decimal-one c.args.n c.if-n-lt10.true))

pub returns-then-n-lt10 : goal.returns-then-n-lt10
returns-then-n-lt10 t c = put_digit c.if-n-lt10.true c.put_byte.ensures

pub put_decimal-end-requires : goal.put_decimal-end-requires
put_decimal-end-requires t c =
    let more = decimal_longer c.args.n c.if-n-lt10.false in
    (omega (arith, c.decreases, c.if-n-lt10.false), omega (arith, c.requires, more))

pub put_byte-requires-2 : goal.put_byte-requires-2
put_byte-requires-2 t c =
    let more = decimal_longer c.args.n c.if-n-lt10.false in
    omega (arith, c.requires, more, c.put_decimal-end.ensures.end_is, c.put_decimal-end.auto.out)

pub returns : goal.returns
returns t c = put_last c.if-n-lt10.false c.put_decimal-end.ensures c.put_byte-2.ensures
