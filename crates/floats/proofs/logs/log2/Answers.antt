-- `floats::logs::log2` meets its contract: both ways by the test of the sequence. Assumes nothing.
use Rattle.std.proofs.Common.{sym, ◌∙◌}
use Rattle.floats.specs.Logs.{log2_of}
use Rattle.floats.proofs.logs.log2.Goals as goal

pub returns-then-in_sequence : goal.returns-then-in_sequence
unfolding log2_of
returns-then-in_sequence c = let v = c.reduced-v.ensures in rw (
  ← c.bits_of-n.ensures,
  sym c.in_sequence.ensures ∙ c.if-in_sequence.true,
  c.upper_half-hi.ensures,
  v.0,
  v.1,
  v.2,
  v.3,
)

pub returns : goal.returns
unfolding log2_of
returns c = rw (← c.bits_of-n.ensures, sym c.in_sequence.ensures ∙ c.if-in_sequence.false) c.apart_of.ensures
