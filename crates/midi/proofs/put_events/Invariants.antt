-- `midi::put_events` meets its contract. The invariant: the first i events are written, and `at` is the place behind them. Assumes nothing.
use lib.ListN.{take}
use Rattle.texts.specs.Texts.{Put}
use Rattle.midi_gaps.specs.Gaps.{gaps_of}
use Rattle.midi_events.specs.File.{tempo_events}
use Rattle.midi.proofs.put_events.Given as goal

abbrev pub invariant-loop-i : goal.invariant-loop-i
invariant-loop-i l = Put l.initial.file l.from (tempo_events 0 (take l.i (gaps_of l.rate l.beats))) l.at l.file
