-- `midi::put_track` meets its contract: the front, the events and the end, one behind the other, are the file (`track_pieces`). Assumes nothing.
use mathlib.Core.Path.{sym, ap, ◌∙◌}
use mathlib.Core.List.{List, ◌++◌}
use Prim.Native.Nat.{ℕ, ◌-◌}
use native.Mathlib.Omega.{arith}
use lib.ListN.{length}
use Rattle.texts.proofs.Puts.{put_then, put_named, put-length}
use Rattle.midi_gaps.specs.Gaps.{gaps_of}
use Rattle.midi_gaps.proofs.Gaps.{gaps-length}
use Rattle.midi_events.specs.File.{tempo_events, track_end}
use Rattle.midi_events.proofs.Events.{events_length}
use Rattle.midi.proofs.Tracks.{Ready, write_told, track_pieces}
use Rattle.midi.proofs.put_track.Goals.{Start}
use Rattle.midi.proofs.put_track.Goals as goal

ready : (s : Start) → Ready s.args.beats.now s.args.rate (length s.args.file.now)
ready s = write_told _ _ _ s.requires

pub overflow_sub-beats : goal.overflow_sub-beats
overflow_sub-beats c = omega (arith, (ready (goal.at.overflow_sub-beats c).Start).two-beats)

pub front-head-requires : goal.front-head-requires
front-head-requires c = omega (arith, (ready (goal.at.front-head-requires c).Start).few-beats)

pub put_words-from-requires : goal.put_words-from-requires
put_words-from-requires c = omega (arith, (ready (goal.at.put_words-from-requires c).Start).enough, ap length c.front-head.ensures)

pub put_events-end-requires : goal.put_events-end-requires
put_events-end-requires c =
    let r = ready (goal.at.put_events-end-requires c).Start in
    record {
      rate_nonzero = (r.rate_some, omega (arith, r.two-beats));
      beats_value = (
        r.fits,
        omega (
          arith,
          r.enough,
          c.put_words-from.ensures.end_is,
          ap length c.front-head.ensures,
          put-length c.put_words-from.ensures,
        ),
      );
    }

pub put_end-requires : goal.put_end-requires
put_end-requires c =
    let r = ready (goal.at.put_end-requires c).Start in
    let gs = gaps_of c.args.rate c.args.beats.now in
    omega (
      arith,
      r.enough,
      c.put_words-from.ensures.end_is,
      ap length c.front-head.ensures,
      put-length c.put_words-from.ensures,
      c.put_events-end.ensures.end_is,
      put-length c.put_events-end.ensures,
      events_length 0 gs,
      gaps-length c.args.rate c.args.beats.now,
    )

pub returns : goal.returns
returns c =
    let beats = c.args.beats.now in
    let gs = gaps_of c.args.rate beats in
    let e = ap (λ (h : List ℕ). (h ++ tempo_events 0 gs) ++ track_end) c.front-head.ensures
    ∙ track_pieces gs (length beats - 1) (sym (gaps-length c.args.rate beats)) in
    put_named (put_then (put_then c.put_words-from.ensures c.put_events-end.ensures) c.put_end.ensures) e
