use mathlib.Core.Path.{◌≡◌, sym, ap, ◌∙◌}
use mathlib.Core.List.{List, ◌++◌}
use Prim.Native.Nat.{ℕ, ◌≤◌, ◌-◌, ◌+◌, ◌*◌}
use native.Mathlib.Omega.{arith}
use lib.ListN.{length, take}
use lib.Seq.{take-length, length-take-le}
use Rattle.texts.specs.Texts.{Put}
use Rattle.texts.proofs.Puts.{put-none, put_then, put_named, put-length}
use Rattle.midi_gaps.specs.Gaps.{gaps_of}
use Rattle.midi_gaps.proofs.Gaps.{gaps-length, gap_in_list, gap_most}
use Rattle.midi_events.specs.File.{delta_of, tempo_event, tempo_events}
use Rattle.midi_events.proofs.Events.{events_length, no_events, events_more}
use Rattle.midi.proofs.put_events.Goals as goal

-- the place of event i
place : (beats : List ℕ) (rate from i at : ℕ) (file file₀ : List ℕ) → i ≤ length beats - 1
    → Put file₀ from (tempo_events 0 (take i (gaps_of rate beats))) at file → at ≡ from + i * 7
place beats rate from i at file file₀ h p =
    let gs = gaps_of rate beats in
    omega (arith, p.end_is, events_length 0 (take i gs), length-take-le i gs (omega (arith, gaps-length rate beats)))

pub loop-i-init : goal.loop-i-init
loop-i-init c = let a = c.args in put_named (put-none a.file.now a.from (omega arith)) (sym (no_events 0))

pub overflow_cast-gap : goal.overflow_cast-gap
overflow_cast-gap c =
    omega (arith, c.gap_at-gap.ensures, gap_most c.args.rate c.args.beats.now c.requires.beats_value.0 c.loop-i.i (omega arith))

pub put_event-at-requires : goal.put_event-at-requires
put_event-at-requires c =
    let i = c.loop-i.i in record {
      gap_bound = omega (arith, c.gap_at-gap.ensures, gap_most c.args.rate c.args.beats.now c.requires.beats_value.0 i (omega arith));
      at_in_bounds = omega (
        arith,
        place c.args.beats.now c.args.rate c.args.from i c.loop-i.at c.loop-i.file c.args.file.now (omega arith) c.loop-i.invariant,
        put-length c.loop-i.invariant,
      );
    }

pub loop-i-preserved : goal.loop-i-preserved
loop-i-preserved c =
    let rate = c.args.rate in
    let beats = c.args.beats.now in
    let gs = gaps_of rate beats in
    let i = c.loop-i.i in
    let e : tempo_events 0 (take i gs) ++ tempo_event (delta_of i) c.gap_at-gap.result ≡ tempo_events 0 (take (i + 1) gs) =
    ap (λ (g : ℕ). tempo_events 0 (take i gs) ++ tempo_event (delta_of i) g)
    (c.gap_at-gap.ensures ∙ sym (gap_in_list rate beats i (omega arith)))
    ∙ events_more gs i (omega (arith, gaps-length rate beats)) in
    put_named (put_then c.loop-i.invariant c.put_event-at.ensures) e

pub returns : goal.returns
returns c =
    let gs = gaps_of c.args.rate c.args.beats.now in
    let e : c.loop-i.i ≡ length gs = omega (arith, gaps-length c.args.rate c.args.beats.now) in
    put_named c.loop-i.invariant (ap (tempo_events 0) (ap (λ (n : ℕ). take n gs) e ∙ take-length gs))
