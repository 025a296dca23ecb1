-- `midi_events::put_event` meets its contract: three pieces, one behind the other. Assumes nothing.
use mathlib.Core.Path.{◌≡◌, ap, ◌∙◌}
use mathlib.Core.List.{List, [], ◌∷◌, ◌++◌}
use Prim.Native.Nat.{ℕ}
use Rattle.texts.proofs.Puts.{put_then, put_named}
use Rattle.midi_events.specs.File.{delta_of, tempo_event}
use Rattle.midi_events.proofs.put_event.Goals as goal

pub returns : goal.returns
returns c =
    let a = c.args in
    let e : ((c.delta_at.result ∷ []) ++ (255 ∷ 81 ∷ 3 ∷ [])) ++ c.tempo_bytes-bytes.result ≡ tempo_event (delta_of a.i) a.gap =
    ap (λ (d : ℕ). d ∷ 255 ∷ 81 ∷ 3 ∷ c.tempo_bytes-bytes.result) c.delta_at.ensures
    ∙ ap (λ (t : List ℕ). delta_of a.i ∷ 255 ∷ 81 ∷ 3 ∷ t) c.tempo_bytes-bytes.ensures in
    put_named (put_then (put_then c.put_byte-status.ensures c.put_words-tempo.ensures) c.put_words.ensures) e
