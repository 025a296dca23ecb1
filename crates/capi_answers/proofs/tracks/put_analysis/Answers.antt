-- `capi_answers::tracks::put_analysis` meets its contract: a refusal is told by its number, and an answer stores its parts. Assumes nothing.
use mathlib.Core.Path.{refl}
use Rattle.numbers.proofs.Outcomes.{number-not_0}
use Rattle.capi_answers.proofs.Hands.{handed_refused, handed-done, tempo_made, track_made}
use Rattle.capi_answers.proofs.tracks.put_analysis.Goals as goal

pub returns-in-Ok : goal.returns-in-Ok
returns-in-Ok c = let t = c.put_tempo.ensures in
    let k = c.put_candidates.ensures in
    rw c.in-Ok.is (handed-done _ _ _ _ refl (track_made _ _ _ (tempo_made _ t.0 t.1 t.2 k.0 k.1) c.put_stability.ensures))

pub returns-in-Err : goal.returns-in-Err
returns-in-Err c = rw (c.in-Err.is, c.number.ensures) (handed_refused _ _ _ (number-not_0 _))
