-- `report_npy::read_preamble` meets its contract: a law for each of the three returns. Assumes nothing.
use mathlib.Core.Path.{sym, ap, ◌∙◌}
use mathlib.Core.Bool.{not}
use Prim.Native.Nat.{ℕ, ◌+◌, ◌*◌}
use lib.ListN.{get_or}
use Rattle.std.specs.Prelude.{Some}
use Rattle.texts.proofs.Texts.{fails, holds}
use Rattle.report_npy.proofs.Preambles.{preamble_malformed, preamble_short, preamble_length_lem}
use Rattle.report_npy.proofs.read_preamble.Goals as goal

pub returns-then-not-stands : goal.returns-then-not-stands
returns-then-not-stands c =
    let bytes = c.args.bytes.now in
    sym (preamble_malformed bytes (fails _ _ c.stands.ensures (ap not c.if-not-stands.true)))

pub returns-then-bytes-lt-FIRST : goal.returns-then-bytes-lt-FIRST
returns-then-bytes-lt-FIRST c =
    let bytes = c.args.bytes.now in
    sym (preamble_short bytes (holds _ _ c.stands.ensures (ap not c.if-not-stands.false)) c.if-bytes-lt-FIRST.true)

pub returns : goal.returns
returns c =
    let bytes = c.args.bytes.now in
    let whole = preamble_length_lem bytes (holds _ _ c.stands.ensures (ap not c.if-not-stands.false)) c.if-bytes-lt-FIRST.false in
    ap (λ (a : ℕ). Some (a + c.from-2.result * 256)) c.from.ensures
    ∙ ap (λ (b : ℕ). Some (get_or bytes 8 0 + b * 256)) c.from-2.ensures
    ∙ sym whole
