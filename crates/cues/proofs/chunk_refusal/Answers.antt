use mathlib.Core.Path.{◌≡◌, sym, ap, ◌∙◌}
use mathlib.Core.Bool.{true}
use Prim.Native.Nat.{◌+◌}
use native.Mathlib.Omega.{arith}
use lib.ListN.{length}
use Rattle.texts.proofs.Texts.{fails, holds}
use Rattle.lists.specs.declared.Reading.{Reading}
use Rattle.lists.specs.Grids.{unread}
use Rattle.cue_points.specs.Chunks.{chunk_length, head_fine, all_from, point_fine, offset_read, count_of}
use Rattle.cue_points.proofs.Heads.{head_says}
use Rattle.cues.proofs.Runs.{all_pass, all_fail, all_end, all_start}
use Rattle.cues.proofs.Calls.{chunk_head, chunk_points, chunk_judged, judged_from, judged_start, judged_step, judged_end}
use mathlib.Core.Bool.{not}
use Rattle.cues.proofs.chunk_refusal.Goals.{After-point_count-n, Else-not-head_fine}
use Rattle.cues.proofs.chunk_refusal.Goals as goal

-- the head is fine
head-holds : (c : Else-not-head_fine) → head_fine c.args.chunk.now ≡ true
head-holds c = holds _ _ c.head_fine.ensures (ap not c.if-not-head_fine.false)

-- so that the bytes are as many as the points say
whole : (c : After-point_count-n) → length c.args.chunk.now ≡ chunk_length c.point_count-n.result
whole c =
    let head-holds-here : head_fine c.args.chunk.now ≡ true = holds _ _ c.head_fine.ensures (ap not c.if-not-head_fine.false) in
    (head_says _ (head-holds-here)).whole ∙ ap chunk_length (sym c.point_count-n.ensures)

pub returns-then-not-head_fine : goal.returns-then-not-head_fine
returns-then-not-head_fine c = sym (chunk_head c.args.chunk.now (fails _ _ c.head_fine.ensures (ap not c.if-not-head_fine.true)))

pub point_count-n-requires : goal.point_count-n-requires
point_count-n-requires c = omega (arith, (head_says _ (head-holds (goal.at.point_count-n-requires c).Else-not-head_fine)).whole)

pub loop-i-init : goal.loop-i-init
loop-i-init c =
    let chunk = c.args.chunk.now in
    let n = c.point_count-n.result in
    (all_start (point_fine chunk) n, ap (λ (j : Reading). judged_from chunk j 0 n) (sym c.unread-j.ensures))

pub point_fine-requires : goal.point_fine-requires
point_fine-requires c = let w = whole (goal.at.point_fine-requires c).After-point_count-n in record { i_bound = omega (arith, w); i_in_bounds = omega (arith, w) }

pub returns-then-not-point_fine : goal.returns-then-not-point_fine
returns-then-not-point_fine c =
    let chunk = c.args.chunk.now in
    let n = c.point_count-n.ensures in
    sym (chunk_points chunk (head-holds (goal.at.returns-then-not-point_fine c).Else-not-head_fine)
    (ap (all_from (point_fine chunk) 0) (sym n)
    ∙ c.loop-i.invariant.0
    ∙ all_fail (point_fine chunk) c.loop-i.i c.point_count-n.result (omega arith) (fails _ _ c.point_fine.ensures (ap not c.if-not-point_fine.true))))

pub offset_at-requires : goal.offset_at-requires
offset_at-requires c = let w = whole (goal.at.offset_at-requires c).After-point_count-n in omega (arith, w)

pub loop-i-preserved : goal.loop-i-preserved
loop-i-preserved c =
    let chunk = c.args.chunk.now in
    let n = c.point_count-n.result in
    let i = c.loop-i.i in (
      c.loop-i.invariant.0 ∙ all_pass (point_fine chunk) i n (omega arith) (holds _ _ c.point_fine.ensures
          (ap not c.if-not-point_fine.false)),
      c.loop-i.invariant.1 ∙ judged_step chunk c.loop-i.j i n (omega arith)
          ∙ ap (λ (j : Reading). judged_from chunk j (i + 1) n) (sym (c.read_offset-j.ensures ∙ ap (offset_read c.loop-i.j) c.offset_at.ensures)),
    )

pub returns : goal.returns
returns c =
    let chunk = c.args.chunk.now in
    let n = c.point_count-n.result in
    let same = c.point_count-n.ensures in
    let past = c.loop-i-test.false in
    let points : all_from (point_fine chunk) 0 (count_of chunk) ≡ true
    = ap (all_from (point_fine chunk) 0) (sym same) ∙ c.loop-i.invariant.0 ∙ all_end (point_fine chunk) c.loop-i.i n past in
    c.read_refusal.ensures
    ∙ sym (chunk_judged chunk (head-holds (goal.at.returns c).Else-not-head_fine) points ∙ judged_start chunk unread (count_of chunk) ∙ ap (judged_from chunk unread 0) (sym same)
    ∙ c.loop-i.invariant.1 ∙ judged_end chunk c.loop-i.j c.loop-i.i n past)
