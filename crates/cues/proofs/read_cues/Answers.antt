use native.Mathlib.Omega.{arith}
use mathlib.Core.List.{List, ◌++◌}
use lib.ListN.{set, drop}
use Rattle.numbers.specs.Lists.{curve, listed}
use Rattle.numbers.proofs.Tabs.{filled_none, filled_more, filled-whole, length-tab}
use Rattle.cue_points.specs.Chunks.{count_of, chunk_frames}
use Rattle.cues.specs.Calls.{read_cues_number}
use Rattle.numbers.proofs.Outcomes.{lists_on, lists_done}
use Rattle.cues.proofs.Calls.{Readable, chunk_told, read_told}
use Prim.Native.Nat.{ℕ, ◌+◌, ◌*◌, ◌≤◌}
use mathlib.Core.Path.{◌≡◌, refl, sym, ap, ◌∙◌}
use lib.ListN.{length}
use Rattle.numbers.specs.Lists.{filled}
use Rattle.cue_points.specs.Chunks.{point_frame}
use Rattle.cues.proofs.read_cues.Goals.{After-point_count-n}
use Rattle.cues.proofs.read_cues.Goals as goal

-- past the refusal the chunk is readable
readable : (chunk : List ℕ) (room : ℕ) → read_cues_number chunk room ≡ 0 → Readable chunk × (count_of chunk ≤ room)
readable chunk room z = let t = read_told chunk room z in (chunk_told chunk t.0, t.1)

whole : (c : After-point_count-n) → length c.args.chunk.now ≡ 12 + 24 * c.point_count-n.result
whole c = (readable _ _ (sym c.in_ok-read_refusal.ensures)).0.whole ∙ ap (λ (k : ℕ). 12 + 24 * k) (sym c.point_count-n.ensures)

fits : (c : After-point_count-n) → c.point_count-n.result ≤ length c.args.frames.now
fits c = omega (arith, (readable _ _ (sym c.in_ok-read_refusal.ensures)).1, c.point_count-n.ensures)

pub returns-in_err-read_refusal : goal.returns-in_err-read_refusal
returns-in_err-read_refusal c = lists_on _ _ _ _ _ c.from_residual.ensures.1 c.in_err-read_refusal.ensures

pub point_count-n-requires : goal.point_count-n-requires
point_count-n-requires c = omega (arith, (readable _ _ (sym c.in_ok-read_refusal.ensures)).0.whole)

pub loop-i-init : goal.loop-i-init
loop-i-init c = sym (filled_none _ _ 0)

pub frame_at-requires : goal.frame_at-requires
frame_at-requires c = omega (arith, whole (goal.at.frame_at-requires c).After-point_count-n)

pub bounds-frames-i : goal.bounds-frames-i
bounds-frames-i c = omega (arith, fits (goal.at.bounds-frames-i c).After-point_count-n)

pub loop-i-preserved : goal.loop-i-preserved
loop-i-preserved c =
    let chunk = c.args.chunk.now in
    let frames = c.args.frames.now in
    let i = c.loop-i.i in
    ap (set c.loop-i.frames i) c.frame_at.ensures.0
    ∙ ap (λ (r : List ℕ). set r i (point_frame chunk i)) c.loop-i.invariant
    ∙ filled_more (point_frame chunk) frames 0 i (omega arith) 0 (omega (arith, fits (goal.at.loop-i-preserved c).After-point_count-n))

pub returns : goal.returns
unfolding chunk_frames listed
returns c =
    let chunk = c.args.chunk.now in
    let frames = c.args.frames.now in
    let all : c.loop-i.i ≡ count_of chunk = omega (arith, c.point_count-n.ensures) in
    let m : length (curve (point_frame chunk) (count_of chunk)) ≡ count_of chunk = length-tab (point_frame chunk) 0 (count_of chunk) in
    lists_done (read_cues_number chunk (length frames)) (chunk_frames chunk) frames _ c.loop-i.frames (sym c.in_ok-read_refusal.ensures) refl
    (c.point_count-n.ensures ∙ sym m)
    (c.loop-i.invariant ∙ ap (filled (point_frame chunk) frames 0) all ∙ filled-whole (point_frame chunk) frames (count_of chunk)
    ∙ ap (λ (k : ℕ). curve (point_frame chunk) (count_of chunk) ++ drop k frames) (sym m))
