use mathlib.Core.Bool.{true}
use mathlib.Core.List.{List}
use mathlib.Core.Path.{◌≡◌, sym, ap, ◌∙◌}
use Prim.Native.Nat.{ℕ, ◌+◌, ◌*◌, ◌≤◌, ◌<◌}
use native.Mathlib.Omega.{arith}
use lib.ListN.{length, get_or}
use borrow.Author.Tests.{leb-true}
use Rattle.numbers.specs.Limits.{most_frame, frame_fine}
use Rattle.numbers.specs.Lists.{every, over}
use Rattle.numbers.proofs.Everys.{every-at}
use Rattle.texts.proofs.Puts.{put-none, put_then}
use Rattle.cue_points.specs.Chunks.{offsets_of}
use Rattle.cues.proofs.Chunks.{points_none, points_more, points_all, points_length, points_to_length, offsets_length}
use Rattle.cues.proofs.put_points.Goals as goal

pub loop-i-init : goal.loop-i-init
loop-i-init c = rw (points_none c.args.frames.now) (put-none c.args.out.now 12 (omega (arith, c.requires)))

-- a frame of the list is one that is listed
listed_at : (frames : List ℕ) (i : ℕ) → every frame_fine frames ≡ true → i < length frames → get_or frames i 0 ≤ most_frame
listed_at frames i e h = leb-true (get_or frames i 0) most_frame (every-at frame_fine frames i 0 e h)

pub overflow_mul-t : goal.overflow_mul-t
overflow_mul-t c = omega (arith, listed_at c.args.frames.now c.loop-i.i c.requires.frames_value (omega arith))

pub overflow_add-t : goal.overflow_add-t
overflow_add-t c = omega (arith, listed_at c.args.frames.now c.loop-i.i c.requires.frames_value (omega arith))

pub put_point-at-requires-clause-at_in_bounds : goal.put_point-at-requires-clause-at_in_bounds
put_point-at-requires-clause-at_in_bounds c =
    omega (arith, c.requires.frames_in_bounds, c.loop-i.invariant.end_is, points_to_length c.args.frames.now c.loop-i.i (omega arith))

pub loop-i-preserved : goal.loop-i-preserved
loop-i-preserved c = rw (points_more c.args.frames.now c.loop-i.i (omega arith)) (put_then c.loop-i.invariant c.put_point-at.ensures)

pub returns : goal.returns
returns c =
    let frames = c.args.frames.now in
    let all : c.loop-i.i ≡ length frames = omega arith in
    record {
      end_is = ap (λ (n : ℕ). 12 + n) (sym (points_length (offsets_of frames) 0 ∙ ap (λ (n : ℕ). 24 * n) (offsets_length frames)));
      fits = c.requires.frames_in_bounds;
      bytes_are = c.loop-i.invariant.bytes_are ∙ ap (over c.args.out.now 12) (points_all frames c.loop-i.i all);
    }
