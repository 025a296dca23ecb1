-- `features::fill_group` meets its contract: each lane has the rows of one feature row, and writes it where there is one. Assumes nothing.
use native.Mathlib.Omega.{arith}
use Prim.Native.Nat.{◌+◌}
use mathlib.Core.Path.{◌∙◌}
use Rattle.features.proofs.Groups.{split_next, no_sums}
use Rattle.features.proofs.Written.{split_at, group_is}
use Rattle.features.proofs.fill_group.Goals as goal

pub add_rows-requires : goal.add_rows-requires
add_rows-requires c =
    let r = c.requires.0 in (
      (r.whole, r.strengths, c.requires.1),
      (
        c.past_of-p1.ensures.0,
        c.past_of-p2.ensures.0,
        c.past_of-p3.ensures.0,
        c.past_of-p4.ensures.0,
        c.past_of-p4.ensures.1,
        r.rows_fine,
      ),
      c.requires.3,
      no_sums,
    )

pub put_lanes-requires : goal.put_lanes-requires
put_lanes-requires c =
    let r = c.requires.0 in
    let e = c.add_rows.ensures in
    (e.classes_whole, e.bands_whole, omega (arith, c.requires.4, r.count_fine), r.count_fine, r.room)

pub returns : goal.returns
returns c =
    let r = c.requires.0 in
    let i = c.args.i in
    let e₁ = c.past_of-p1.ensures in
    let e₂ = c.past_of-p2.ensures in
    let e₃ = c.past_of-p3.ensures in
    let e₄ = c.past_of-p4.ensures in
    let s₁ = split_next r i _ _ c.requires.5 e₁.0 e₁.1 e₁.2 e₁.3 in
    let s₂ = split_at (i + 1 + 1) (i + 2) (omega arith) (split_next r (i + 1) _ _ s₁ e₂.0 e₂.1 e₂.2 e₂.3) in
    let s₃ = split_at (i + 2 + 1) (i + 3) (omega arith) (split_next r (i + 2) _ _ s₂ e₃.0 e₃.1 e₃.2 e₃.3) in
    let s₄ = split_at (i + 3 + 1) (i + 4) (omega arith) (split_next r (i + 3) _ _ s₃ e₄.0 e₄.1 e₄.2 e₄.3) in (
      s₄,
      c.put_lanes.ensures
          ∙ group_is c.args.magnitudes.now c.args.rows c.args.samples.now c.args.grid c.args.codes.now c.requires.2
          c.args.features.now r.room i c.requires.4 _ _ _ _ _ _ _ _
          (record { first = c.requires.5; second = s₁; third = s₂; fourth = s₃; last = s₄; order₁ = e₁.0; order₂ = e₂.0; order₃ = e₃.0; order₄ = e₄.0 })
          c.add_rows.ensures c.levels_of-rms.ensures,
    )
