-- `track_parts::lay_beats` meets its contract: a grid's beats are frames of the envelope, no more than it has, so neither call refuses. Assumes nothing.
use mathlib.Core.Path.{ap, ◌∙◌}
use native.Mathlib.Omega.{arith}
use lib.ListN.{length}
use Rattle.options.specs.Options.{with_meter}
use Rattle.beats.specs.Grids.{grid_refusal}
use Rattle.track_parts.proofs.Together.{beats-counted, grid-ok, downbeats-ok, laid_by}
use Rattle.track_parts.proofs.lay_beats.Goals as goal

pub unwrap-count-requires : goal.unwrap-count-requires
unwrap-count-requires c =
    let p = c.requires in
    grid-ok _ _ _ _ _ _ _ _ p.envelope_len_bound.0 p.envelope_len_bound.1 p.envelope_len_bound.2
    p.envelope_in_bounds.0 p.envelope_in_bounds.1 p.envelope_in_bounds.2 _ c.beat_grid.ensures

pub slice_bounds-downbeats-end : goal.slice_bounds-downbeats-end
slice_bounds-downbeats-end c =
    let a = c.args in
    let number = grid_refusal a.envelope.now a.period (length a.score.now) (length a.back.now) (length a.frames.now) in
    let g = rw c.unwrap-count.ensures at c.beat_grid.ensures in
    omega (arith, beats-counted a.envelope.now a.period number c.unwrap-count.result g.count_is)

pub unwrap-barred-requires : goal.unwrap-barred-requires
unwrap-barred-requires c =
    let p = c.requires in
    let o = c.with_meter-opts.ensures ∙ ap (with_meter _) c.new.ensures in
    downbeats-ok _ _ _ _ _ _ _ _ p.envelope_len_bound.0 p.envelope_len_bound.1 p.envelope_len_bound.2
    p.envelope_in_bounds.0 p.envelope_in_bounds.1 p.envelope_in_bounds.2 _ (rw c.unwrap-count.ensures at c.beat_grid.ensures)
    _ p.envelope_len_bound.3 _ p.envelope_in_bounds.3 _ _ (rw o at c.downbeats.ensures)

pub returns : goal.returns
returns c =
    let p = c.requires in
    let o = c.with_meter-opts.ensures ∙ ap (with_meter _) c.new.ensures in
    laid_by _ _ _ _ _ _ _ _ p.envelope_len_bound.0 p.envelope_len_bound.1 p.envelope_len_bound.2
    p.envelope_in_bounds.0 p.envelope_in_bounds.1 p.envelope_in_bounds.2 _ (rw c.unwrap-count.ensures at c.beat_grid.ensures)
    _ p.envelope_len_bound.3 _ p.envelope_in_bounds.3 _ _ (rw (c.unwrap-barred.ensures, o) at c.downbeats.ensures)
