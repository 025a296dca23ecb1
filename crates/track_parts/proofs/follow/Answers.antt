-- `track_parts::follow` meets its contract: lag 0 leaves all as it was, and at any other neither part is refused. Assumes nothing.
use Rattle.lags.proofs.Ranges.{fine_meter}
use Rattle.track_parts.proofs.Follows.{followed_none, stability-ok, followed_by}
use borrow.Author.Rules.{rules}
use Rattle.track_parts.proofs.follow.Goals as goal

pub returns-then-lag-eq0 : goal.returns-then-lag-eq0
returns-then-lag-eq0 c = followed_none _ _ _ _ _ _ _ _ _ _ _ c.if-lag-eq0.true

pub unwrap-stability-requires : goal.unwrap-stability-requires
unwrap-stability-requires c =
    let p = c.requires in
    stability-ok _ _ _ _ _ _ _ p.envelope_len_bound.0 p.envelope_len_bound.3 p.envelope_len_bound.1 p.envelope_len_bound.2
    p.opts_in_bounds.0 p.opts_in_bounds.1 p.opts_in_bounds.2 _ _ _ _ c.stability_of.ensures

pub lay_beats-laid-requires : goal.lay_beats-laid-requires
lay_beats-laid-requires c = search (rules, fine_meter)

pub returns : goal.returns
returns c =
    let p = c.requires in
    followed_by _ _ _ _ _ _ _ p.envelope_len_bound.0 p.envelope_len_bound.3 p.envelope_len_bound.1 p.envelope_len_bound.2
    p.opts_in_bounds.0 p.opts_in_bounds.1 p.opts_in_bounds.2 _ _ _ _ _ _ _ _ _ _ _ _ _
    (rw c.unwrap-stability.ensures at c.stability_of.ensures) c.lay_beats-laid.ensures
