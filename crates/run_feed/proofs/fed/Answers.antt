use mathlib.Core.Path.{◌≡◌}
use Rattle.run_feed.proofs.Parts.{part_none, part_more, part_end}
use Rattle.run_feed.proofs.fed.Goals as goal

pub loop-part-init : goal.loop-part-init
loop-part-init c =
    let pre = c.requires in
    let rest : c.into_iter-part-iterator.result.rest.now ≡ c.args.input.now = cc in
    part_none rest (c.begun-feed.ensures.fed _ _ _ pre.le_size.1 pre.le_size.2 pre.le_size.3 pre.kept_value)

pub take_bytes-feed-requires : goal.take_bytes-feed-requires
take_bytes-feed-requires c = c.loop-part.invariant.fed.ready

pub loop-part-preserved : goal.loop-part-preserved
loop-part-preserved c = part_more c.in-Some.ensures.steps.1.0 c.take_bytes-feed.ensures c.loop-part.invariant

pub returns : goal.returns
returns c = c.closed.ensures.tells _ _ _ _ _ (part_end c.in-None.ensures.steps.1.0 c.loop-part.invariant)
