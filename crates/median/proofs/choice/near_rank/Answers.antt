use Rattle.median.proofs.choice.near_rank.Goals as goal

pub saturating_sub-requires : goal.saturating_sub-requires
saturating_sub-requires c = tt

pub saturating_sub-at-requires : goal.saturating_sub-at-requires
saturating_sub-at-requires c = tt

pub with_value-least-requires : goal.with_value-least-requires
with_value-least-requires c = tt

pub min-requires : goal.min-requires
min-requires c = tt

pub returns : goal.returns
returns c = tt
