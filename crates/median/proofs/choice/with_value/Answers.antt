use Rattle.median.proofs.choice.with_value.Goals as goal

pub lower-requires : goal.lower-requires
lower-requires c = tt

pub higher-requires : goal.higher-requires
higher-requires c = tt

pub lower-requires-in-loop-i : goal.lower-requires-in-loop-i
lower-requires-in-loop-i c = tt

pub returns : goal.returns
returns c = tt
