use Rattle.median.proofs.choice.by_halves.Goals as goal

pub value_of-value-requires : goal.value_of-value-requires
value_of-value-requires c = tt

pub value_of-requires : goal.value_of-requires
value_of-requires c = tt

pub returns : goal.returns
returns c = tt
