-- `run_cases::part` meets its contract: from where part k begins, what is found first is its end. Assumes nothing.
use Rattle.run_cases.proofs.Texts.{part_at}
use Rattle.run_cases.proofs.part.Goals as goal

pub returns : goal.returns
returns c = part_at _ _ _ _ _ c.start-from.ensures.1 c.find-end.ensures.1
