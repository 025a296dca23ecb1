-- `run_feed::fed` meets its contract. The invariant: what comes before what the iterator has left has come. Assumes nothing.
use Rattle.run_feed.proofs.Parts.{Part}
use Rattle.run_feed.proofs.fed.Given as goal

abbrev pub invariant-loop-part : goal.invariant-loop-part
invariant-loop-part l = Part l.input l.part-iterator.rest.now l.feed l.held l.kept l.initial.flux l.flux
