-- `report_read::read_all` meets its contract. The invariant: there is an input that has come so far. Assumes nothing.
use Rattle.report_read.specs.Reads.{Coming}
use Rattle.report_read.proofs.read_all.Given as goal

abbrev pub invariant-loop : goal.invariant-loop
invariant-loop g l = Coming l.feed l.held l.kept l.initial.flux l.flux
