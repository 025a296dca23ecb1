-- `sections::boundary_times` meets its contract: a refusal returns at once, and without one all holds that the inner call asks (`times_told`). Assumes
-- nothing.
use Rattle.std.proofs.Common.{sym, ◌∙◌}
use Rattle.numbers.proofs.Outcomes.{written_on, written-done}
use Rattle.sections.specs.Times.{row_time}
use Rattle.sections.proofs.Bounds.{times_told}
use Rattle.sections.proofs.boundary_times.Goals as goal

pub returns-in_err-times_refusal : goal.returns-in_err-times_refusal
returns-in_err-times_refusal c = written_on _ _ _ _ _ c.from_residual.ensures.1 c.in_err-times_refusal.ensures

pub write_times-requires : goal.write_times-requires
write_times-requires c =
    (times_told _ _ _ _ (sym c.in_ok-times_refusal.ensures)).has_room

pub returns : goal.returns
unfolding row_time
returns c =
    written-done _ _ _ _ (sym c.in_ok-times_refusal.ensures) (rw c.frame_ms.ensures at c.write_times.ensures)
