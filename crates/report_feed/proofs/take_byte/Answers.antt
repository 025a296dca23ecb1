-- `report_feed::take_byte` meets its contract, by how far the input has come. Assumes nothing.
use Rattle.report_feed.proofs.Feeds.{ready_at, step_at, first_fits, text-fits, step_first, step_text, step_refused}
use Rattle.report_feed.proofs.take_byte.Goals as goal

pub take_first-requires : goal.take_first-requires
take_first-requires c = first_fits (ready_at c.in-First.is c.requires)

pub take_text-requires : goal.take_text-requires
take_text-requires c = text-fits (ready_at c.in-Text.is c.requires)

pub take_data-requires : goal.take_data-requires
take_data-requires c = ready_at c.in-Rows.is
    c.requires

pub returns-in-First : goal.returns-in-First
returns-in-First c =
    let told = c.in-First.is in
    step_at told (step_first (ready_at told c.requires)
    c.take_first.ensures)

pub returns-in-Text : goal.returns-in-Text
returns-in-Text c =
    let told = c.in-Text.is in
    step_at told (step_text (ready_at told c.requires)
    c.take_text.ensures)

pub returns-in-Rows : goal.returns-in-Rows
returns-in-Rows c = step_at c.in-Rows.is
    c.take_data.ensures

pub returns-in-Refused : goal.returns-in-Refused
returns-in-Refused c =
    let told = c.in-Refused.is in
    step_at told (step_refused (ready_at told c.requires))
