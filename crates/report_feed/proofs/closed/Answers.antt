-- `report_feed::closed` meets its contract, by how far the input has come. Assumes nothing.
use mathlib.Core.Path.{◌∙◌}
use Rattle.report_feed.proofs.Feeds.{closes_first, closes_text, closes_rows, closes_refused}
use Rattle.report_feed.proofs.closed.Goals as goal

pub returns-in-First : goal.returns-in-First
returns-in-First c = rw (c.in-First.is, c.refused.ensures) closes_first

pub returns-in-Text : goal.returns-in-Text
returns-in-Text c = rw (c.in-Text.is, c.refused-in-Text.ensures) closes_text

pub returns-in-Rows : goal.returns-in-Rows
returns-in-Rows c = rw c.in-Rows.is (closes_rows (c.number_of-number.ensures ∙ c.refusal_of-refusal.ensures))

pub returns-in-Refused : goal.returns-in-Refused
returns-in-Refused c = rw (c.in-Refused.is, c.refused-in-Refused.ensures) closes_refused
