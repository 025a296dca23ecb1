-- `report_feed::decided` meets its contract, by how far the input has come. Assumes nothing.
use Rattle.report_feed.proofs.Feeds.{decides_first, decides_text, decides_rows, decides_refused}
use Rattle.report_feed.proofs.decided.Goals as goal

pub returns-in-First : goal.returns-in-First
returns-in-First c = rw c.in-First.is decides_first

pub returns-in-Text : goal.returns-in-Text
returns-in-Text c = rw c.in-Text.is decides_text

pub returns-in-Rows : goal.returns-in-Rows
returns-in-Rows c = rw c.in-Rows.is decides_rows

pub returns-in-Refused : goal.returns-in-Refused
returns-in-Refused c = rw c.in-Refused.is decides_refused
