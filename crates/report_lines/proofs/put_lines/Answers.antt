-- `report_lines::put_lines` meets its contract: the lists are the first entries of what is lent. Assumes nothing.
use Rattle.report_lines.proofs.Lines.{lines_put}
use Rattle.report_lines.proofs.put_lines.Goals as goal

pub returns : goal.returns
returns c =
    lines_put _ _ _ _ _ _ c.lags_of-lags.ensures c.counts_of-counts.ensures c.requires.0 c.put_report.ensures
