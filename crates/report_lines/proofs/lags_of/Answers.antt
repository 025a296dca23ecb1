-- `report_lines::lags_of` meets its contract: three candidates, whose lags fit. Assumes nothing.
use native.Mathlib.Omega.{arith}
use lib.Ieee.{nan}
use Rattle.tempo.specs.declared.Candidate.{Candidate}
use Rattle.report_lines.proofs.Lines.{three_lags}
use Rattle.report_lines.proofs.lags_of.Goals as goal

-- what stands for a candidate that is not there
abbrev missing : Candidate
missing = record { lag = 0; salience = nan }

pub overflow_cast-result : goal.overflow_cast-result
overflow_cast-result c = let h = c.requires in omega (arith, h 0 missing (omega arith), h 1 missing (omega arith), h 2 missing (omega arith))

pub overflow_cast-result-2 : goal.overflow_cast-result-2
overflow_cast-result-2 c = let h = c.requires in omega
    (arith, h 0 missing (omega arith), h 1 missing (omega arith), h 2 missing (omega arith))

pub overflow_cast-result-3 : goal.overflow_cast-result-3
overflow_cast-result-3 c = let h = c.requires in omega
    (arith, h 0 missing (omega arith), h 1 missing (omega arith), h 2 missing (omega arith))

pub returns : goal.returns
returns c =
    three_lags c.args.candidates missing c.well_formed.0.1.0.1
