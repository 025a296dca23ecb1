-- `track::winners_lag` meets its contract. Assumes nothing.
use mathlib.Core.Path.{refl}
use lib.Ieee.{nan}
use Rattle.tempo.specs.Answers.{unused}
use Rattle.track.proofs.Whole.{first_lag}
use Rattle.track.proofs.winners_lag.Goals as goal

pub returns : goal.returns
returns c = first_lag c.args.tempo.candidates (record { lag = 0; salience = nan }) unused refl
