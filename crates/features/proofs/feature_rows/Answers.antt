-- `features::feature_rows` meets its contract: a refusal leaves the lent list as it was, and past it the feature rows are written. Assumes nothing.
use mathlib.Core.Path.{sym, ◌∙◌}
use Rattle.feature_places.specs.Places.{feature_grid}
use Rattle.numbers.proofs.Outcomes.{written_on, written-done}
use Rattle.features.proofs.Groups.{table_of, ready_of}
use Rattle.features.proofs.feature_rows.Goals as goal

pub returns-in_err-refusal : goal.returns-in_err-refusal
returns-in_err-refusal c = written_on _ _ _ _ _ c.from_residual.ensures.1 c.in_err-refusal.ensures

pub fill_features-requires : goal.fill_features-requires
fill_features-requires c =
    let a = c.args in
    let codes = c.fill_codes.ensures in (
      ready_of a.magnitudes.now a.rows a.samples.now (feature_grid a.rate a.length a.count) a.features.now
          (sym c.in_ok-refusal.ensures),
      codes,
      table_of _ _ _ codes c.fill_pasts.ensures,
    )

pub returns : goal.returns
returns c =
    written-done _ _ _ _ (sym c.in_ok-refusal.ensures) c.fill_features.ensures
