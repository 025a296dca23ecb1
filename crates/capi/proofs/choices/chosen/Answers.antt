-- `capi::choices::chosen` meets its contract: the options with both bounds, and then the meter. Assumes nothing.
use mathlib.Core.Path.{ap, ◌∙◌}
use Rattle.options.specs.Options.{with_meter}
use Rattle.capi.proofs.choices.chosen.Goals as goal

pub returns : goal.returns
returns c = c.with_meter.ensures ∙ ap (with_meter _) c.between.ensures
