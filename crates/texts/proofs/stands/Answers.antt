-- `texts::stands` meets its contract: `starts_with` tests byte by byte, as the definition does. Assumes nothing.
use mathlib.Core.Path.{ap, ◌∙◌}
use Rattle.texts.specs.Texts.{starts}
use Rattle.texts.proofs.Texts.{starts-tested}
use Rattle.texts.proofs.stands.Goals as goal

pub returns : goal.returns
returns c =
    c.starts_with.ensures.value
    ∙ starts-tested c.args.bytes.now c.rest_of.result.now
    ∙ ap (starts c.args.bytes.now) c.rest_of.ensures
