-- `kernels::kernel` meets its contract: antt compares each of the 256 entries of the constant with its sign times its weight, the weights being those
-- that Weights computes from their definition. Assumes nothing.
use mathlib.Core.Path.{◌∙◌}
use lib.Ieee.{of_bits, mul, neg, round, units, size, span, climb, odd, of_fields}
use Rattle.kernels.specs.Kernel.{sign_at}
use Rattle.kernels.proofs.Tables.{table_is}
use Rattle.kernels.proofs.Weights.{weight_bits, known, known_table, table_known}
use Rattle.kernels.proofs.kernel.Goals as goal

pub returns : goal.returns
unfolding sign_at weight_bits known of_bits mul neg round units size span climb odd of_fields
returns c = table_is _ known_table tt ∙ table_known
