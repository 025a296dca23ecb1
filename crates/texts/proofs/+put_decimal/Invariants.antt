-- `texts::put_decimal` meets its contract: the last digit stands behind those before it, which the call of itself writes. The measure is the number.
-- Assumes nothing.
use Rattle.texts.proofs.+put_decimal.Given as goal

abbrev pub decreases-put_decimal : goal.decreases-put_decimal
decreases-put_decimal l = l.n
