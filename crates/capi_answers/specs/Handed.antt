-- How an answer of the library is handed over: the number of the proved call is returned, and the parts of its answer go into lent numbers; a
-- refusal leaves those as they were.
use Rattle.std.specs.Prelude.{ℕ, ◌≡◌}
use Rattle.numbers.specs.Refusals.{unless_refused}

-- This number is returned, and what is lent, which held `lent₀`, then holds these parts, or what it held where the number refuses.
pub record Handed {A : Type 0} (number : ℕ) (parts lent₀ : A) (answer : ℕ) (lent : A) : Type 0 where
  pub number_is : answer ≡ number
  pub parts_are : lent ≡ unless_refused number parts lent₀
