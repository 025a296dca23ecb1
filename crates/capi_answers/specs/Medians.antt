-- An answer of `median_of` or `mad_of`, handed over.
use Rattle.std.specs.Prelude.{ℕ, ◌≡◌, List, get_or, Float}

-- Inner: of what an answer says, the number is returned, and the lent number, which held `value₀`, holds the value, or what it held where there
-- is none.
pub record ValueHanded (said : ℕ × List Float) (value₀ : Float) (answer : ℕ) (value : Float) : Type 0 where
  pub number_is : answer ≡ said.0
  pub value_is : value ≡ get_or said.1 0 value₀
