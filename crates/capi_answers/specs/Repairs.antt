-- An answer of `patch_magnitudes` or `patch_features`, handed over.
use Rattle.std.specs.Prelude.{ℕ, ◌≡◌, List}
use Rattle.numbers.specs.Lists.{listed}

-- Inner: of what an answer says, the number is returned, and the four lent numbers, which held `lent₀`, hold the slots that it names, or what they
-- held where it names none.
pub record SlotsHanded (said : ℕ × List ℕ) (lent₀ : List ℕ) (answer : ℕ) (lent : List ℕ) : Type 0 where
  pub number_is : answer ≡ said.0
  pub slots_are : lent ≡ listed said.1 lent₀
