-- The seats of the lists without divisors.
use Rattle.std.specs.Prelude.{ℕ, List}

-- the seats of the lists of these groups, by constituency and then group
pub record SeatsOfLists : Type 0 where
  pub constituencies : ℕ
  pub groups : List ℕ
  pub seats : List ℕ
