-- The fewest and the most seats of lists.
use Rattle.std.specs.Prelude.{ℕ, List}

-- the fewest and the most seats of the lists of these groups, by constituency and then group
pub record RangesOfLists : Type 0 where
  pub constituencies : ℕ
  pub groups : List ℕ
  pub least : List ℕ
  pub most : List ℕ
