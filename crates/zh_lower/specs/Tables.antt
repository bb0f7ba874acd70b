-- The tables of a search.
use Rattle.zh_decided.specs.Rooms.{IsDecisionRoom}
use Rattle.zh_matrices.specs.Question.{Question}
use Rattle.zh_lower.specs.SearchRooms.{IsSearchRoom, IsBeforeStart}
use Rattle.zh_lower.specs.Rooms.{IsDivisorRoom}
use Rattle.zh_lower.specs.declared.apportionment.Tables.{Tables}

-- tables of the right sizes, with any content
pub record AreTables (q : Question) (tables : Tables) : Type 0 where
  pub room : IsSearchRoom q tables.room
  pub decision : IsDecisionRoom q.rows q.columns tables.decision
  pub divisors : IsDivisorRoom q tables.divisors

-- tables on which the search has not begun
pub record AreStarted (q : Question) (tables : Tables) : Type 0 where
  pub sized : AreTables q tables
  pub unstarted : IsBeforeStart q tables.state
