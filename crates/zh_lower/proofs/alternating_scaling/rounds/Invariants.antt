use Rattle.std.proofs.Common.{◌≡◌, ◌+◌, ◌*◌}
use Rattle.zh_matrices.specs.Asked.{asked}
use Rattle.zh_matrices.specs.Divisors.{AreWithinLimits}
use Rattle.zh_lower.specs.Outcomes.{NoneBefore}
use Rattle.zh_lower.specs.Places.{quotients}
use Rattle.zh_lower.specs.SearchRooms.{IsSearchRoom, divisors_of}
use Rattle.zh_lower.specs.States.{state}
use Rattle.zh_lower.proofs.alternating_scaling.rounds.Given as goal

abbrev pub invariant-loop-round : goal.invariant-loop-round
invariant-loop-round l = record {
  limits : AreWithinLimits (asked l.question) l.state.of_rows.items l.state.of_columns.items;
  room : IsSearchRoom (asked l.question) l.room;
  quotients : l.room.quotients.items ≡ quotients (asked l.question) (divisors_of l.state);
  at : divisors_of l.state ≡ state (asked l.question) (2 * l._round);
  none : NoneBefore (asked l.question) (2 * l._round + 1);
}
