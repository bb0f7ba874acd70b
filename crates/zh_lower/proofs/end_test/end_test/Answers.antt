use Rattle.std.proofs.Common.{refl, ◌∙◌}
use Rattle.zh_matrices.specs.Asked.{asked}
use Rattle.zh_lower.specs.SearchRooms.{divisors_of}
use Rattle.zh_lower.proofs.BoundLemmas.{not_tied-without}
use Rattle.zh_lower.proofs.PlaceLemmas.{HasNone-tested, rounded-few}
use Rattle.zh_lower.proofs.end_test.end_test.Goals as goal

pub are_strict-requires-clause-room : goal.are_strict-requires-clause-room
are_strict-requires-clause-room c = c.round_cells.ensures.room

pub are_strict-requires-clause-few : goal.are_strict-requires-clause-few
are_strict-requires-clause-few c =
    rw c.round_cells.ensures.seats (rounded-few (asked c.args.question.now) (divisors_of c.args.state.now))

pub returns-then-are_strict-clause-ends : goal.returns-then-are_strict-clause-ends
returns-then-are_strict-clause-ends c = c.are_strict.ensures.0 c.if-are_strict.true

pub returns-then-are_strict-clause-room : goal.returns-then-are_strict-clause-room
returns-then-are_strict-clause-room c = c.round_cells.ensures.room

pub first_half-requires : goal.first_half-requires
first_half-requires c = c.round_cells.ensures.room.quotients

pub find_two_ways-requires-clause-room : goal.find_two_ways-requires-clause-room
find_two_ways-requires-clause-room c = c.round_cells.ensures.room

pub returns-then-find_two_ways-clause-quotients : goal.returns-then-find_two_ways-clause-quotients
returns-then-find_two_ways-clause-quotients c = c.find_two_ways.ensures.quotients ∙ c.round_cells.ensures.quotients

pub returns-else-find_two_ways-clause-quotients : goal.returns-else-find_two_ways-clause-quotients
returns-else-find_two_ways-clause-quotients c = c.find_two_ways.ensures.quotients ∙ c.round_cells.ensures.quotients

pub returns-else-find_two_ways-clause-none : goal.returns-else-find_two_ways-clause-none
returns-else-find_two_ways-clause-none c = record {
  none = HasNone-tested (asked c.args.question.now) _ c.round_cells.new.room.seats.items _ c.requires.proper refl c.round_cells.ensures.seats
      c.are_strict.ensures c.if-are_strict.false;
  not_tied = c.if-find_two_ways.ensures.none;
}

pub returns-in_default-clause-none : goal.returns-in_default-clause-none
returns-in_default-clause-none c = record {
  none = HasNone-tested (asked c.args.question.now) _ c.round_cells.new.room.seats.items _ c.requires.proper refl c.round_cells.ensures.seats
      c.are_strict.ensures c.if-are_strict.false;
  not_tied = not_tied-without (asked c.args.question.now) c.args.state.now.of_rows.items c.args.state.now.of_columns.items
      (c.in_default.ensures.none _ _ c.round_cells.ensures.quotients);
}
