use Rattle.std.proofs.Common.{◌≡◌, arith, inl, rules}
use Rattle.std.proofs.lemmas.Grind.{common_steps}
use Rattle.zh_matrices.specs.Asked.{asked}
use Rattle.zh_matrices.specs.SeatMatrix.{IsStrict}
use Rattle.zh_lower.specs.Outcomes.{AreTwoWays, IsFirstHalf, IsReached}
use Rattle.zh_lower.specs.SearchRooms.{divisors_of}
use Rattle.zh_lower.proofs.SeatingLemmas.{seated, tied}
use Rattle.zh_lower.proofs.apportionment.seats_on.Goals as goal

pub returns-in-Some-Found : goal.returns-in-Some-Found
returns-in-Some-Found c =
    let same : c.found_on.result ≡ record {
      seats = c.search-ending.new.room.seats.items;
      divisors = divisors_of c.search-ending.new.state;
    } = first_of (search rules, grind (arith, common_steps), cc) in
    let strict : IsStrict (asked c.args.question.now) (divisors_of c.search-ending.new.state) c.search-ending.new.room.seats.items
    = first_of (search rules, grind (arith, common_steps), cc) in
    let reached : IsReached (asked c.args.question.now) (divisors_of c.search-ending.new.state)
    = first_of (search rules, grind (arith, common_steps), cc) in
    seated (asked c.args.question.now) c.found_on.result c.search-ending.new.room.seats.items c.search-ending.new.state.of_rows.items
    c.search-ending.new.state.of_columns.items c.requires.proper same strict c.search-ending.ensures.limits (inl reached)

pub returns-in-Some-Tied : goal.returns-in-Some-Tied
returns-in-Some-Tied c =
    let same : c.tie_on.result ≡ record {
      row = c.in-Some-Tied.row;
      column = c.in-Some-Tied.column;
      divisors = c.search-ending.new.state;
      seats = c.search-ending.new.room.seats;
    } = first_of (search rules, grind (arith, common_steps), cc) in
    let ways : AreTwoWays (asked c.args.question.now) (divisors_of c.search-ending.new.state) c.search-ending.new.room.seats.items
    c.search-ending.new.room.others.items
    = first_of (search rules, grind (arith, common_steps), cc) in
    let first : IsFirstHalf (asked c.args.question.now) (divisors_of c.search-ending.new.state) c.in-Some-Tied.row c.in-Some-Tied.column
    = first_of (search rules, grind (arith, common_steps), cc) in
    let reached : IsReached (asked c.args.question.now) (divisors_of c.search-ending.new.state)
    = first_of (search rules, grind (arith, common_steps), cc) in
    rw same
    (tied (asked c.args.question.now) _ (record {
      proper = c.requires.proper;
      limits = c.search-ending.ensures.limits;
      reached = reached;
      tied = record {
        seats = c.search-ending.new.room.seats.items;
        others = c.search-ending.new.room.others.items;
        ways = ways;
        first = first;
      };
      weak = ways.one_way;
    }))
