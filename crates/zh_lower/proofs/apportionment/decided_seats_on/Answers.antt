use Rattle.std.proofs.Common.{◌≡◌, ◌++◌, take, drop, length, inr, arith}
use Rattle.zh_matrices.specs.Asked.{asked}
use Rattle.zh_lower.specs.Rooms.{divisors_in}
use Rattle.zh_lower.proofs.SeatingLemmas.{exhausted, seated}
use Rattle.zh_lower.proofs.SliceLemmas.{written_whole}
use Rattle.zh_lower.proofs.apportionment.decided_seats_on.Goals as goal

pub decide-decision-requires-clause-room : goal.decide-decision-requires-clause-room
decide-decision-requires-clause-room c = c.requires.tables.decision

pub seats_by_decision-requires-clause-decides : goal.seats_by_decision-requires-clause-decides
seats_by_decision-requires-clause-decides c = c.decide-decision.ensures.decides

pub seats_by_decision-requires-clause-room : goal.seats_by_decision-requires-clause-room
seats_by_decision-requires-clause-room c = c.requires.tables.divisors

pub returns-then-not-seats_by_decision : goal.returns-then-not-seats_by_decision
returns-then-not-seats_by_decision c =
    exhausted (asked c.args.question.now) _ c.requires.proper c.requires.none c.decide-decision.ensures.none
    (c.decide-decision.ensures.decides, c.if-not-seats_by_decision.ensures.tried)

pub new-requires : goal.new-requires
new-requires c =
    let taken : take c.args.tables.room.seats.len
    (c.seats_by_decision.new.seats ++ drop (length c.seats_by_decision.new.seats) c.args.tables.room.seats.items)
    ≡ c.seats_by_decision.new.seats = written_whole _ _ _ (omega arith) in
    let strict = c.seats_by_decision.ensures.strict c.if-not-seats_by_decision.false in
    let limits = c.seats_by_decision.ensures.limits c.if-not-seats_by_decision.false in
    rw (taken, limits.rows.one_each, limits.columns.one_each) strict.one_each

pub returns : goal.returns
returns c =
    let taken : take c.args.tables.room.seats.len
    (c.seats_by_decision.new.seats ++ drop (length c.seats_by_decision.new.seats) c.args.tables.room.seats.items)
    ≡ c.seats_by_decision.new.seats = written_whole _ _ _ (omega arith) in
    let same : c.new.result ≡ record {
      seats = c.seats_by_decision.new.seats;
      divisors = divisors_in c.seats_by_decision.new.room;
    } = rw taken at c.new.ensures in
    seated (asked c.args.question.now) c.new.result c.seats_by_decision.new.seats c.seats_by_decision.new.room.of_rows.items
    c.seats_by_decision.new.room.of_columns.items c.requires.proper same (c.seats_by_decision.ensures.strict c.if-not-seats_by_decision.false)
    (c.seats_by_decision.ensures.limits c.if-not-seats_by_decision.false)
    (inr (c.requires.none, c.if-not-seats_by_decision.ensures.later))
