use Rattle.std.proofs.Common.{arith}
use Rattle.zh_decided.specs.Bounds.{asked_in, bounds_of}
use Rattle.zh_decided.proofs.PathTurnLemmas.{ArePlaced-passed, IsPassed-of, lacks-passed}
use Rattle.zh_decided.proofs.completion.pass.Goals as goal

pub take-requires-clause-spare : goal.take-requires-clause-spare
take-requires-clause-spare c =
    omega (arith, c.give.ensures.rows c.args.seat.giver c.args.seat.column c.requires.giver c.requires.column c.requires.differ, c.requires.spare)

pub returns-clause-placed : goal.returns-clause-placed
returns-clause-placed c =
    ArePlaced-passed (asked_in c.args.bounds.now) (bounds_of c.args.bounds.now) c.args.seats.now c.give.new.seats c.take.new.seats
    c.args.seat.taker c.args.seat.giver c.args.seat.column c.requires.taker c.requires.giver c.requires.column c.requires.differ
    c.requires.lacks c.requires.room c.requires.spare c.give.ensures c.take.ensures c.requires.placed

pub returns-clause-passed : goal.returns-clause-passed
returns-clause-passed c =
    IsPassed-of (asked_in c.args.bounds.now) c.args.seats.now c.give.new.seats c.take.new.seats c.args.seat.taker c.args.seat.giver c.args.seat.column
    c.requires.taker c.requires.giver c.requires.column c.requires.differ c.give.ensures c.take.ensures

pub returns-clause-lacks : goal.returns-clause-lacks
returns-clause-lacks c =
    lacks-passed (asked_in c.args.bounds.now) (bounds_of c.args.bounds.now) c.args.seats.now c.give.new.seats c.take.new.seats
    c.args.seat.taker c.args.seat.giver c.args.seat.column c.requires.giver c.requires.column c.requires.differ c.give.ensures c.take.ensures c.requires.placed
