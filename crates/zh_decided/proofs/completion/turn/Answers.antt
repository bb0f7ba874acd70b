use Rattle.std.proofs.Common.{arith}
use Rattle.zh_decided.specs.Bounds.{asked_in, bounds_of}
use Rattle.zh_decided.proofs.PathLemmas.{IsNext-of, IsOnWay-next, has-room, spare-lacks}
use Rattle.zh_decided.proofs.PathTurnLemmas.{placed-one_more}
use Rattle.zh_decided.proofs.completion.turn.Goals as goal

pub place-requires-clause-column : goal.place-requires-clause-column
place-requires-clause-column c = (c.requires.ways c.loop-row.row c.in-Some.way c.loop-row.invariant.here.row c.in-Some.is).column

pub place-requires-clause-column_lacks : goal.place-requires-clause-column_lacks
place-requires-clause-column_lacks c =
    spare-lacks (asked_in c.args.bounds.now) (bounds_of c.args.bounds.now) c.args.seats.now _ _ _ _ c.requires.ways c.loop-row.invariant c.in-Some.is c.in-Spare.is

pub place-requires-clause-room : goal.place-requires-clause-room
place-requires-clause-room c =
    has-room (asked_in c.args.bounds.now) (bounds_of c.args.bounds.now) c.args.seats.now _ _ _ _ c.requires.ways c.loop-row.invariant c.in-Some.is

pub pass-requires-clause-column : goal.pass-requires-clause-column
pass-requires-clause-column c = (c.requires.ways c.loop-row.row c.in-Some.way c.loop-row.invariant.here.row c.in-Some.is).column

pub pass-requires-clause-giver : goal.pass-requires-clause-giver
pass-requires-clause-giver c =
    (IsNext-of (asked_in c.args.bounds.now) (bounds_of c.args.bounds.now) c.args.seats.now _ _ _ _ _
    c.requires.ways c.loop-row.invariant c.in-Some.is c.in-Giver.is).giver_row

pub pass-requires-clause-differ : goal.pass-requires-clause-differ
pass-requires-clause-differ c =
    (IsNext-of (asked_in c.args.bounds.now) (bounds_of c.args.bounds.now) c.args.seats.now _ _ _ _ _
    c.requires.ways c.loop-row.invariant c.in-Some.is c.in-Giver.is).differ

pub pass-requires-clause-room : goal.pass-requires-clause-room
pass-requires-clause-room c =
    has-room (asked_in c.args.bounds.now) (bounds_of c.args.bounds.now) c.args.seats.now _ _ _ _ c.requires.ways c.loop-row.invariant c.in-Some.is

pub pass-requires-clause-spare : goal.pass-requires-clause-spare
pass-requires-clause-spare c =
    (IsNext-of (asked_in c.args.bounds.now) (bounds_of c.args.bounds.now) c.args.seats.now _ _ _ _ _
    c.requires.ways c.loop-row.invariant c.in-Some.is c.in-Giver.is).seat

pub loop-row-smaller : goal.loop-row-smaller
loop-row-smaller c =
    (IsNext-of (asked_in c.args.bounds.now) (bounds_of c.args.bounds.now) c.args.seats.now _ _ _ _ _
    c.requires.ways c.loop-row.invariant c.in-Some.is c.in-Giver.is).lower

pub loop-row-preserved : goal.loop-row-preserved
loop-row-preserved c =
    IsOnWay-next (asked_in c.args.bounds.now) (bounds_of c.args.bounds.now) c.args.seats.now c.loop-row.seats c.pass.new.seats c.args.ways.now
    c.loop-row.row c.in-Giver.giver c.in-Some.way.column c.loop-row.invariant
    (IsNext-of (asked_in c.args.bounds.now) (bounds_of c.args.bounds.now) c.args.seats.now _ _ _ _ _
    c.requires.ways c.loop-row.invariant c.in-Some.is c.in-Giver.is)
    c.pass.ensures.placed c.pass.ensures.passed c.pass.ensures.lacks

pub returns-in-Spare-clause-one_more : goal.returns-in-Spare-clause-one_more
returns-in-Spare-clause-one_more c =
    omega (
      arith,
      placed-one_more (asked_in c.args.bounds.now) c.loop-row.seats c.place.new.seats c.loop-row.row c.in-Some.way.column c.loop-row.invariant.here.row
          (c.requires.ways c.loop-row.row c.in-Some.way c.loop-row.invariant.here.row c.in-Some.is).column c.place.ensures.one_more,
      c.loop-row.invariant.same,
    )
