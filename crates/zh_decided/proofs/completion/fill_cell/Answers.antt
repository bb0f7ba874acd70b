use Rattle.std.proofs.Common.{arith}
use Rattle.zh_divisors.proofs.CallerLemmas.{cell-within}
use Rattle.zh_decided.specs.Bounds.{asked_in, bounds_of}
use Rattle.zh_decided.proofs.CutLemmas.{placed-le}
use Rattle.zh_decided.proofs.PathTurnLemmas.{placed-one_more}
use Rattle.zh_decided.proofs.completion.fill_cell.Goals as goal

pub loop-seats-init : goal.loop-seats-init
loop-seats-init c = c.requires.placed

pub bounds-seats-at : goal.bounds-seats-at
bounds-seats-at c = omega (arith, c.loop-seats.invariant.one_each, cell-within c.args.bounds.now.question.now.rows c.args.bounds.now.question.now.columns c.args.row c.args.column c.requires.row c.requires.column)

pub bounds-bounds-at : goal.bounds-bounds-at
bounds-bounds-at c = omega (arith, c.args.bounds.now.each_most, cell-within c.args.bounds.now.question.now.rows c.args.bounds.now.question.now.columns c.args.row c.args.column c.requires.row c.requires.column)

pub row_lacks-requires-clause-seats : goal.row_lacks-requires-clause-seats
row_lacks-requires-clause-seats c = c.loop-seats.invariant.one_each

pub place-requires-clause-placed : goal.place-requires-clause-placed
place-requires-clause-placed c = c.loop-seats.invariant

pub place-requires-clause-row_lacks : goal.place-requires-clause-row_lacks
place-requires-clause-row_lacks c = c.row_lacks.ensures.0 c.if-row_lacks.true

pub place-requires-clause-room : goal.place-requires-clause-room
place-requires-clause-room c = c.loop-seats-test.true

pub loop-seats-smaller : goal.loop-seats-smaller
loop-seats-smaller c =
    omega (
      arith,
      placed-one_more (asked_in c.args.bounds.now) c.loop-seats.seats c.place.new.seats c.args.row c.args.column c.requires.row c.requires.column
          c.place.ensures.one_more,
      placed-le (asked_in c.args.bounds.now) (bounds_of c.args.bounds.now) c.place.new.seats c.place.ensures.placed,
    )

pub loop-seats-preserved : goal.loop-seats-preserved
loop-seats-preserved c = c.place.ensures.placed

pub returns-else-column_lacks : goal.returns-else-column_lacks
returns-else-column_lacks c = c.loop-seats.invariant

pub returns-else-row_lacks : goal.returns-else-row_lacks
returns-else-row_lacks c = c.loop-seats.invariant

pub returns-after-loop-seats : goal.returns-after-loop-seats
returns-after-loop-seats c = c.loop-seats.invariant
