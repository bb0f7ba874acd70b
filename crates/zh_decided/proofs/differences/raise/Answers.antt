use Rattle.std.proofs.Common.{sym, ◌∙◌, arith}
use Rattle.zh_decided.specs.Bounds.{asked_in, bounds_of}
use Rattle.zh_decided.proofs.RaiseLemmas.{IsOpened-of, no_other_column, no_other_row, still-above}
use Rattle.zh_decided.proofs.differences.raise.Goals as goal

pub returns-in_default-clause-none : goal.returns-in_default-clause-none
returns-in_default-clause-none c =
    no_other_column (asked_in c.args.bounds.now) (bounds_of c.args.bounds.now) c.args.seats.now c.args.row c.args.column
    c.requires.row c.requires.column c.requires.within c.in_default.ensures.none

pub returns-in_default-other_row-clause-none : goal.returns-in_default-other_row-clause-none
returns-in_default-other_row-clause-none c =
    no_other_row (asked_in c.args.bounds.now) (bounds_of c.args.bounds.now) c.args.seats.now c.args.row c.args.column
    c.requires.row c.requires.column c.requires.within c.in_default-other_row.ensures.none

pub take-requires-clause-column : goal.take-requires-clause-column
take-requires-clause-column c = c.in-Some.ensures.some.there

pub take-requires-clause-spare : goal.take-requires-clause-spare
take-requires-clause-spare c = c.in-Some.ensures.some.above

pub take-requires-2-clause-seats : goal.take-requires-2-clause-seats
take-requires-2-clause-seats c = sym c.take.ensures.one_each ∙ c.requires.within.one_each

pub take-requires-2-clause-row : goal.take-requires-2-clause-row
take-requires-2-clause-row c = c.in-Some-other_row.ensures.some.there

pub take-requires-2-clause-spare : goal.take-requires-2-clause-spare
take-requires-2-clause-spare c =
    let other = c.in-Some-other_row.ensures.some in
    still-above (asked_in c.args.bounds.now) (bounds_of c.args.bounds.now) c.args.seats.now c.take.new.seats c.args.row c.args.column _ _
    other.there c.requires.column other.differs c.take.ensures other.above

pub place-requires-clause-placed : goal.place-requires-clause-placed
place-requires-clause-placed c =
    (IsOpened-of (asked_in c.args.bounds.now) (bounds_of c.args.bounds.now) c.args.seats.now c.take.new.seats c.take-2.new.seats c.args.row c.args.column _ _
    c.requires.row c.requires.column c.requires.within c.in-Some.ensures.some c.in-Some-other_row.ensures.some c.take.ensures c.take-2.ensures).each_placed

pub place-requires-clause-row_lacks : goal.place-requires-clause-row_lacks
place-requires-clause-row_lacks c =
    (IsOpened-of (asked_in c.args.bounds.now) (bounds_of c.args.bounds.now) c.args.seats.now c.take.new.seats c.take-2.new.seats c.args.row c.args.column _ _
    c.requires.row c.requires.column c.requires.within c.in-Some.ensures.some c.in-Some-other_row.ensures.some c.take.ensures c.take-2.ensures).row_lacks

pub place-requires-clause-column_lacks : goal.place-requires-clause-column_lacks
place-requires-clause-column_lacks c =
    (IsOpened-of (asked_in c.args.bounds.now) (bounds_of c.args.bounds.now) c.args.seats.now c.take.new.seats c.take-2.new.seats c.args.row c.args.column _ _
    c.requires.row c.requires.column c.requires.within c.in-Some.ensures.some c.in-Some-other_row.ensures.some c.take.ensures c.take-2.ensures).column_lacks

pub place-requires-clause-room : goal.place-requires-clause-room
place-requires-clause-room c =
    let opened = IsOpened-of (asked_in c.args.bounds.now) (bounds_of c.args.bounds.now) c.args.seats.now c.take.new.seats c.take-2.new.seats c.args.row c.args.column _ _
    c.requires.row c.requires.column c.requires.within c.in-Some.ensures.some c.in-Some-other_row.ensures.some c.take.ensures c.take-2.ensures in
    omega (arith, opened.same, c.requires.room)

pub returns-clause-placed : goal.returns-clause-placed
returns-clause-placed c = c.place.ensures.placed

pub returns-clause-more : goal.returns-clause-more
returns-clause-more c =
    let opened = IsOpened-of (asked_in c.args.bounds.now) (bounds_of c.args.bounds.now) c.args.seats.now c.take.new.seats c.take-2.new.seats c.args.row c.args.column _ _
    c.requires.row c.requires.column c.requires.within c.in-Some.ensures.some c.in-Some-other_row.ensures.some c.take.ensures c.take-2.ensures in
    omega (arith, opened.same, c.place.ensures.one_more.here)
