use Rattle.std.proofs.Common.{◌-◌, arith}
use Rattle.zh_matrices.specs.Asked.{asked}
use Rattle.zh_decided.specs.Prices.{Priced}
use Rattle.zh_decided.specs.Taken.{logs, priced_in}
use Rattle.zh_decided.proofs.CircleLemmas.{cycle-of}
use Rattle.zh_decided.proofs.DescentLemmas.{descends-later, goes_out-column}
use Rattle.zh_decided.proofs.RoomLemmas.{priced-near}
use Rattle.zh_decided.proofs.StillLemmas.{above-later, caps-later, still}
use Rattle.zh_decided.proofs.TrailLemmas.{IsTrail-more, IsTrail-new, source-made, source-there}
use Rattle.zh_decided.proofs.levels.+descend.Goals as goal

pub row_marks-requires : goal.row_marks-requires
row_marks-requires t c = record { columns = λ g gn. omega (arith, c.requires.caps g gn, c.args.bounds.column_cap_small) }

pub returns-in_default-column_marks : goal.returns-in_default-column_marks
returns-in_default-column_marks t c =
    goes_out-column (priced_in c.args.priced.now) c.args.bounds c.args.levels
    c.args.columns.now
    c.in-Some.rows
    (priced-near (asked c.args.priced.now.question.now) (logs c.args.priced.now.logarithms.now) c.args.priced.now.seats.now
    c.args.priced.now.logarithms.now.taken c.args.priced.now.votes c.args.priced.now.each_cell c.args.priced.now.few)
    c.args.bounds.given_small c.args.bounds.taken_small c.requires.levels c.in-Some.ensures.marks c.in_default-column_marks.ensures.low

pub returns-in_default-first_fallen : goal.returns-in_default-first_fallen
returns-in_default-first_fallen t c =
    still (priced_in c.args.priced.now) c.args.bounds c.args.columns.now c.in-Some.rows c.in-Some-column_marks.lower
    (record { of_rows = c.potentials.result; of_columns = c.potentials-in_default-first_fallen.result }) c.args.bounds.column_floor_from_1
    c.args.priced.now.question.now.sized.few_rows c.args.priced.now.question.now.sized.few_columns c.in-Some.ensures.marks
    c.in-Some-column_marks.ensures.marks c.requires.caps c.requires.above c.in_default-first_fallen.ensures.none c.potentials.ensures
    c.potentials-in_default-first_fallen.ensures

pub returns-then-levels-eq0 : goal.returns-then-levels-eq0
returns-then-levels-eq0 t c = (
  IsTrail-new (priced_in c.args.priced.now) c.args.bounds c.args.columns.now
      c.in-Some.rows c.in-Some-column_marks.lower c.new.result c.in-Some-first_fallen.fallen c.in-Some-first_fallen.maker
      c.args.bounds.column_floor_from_1 c.in-Some-first_fallen.ensures.column c.in-Some.ensures.marks c.in-Some-column_marks.ensures.marks
      c.in-Some-first_fallen.ensures.maker
      c.new.ensures.length c.new.ensures.giver c.new.ensures.column c.new.ensures.source,
  omega (arith, c.new.ensures.length),
)

pub descend-requires : goal.descend-requires
descend-requires t c =
    let m : Priced = priced_in c.args.priced.now in
    let caps = caps-later m c.args.bounds c.args.columns.now c.in-Some.rows c.in-Some-column_marks.lower
    c.in-Some-column_marks.ensures.marks
    c.requires.caps in
    let above = above-later m c.args.bounds c.args.columns.now c.in-Some.rows c.in-Some-column_marks.lower c.in-Some.ensures.marks
    c.in-Some-column_marks.ensures.marks c.requires.above in (
      omega (arith, c.decreases),
      (caps, (above, omega (arith, c.requires.levels))),
    )

pub unreachable-requires : goal.unreachable-requires
unreachable-requires t c =
    source-there (priced_in c.args.priced.now) c.args.bounds c.args.columns.now
    c.in-Some.rows c.in-Some-column_marks.lower c.in-Falls.trail c.in-Falls.ensures.0 c.args.bounds.column_floor_from_1
    c.in-Some.ensures.marks c.in-Some-column_marks.ensures.marks c.in_default-source.is

pub position-requires : goal.position-requires
position-requires t c = c.in-Falls.ensures.0.few

pub circle_from-requires-clause-few : goal.circle_from-requires-clause-few
circle_from-requires-clause-few t c = c.in-Falls.ensures.0.few

pub circle_from-requires-clause-first : goal.circle_from-requires-clause-first
circle_from-requires-clause-first t c = c.in-Some-position.ensures.here

pub returns-in-Some-position : goal.returns-in-Some-position
returns-in-Some-position t c =
    cycle-of (priced_in c.args.priced.now) c.args.bounds c.in-Some-column_marks.lower
    c.in-Falls.trail c.in-Some-source.column c.in-Some-position.first c.circle_from.result c.in-Falls.ensures.0 c.in-Some-source.is
    c.in-Some-position.ensures.here c.in-Some-position.ensures.column
    (record {
      length = c.circle_from.ensures.length;
      giver = c.circle_from.ensures.giver;
      column = c.circle_from.ensures.column;
      taker = c.circle_from.ensures.taker;
      closed = c.circle_from.ensures.closed;
    })

pub unreachable-requires-in_default-maker : goal.unreachable-requires-in_default-maker
unreachable-requires-in_default-maker t c =
    source-made (priced_in c.args.priced.now) c.args.bounds c.args.columns.now
    c.in-Some.rows c.in-Some-column_marks.lower c.in-Falls.trail c.in-Some-source.column c.in-Falls.ensures.0
    c.args.bounds.column_floor_from_1
    c.in-Some.ensures.marks c.in-Some-column_marks.ensures.marks c.in-Some-source.is c.in_default-maker.is

pub and-requires-clause-some : goal.and-requires-clause-some
and-requires-clause-some t c = c.in-Falls.ensures.0.some

pub and-requires-clause-few : goal.and-requires-clause-few
and-requires-clause-few t c = omega (arith, c.in-Falls.ensures.1, c.requires.levels)

pub returns-in-Some-maker : goal.returns-in-Some-maker
returns-in-Some-maker t c = (
  IsTrail-more (priced_in c.args.priced.now) c.args.bounds c.args.columns.now
      c.in-Some.rows c.in-Some-column_marks.lower c.in-Falls.trail c.and.result c.in-Some-source.column c.in-Some-maker.giver
      c.args.bounds.column_floor_from_1 c.in-Some.ensures.marks c.in-Some-column_marks.ensures.marks c.in-Falls.ensures.0
      (omega (arith, c.in-Falls.ensures.1)) c.in-Some-source.is c.in-Some-maker.is c.in_default-position.ensures.nowhere
      (record { length = c.and.ensures.length; same = c.and.ensures.same; step = c.and.ensures.step }) c.and.ensures.source,
  omega (arith, c.and.ensures.length, c.in-Falls.ensures.1),
)

pub returns-in_default-descend : goal.returns-in_default-descend
returns-in_default-descend t c =
    descends-later (priced_in c.args.priced.now) c.args.bounds (c.args.levels - 1)
    c.args.levels
    c.args.columns.now c.in-Some.rows c.in-Some-column_marks.lower c.descend.result (omega arith)
    (priced-near (asked c.args.priced.now.question.now) (logs c.args.priced.now.logarithms.now) c.args.priced.now.seats.now
    c.args.priced.now.logarithms.now.taken c.args.priced.now.votes c.args.priced.now.each_cell c.args.priced.now.few)
    c.args.bounds.given_small c.args.bounds.taken_small c.requires.levels c.in-Some.ensures.marks c.in-Some-column_marks.ensures.marks
    c.in_default-descend.not-Falls c.descend.ensures
