use Rattle.std.proofs.Common.{◌≡◌, ◌++◌, take, drop, length, ap, ◌∙◌, arith}
use Rattle.zh_matrices.specs.Asked.{asked}
use Rattle.zh_matrices.proofs.CallerLemmas.{few-in-cells}
use Rattle.zh_decided.specs.Taken.{logs}
use Rattle.zh_decided.proofs.FirstBoxLemmas.{none-near}
use Rattle.zh_decided.proofs.SliceLemmas.{written_whole}
use Rattle.zh_decided.proofs.decision.decide_by.Goals as goal

pub make_cheapest-potentials-requires-clause-votes : goal.make_cheapest-potentials-requires-clause-votes
make_cheapest-potentials-requires-clause-votes c = c.requires.tables.one_each

pub make_cheapest-potentials-requires-clause-fits : goal.make_cheapest-potentials-requires-clause-fits
make_cheapest-potentials-requires-clause-fits c = rw c.deref_mut.ensures.value c.requires.fits

pub invariant_of-priced-clause-votes : goal.invariant_of-priced-clause-votes
invariant_of-priced-clause-votes c = c.requires.tables.one_each

pub invariant_of-priced-clause-each_cell : goal.invariant_of-priced-clause-each_cell
invariant_of-priced-clause-each_cell c =
    let same : c.as_slice-seats.result.now ≡ c.make_cheapest-potentials.new.seats
    = c.as_slice-seats.ensures.value ∙ written_whole _ _ _ (omega arith) in
    ap length same ∙ c.make_cheapest-potentials.ensures.fits.one_each

pub invariant_of-priced-clause-few : goal.invariant_of-priced-clause-few
invariant_of-priced-clause-few c =
    let same : c.as_slice-seats.result.now ≡ c.make_cheapest-potentials.new.seats
    = c.as_slice-seats.ensures.value ∙ written_whole _ _ _ (omega arith) in
    let fits = c.make_cheapest-potentials.ensures.fits in
    rw same (few-in-cells (asked c.args.question.now) c.make_cheapest-potentials.new.seats c.requires.totals fits.one_each fits.rows_add_up)

pub returns-in-Cycle-clause-none : goal.returns-in-Cycle-clause-none
returns-in-Cycle-clause-none c =
    let same : c.as_slice-seats.result.now ≡ c.make_cheapest-potentials.new.seats
    = c.as_slice-seats.ensures.value ∙ written_whole _ _ _ (omega arith) in
    none-near (asked c.args.question.now) (logs c.args.logarithms.now) c.make_cheapest-potentials.new.seats c.in-Cycle.cycle
    c.args.logarithms.now.taken c.requires.tables c.requires.totals c.make_cheapest-potentials.ensures.fits
    c.make_cheapest-potentials.ensures.cheapest (rw (same, c.free.ensures.given, c.free.ensures.taken) at c.in-Cycle.ensures)

pub near_tie-row-requires-clause-gap : goal.near_tie-row-requires-clause-gap
near_tie-row-requires-clause-gap c =
    let same : c.as_slice-seats.result.now ≡ c.make_cheapest-potentials.new.seats
    = c.as_slice-seats.ensures.value ∙ written_whole _ _ _ (omega arith) in
    record {
      below = omega arith;
      small = omega arith;
      still = rw same c.make_cheapest-potentials.ensures.still;
      cycle = rw (c.free.ensures.given, c.free.ensures.taken) at c.in-Cycle.ensures;
    }

pub only_seats-requires-clause-tables : goal.only_seats-requires-clause-tables
only_seats-requires-clause-tables c = c.requires.tables

pub only_seats-requires-clause-fits : goal.only_seats-requires-clause-fits
only_seats-requires-clause-fits c =
    let same : c.as_slice-seats.result.now ≡ c.make_cheapest-potentials.new.seats
    = c.as_slice-seats.ensures.value ∙ written_whole _ _ _ (omega arith) in
    rw same c.make_cheapest-potentials.ensures.fits

pub only_seats-requires-clause-still : goal.only_seats-requires-clause-still
only_seats-requires-clause-still c = record {
  bounds = c.free.result;
  free = c.free.ensures.free;
  given_is = c.free.ensures.given;
  taken_is = c.free.ensures.taken;
  still = c.in-Still.ensures;
}

pub only_seats-requires-clause-rows : goal.only_seats-requires-clause-rows
only_seats-requires-clause-rows c = ap length c.deref_mut-in-Still.ensures.value ∙ c.requires.room.of_rows

pub only_seats-requires-clause-columns : goal.only_seats-requires-clause-columns
only_seats-requires-clause-columns c = ap length c.deref_mut-in-Still-2.ensures.value ∙ c.requires.room.of_columns

pub near_tie-row-requires-clause-fits : goal.near_tie-row-requires-clause-fits
near_tie-row-requires-clause-fits c =
    let same : c.as_slice-seats.result.now ≡ c.make_cheapest-potentials.new.seats
    = c.as_slice-seats.ensures.value ∙ written_whole _ _ _ (omega arith) in
    rw same c.make_cheapest-potentials.ensures.fits

pub near_tie-row-requires-clause-others : goal.near_tie-row-requires-clause-others
near_tie-row-requires-clause-others c = ap length c.deref_mut-in-Cycle.ensures.value ∙ c.requires.room.others

pub returns-in-None-clause-decides : goal.returns-in-None-clause-decides
returns-in-None-clause-decides c =
    let rows : take c.args.findings.now.of_rows.len (c.only_seats.new.of_rows ++ drop (length c.only_seats.new.of_rows) c.args.findings.now.of_rows.items)
    ≡ c.only_seats.new.of_rows = written_whole _ _ _ (omega arith) in
    let columns : take c.args.findings.now.of_columns.len (c.only_seats.new.of_columns ++ drop (length c.only_seats.new.of_columns) c.args.findings.now.of_columns.items)
    ≡ c.only_seats.new.of_columns = written_whole _ _ _ (omega arith) in
    rw (rows, columns, ← c.as_slice-seats.ensures.value) c.in-None.ensures.decides

pub returns-in-Some-clause-decides : goal.returns-in-Some-clause-decides
returns-in-Some-clause-decides c = rw (← c.as_slice-seats.ensures.value) c.in-Some.ensures.decides

pub returns-in-Some-clause-none : goal.returns-in-Some-clause-none
returns-in-Some-clause-none c = c.in-Some.ensures.none

pub returns-in-Cycle-clause-decides : goal.returns-in-Cycle-clause-decides
returns-in-Cycle-clause-decides c =
    let same : c.as_slice-seats.result.now ≡ c.make_cheapest-potentials.new.seats
    = c.as_slice-seats.ensures.value ∙ written_whole _ _ _ (omega arith) in
    let seats : take c.args.findings.now.seats.len (c.make_cheapest-potentials.new.seats ++ drop (length c.make_cheapest-potentials.new.seats) c.args.findings.now.seats.items)
    ≡ c.make_cheapest-potentials.new.seats = written_whole _ _ _ (omega arith) in
    let others : take c.args.findings.now.others.len (c.near_tie-row.new.others ++ drop (length c.near_tie-row.new.others) c.args.findings.now.others.items)
    ≡ c.near_tie-row.new.others = written_whole _ _ _ (omega arith) in
    record {
      one_fits = rw seats c.make_cheapest-potentials.ensures.fits;
      other_fits = rw others c.near_tie-row.ensures.other_fits;
      tied = rw (seats, others) (rw same at c.near_tie-row.ensures.tied);
    }
