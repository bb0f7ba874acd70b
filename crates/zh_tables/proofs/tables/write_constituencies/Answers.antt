use Rattle.std.proofs.Common.{List, ℕ, refl, subst, sym}
use Rattle.zh_tables.specs.Tables.{HasSeats, constituency_rows}
use Rattle.zh_tables.specs.declared.tables.Table.TheVariants.{Constituencies}
use Rattle.zh_tables.proofs.TextLemmas.{record_refused, seats_refused, table_text}
use Rattle.zh_tables.proofs.tables.write_constituencies.Goals as goal

pub returns-in_err-shares-clause-fault : goal.returns-in_err-shares-clause-fault
returns-in_err-shares-clause-fault g c =
    seats_refused c.args.setup.now c.from_residual.result c.in_err-shares.field-0.0 c.in_err-shares.ensures.tied c.in_err-shares.ensures.no_seat c.from_residual.ensures.1

pub returns-in_err-write_table-clause-fault : goal.returns-in_err-write_table-clause-fault
returns-in_err-write_table-clause-fault g c =
    record_refused c.args.setup.now Constituencies c.from_residual-in_err-write_table.result c.in_err-write_table.field-0.0 c.from_residual-in_err-write_table.ensures.1

pub returns-clause-written : goal.returns-clause-written
returns-clause-written g c =
    let canton = c.args.setup.now in
    let seats : List ℕ = c.seats-2.result.now in
    let found : HasSeats canton c.in_ok-shares.shares.seats = record { are = c.in_ok-shares.ensures.seats; each = c.in_ok-shares.ensures.each } in
    table_text _ _ canton Constituencies (constituency_rows canton seats) (seats, subst (λ (s : List ℕ). HasSeats canton s) (sym c.seats-2.ensures) found, refl)
    c.in_ok-write_table.ensures
