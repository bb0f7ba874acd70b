use Rattle.std.proofs.Common.{List, length, ◌++◌, refl, subst, ◌∙◌}
use Rattle.std.specs.Io.KnownBytes.{Appends}
use Rattle.std.specs.List.{flat_map}
use Rattle.zh_text.specs.Each.{each_to}
use Rattle.zh_record_text.specs.Records.{record_text}
use Rattle.zh_tables.specs.Returns.{return_columns, return_row}
use Rattle.zh_tables.specs.Tables.{group_row, list_rows, municipality_row, problem_rows, return_rows}
use Rattle.zh_tables.specs.declared.due.Due.{Due}
use Rattle.zh_tables.specs.declared.tables.Table.TheVariants.{Groups, Lists, Municipalities, Problems, Returns}
use Rattle.zh_tables.proofs.TextLemmas.{memory_refused, record_refused, table_text}
use Rattle.zh_tables.proofs.tables.write_list.Goals as goal

pub returns-in-Constituencies-clause-written : goal.returns-in-Constituencies-clause-written
returns-in-Constituencies-clause-written g c = rw c.in-Constituencies.is c.write_constituencies.ensures.written

pub returns-in_ok-write_table-in-Municipalities-clause-written : goal.returns-in_ok-write_table-in-Municipalities-clause-written
returns-in_ok-write_table-in-Municipalities-clause-written g c =
    let canton = c.args.setup.now in
    rw c.in-Municipalities.is (table_text _ _ canton Municipalities (each_to (length canton.municipalities) (municipality_row canton)) refl c.in_ok-write_table-in-Municipalities.ensures)

pub returns-in_ok-write_table-in-Groups-clause-written : goal.returns-in_ok-write_table-in-Groups-clause-written
returns-in_ok-write_table-in-Groups-clause-written g c =
    let canton = c.args.setup.now in
    rw c.in-Groups.is (table_text _ _ canton Groups (each_to (length canton.groups) (group_row canton)) refl c.in_ok-write_table-in-Groups.ensures)

pub returns-in_ok-write_table-in-Lists-clause-written : goal.returns-in_ok-write_table-in-Lists-clause-written
returns-in_ok-write_table-in-Lists-clause-written g c =
    let canton = c.args.setup.now in
    rw c.in-Lists.is (table_text _ _ canton Lists (list_rows canton) refl c.in_ok-write_table-in-Lists.ensures)

pub returns-in_ok-write_problems-in-Problems-clause-written : goal.returns-in_ok-write_problems-in-Problems-clause-written
returns-in_ok-write_problems-in-Problems-clause-written g c =
    let canton = c.args.setup.now in
    let found = c.in_ok-problems-in-Problems in
    rw c.in-Problems.is (table_text _ _ canton Problems (problem_rows canton found.problems) (found.problems, found.ensures.problems, refl) c.in_ok-write_problems-in-Problems.ensures)

pub returns-in_ok-write_returns-in-Returns-clause-written : goal.returns-in_ok-write_returns-in-Returns-clause-written
returns-in_ok-write_returns-in-Returns-clause-written g c =
    let canton = c.args.setup.now in
    let part = c.in-Returns.part in
    let old = g.W.Write.contents c.args.writer in
    let new = g.W.Write.contents c.in_ok-write_returns-in-Returns.field-0 in
    let written : Appends old new (record_text return_columns ++ return_rows canton part) =
    subst (λ (due : List Due). Appends old new (record_text return_columns ++ flat_map return_row due)) (c.deref.ensures.value ∙ c.in_ok-due-in-Returns.ensures) c.in_ok-write_returns-in-Returns.ensures in
    rw c.in-Returns.is (table_text old new canton (Returns part) (return_rows canton part) (c.in_ok-found_in-in-Returns.ensures, refl) written)

pub returns-in-Constituencies-clause-fault : goal.returns-in-Constituencies-clause-fault
returns-in-Constituencies-clause-fault g c = rw c.in-Constituencies.is c.write_constituencies.ensures.fault

pub returns-in_err-write_table-in-Municipalities-clause-fault : goal.returns-in_err-write_table-in-Municipalities-clause-fault
returns-in_err-write_table-in-Municipalities-clause-fault g c =
    record_refused c.args.setup.now c.args.table c.from_residual.result c.in_err-write_table-in-Municipalities.field-0.0 c.from_residual.ensures.1

pub returns-in_err-write_table-in-Groups-clause-fault : goal.returns-in_err-write_table-in-Groups-clause-fault
returns-in_err-write_table-in-Groups-clause-fault g c =
    record_refused c.args.setup.now c.args.table c.from_residual-in_err-write_table-in-Groups.result c.in_err-write_table-in-Groups.field-0.0 c.from_residual-in_err-write_table-in-Groups.ensures.1

pub returns-in_err-write_table-in-Lists-clause-fault : goal.returns-in_err-write_table-in-Lists-clause-fault
returns-in_err-write_table-in-Lists-clause-fault g c =
    record_refused c.args.setup.now c.args.table c.from_residual-in_err-write_table-in-Lists.result c.in_err-write_table-in-Lists.field-0.0 c.from_residual-in_err-write_table-in-Lists.ensures.1

pub returns-in_err-problems-in-Problems-clause-fault : goal.returns-in_err-problems-in-Problems-clause-fault
returns-in_err-problems-in-Problems-clause-fault g c =
    memory_refused c.args.setup.now c.args.table c.from_residual-in_err-problems-in-Problems.result c.from_residual-in_err-problems-in-Problems.ensures.1

pub returns-in_err-write_problems-in-Problems-clause-fault : goal.returns-in_err-write_problems-in-Problems-clause-fault
returns-in_err-write_problems-in-Problems-clause-fault g c =
    record_refused c.args.setup.now c.args.table c.from_residual-in_err-write_problems-in-Problems.result c.in_err-write_problems-in-Problems.field-0.0 c.from_residual-in_err-write_problems-in-Problems.ensures.1

pub returns-in_err-due-in-Returns-clause-fault : goal.returns-in_err-due-in-Returns-clause-fault
returns-in_err-due-in-Returns-clause-fault g c =
    memory_refused c.args.setup.now c.args.table c.from_residual-in_err-due-in-Returns.result c.from_residual-in_err-due-in-Returns.ensures.1

pub returns-in_err-write_returns-in-Returns-clause-fault : goal.returns-in_err-write_returns-in-Returns-clause-fault
returns-in_err-write_returns-in-Returns-clause-fault g c =
    record_refused c.args.setup.now c.args.table c.from_residual-in_err-write_returns-in-Returns.result c.in_err-write_returns-in-Returns.field-0.0 c.from_residual-in_err-write_returns-in-Returns.ensures.1
