-- The parts of a sheet that are right, with one line for each.
use Rattle.std.specs.Prelude.{ℕ, nat_eq, if◌then◌else◌, Option, Some, None, codes, decimal, List, [], ◌++◌}
use Rattle.std.specs.List.{starts_with}
use Rattle.zh_tables.specs.declared.held_rows.HeldRows.{HeldRows}

-- the number of rows, and the number of returns due
abbrev pub rows_part : HeldRows → List ℕ
rows_part rows = decimal rows.held ++ codes " of " ++ decimal rows.due ++ codes " rows"

-- the votes are the sums of these rows, or were not compared
abbrev pub votes_line : Option HeldRows → List ℕ
votes_line None = codes "votes not compared\n"
votes_line (Some rows) = codes "votes ok: the sums of " ++ rows_part rows ++ codes "\n"

-- the lines of the first two parts, the form and the votes
abbrev pub form_and_votes : Option HeldRows → List ℕ
form_and_votes held = codes "form ok\n" ++ votes_line held

-- The lines of the further parts that are right, given what the first line that differs should be. The lines of all constituencies come
-- before that of a group. Those of all groups come before that of a list, which can only be wrong in its voter number.
abbrev pub parts_above : List ℕ → List ℕ
parts_above should =
    if starts_with nat_eq should (codes "list ") then codes "seats ok\nparticipation ok\n"
    else (if starts_with nat_eq should (codes "group ") then codes "seats ok\n" else [])

-- the lines of all parts
abbrev pub parts_text : Option HeldRows → List ℕ
parts_text held = form_and_votes held ++ codes "seats ok\nparticipation ok\nvoters ok\ngroups ok\nlists ok\n"
