-- The text of a verdict. On a wrong sheet: the parts that are right, if any, then the first wrong line or that no sheet follows, and
-- `sheet wrong`. On a right sheet: the parts, which are all right, and what the check has shown.
use Rattle.std.specs.Prelude.{ℕ, Option, codes, List, ◌++◌}
use Rattle.zh_check.specs.declared.checked.SheetVerdict.{SheetVerdict}
use Rattle.zh_check.specs.declared.checked.SheetVerdict.TheVariants.{Right, Differs, OffForm, OffList, OffTotal, OtherVotes, NoSheet}
use Rattle.zh_check.specs.declared.checked.OffList as off_lists
use Rattle.zh_check.specs.declared.checked.OffTotal as off_totals
use Rattle.zh_check.specs.declared.checked.OtherVotes as others
use Rattle.zh_check.specs.declared.checked.WrongLine.{WrongLine}
use Rattle.zh_tables.specs.declared.held_rows.HeldRows.{HeldRows}
use Rattle.zh_verdicts.specs.Parts.{form_and_votes, parts_above}
use Rattle.zh_verdicts.specs.Quotient.{off_text}
use Rattle.zh_verdicts.specs.Right.{right_verdict}
use Rattle.zh_verdicts.specs.Wrong.{differs_text, held_text, total_text}

-- the verdict if a line is not of its kind: the first such line
abbrev pub off_form_text : WrongLine → List ℕ
off_form_text wrong = differs_text wrong ++ codes "sheet wrong\n"

-- the verdict if the votes of a list differ from those held: the first such list
abbrev pub other_votes_text : others.OtherVotes → List ℕ
other_votes_text other = codes "form ok\n" ++ held_text other ++ codes "sheet wrong\n"

-- the verdict if a sheet follows and is different: the first line that differs
abbrev pub difference_text : Option HeldRows → WrongLine → List ℕ
difference_text held wrong =
    form_and_votes held ++ parts_above wrong.should.items ++ differs_text wrong ++ codes "sheet wrong\n"

-- the verdict if no sheet follows because the seats of a list do not: the first such list
abbrev pub off_list_text : Option HeldRows → off_lists.OffList → List ℕ
off_list_text held off = form_and_votes held ++ off_text off ++ codes "sheet wrong\n"

-- the verdict if no sheet follows because lists do not add up to a total: the first such total
abbrev pub off_total_text : Option HeldRows → off_totals.OffTotal → List ℕ
off_total_text held off = form_and_votes held ++ total_text off ++ codes "sheet wrong\n"

-- the verdict if no sheet follows for another reason, so that no line is known to be wrong
abbrev pub no_sheet_text : Option HeldRows → List ℕ
no_sheet_text held = form_and_votes held ++ codes "no sheet follows from these votes, divisors and seats\nsheet wrong\n"

-- the verdict on a sheet; its votes were compared with the sums of these rows, or with nothing
abbrev pub verdict_text : Option HeldRows → SheetVerdict → List ℕ
verdict_text held (Right right) = right_verdict held right
verdict_text held (OffForm wrong) = off_form_text wrong
verdict_text held (OtherVotes other) = other_votes_text other
verdict_text held (Differs wrong) = difference_text held wrong
verdict_text held (OffList off) = off_list_text held off
verdict_text held (OffTotal off) = off_total_text held off
verdict_text held NoSheet = no_sheet_text held
