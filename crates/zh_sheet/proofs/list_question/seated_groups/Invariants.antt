use Rattle.std.proofs.Common.{◌≡◌}
use Rattle.zh_sheet.proofs.SeatedLemmas.{first_seated}
use Rattle.zh_sheet.proofs.list_question.seated_groups.Given as goal

abbrev pub invariant-loop-place : goal.invariant-loop-place
invariant-loop-place l = l.seated.items ≡ first_seated l.upper.seats l.place
