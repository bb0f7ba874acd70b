use Rattle.std.proofs.Common.{arith}
use Rattle.std.proofs.lemmas.Grind.{common_steps}
use Rattle.zh_sheet.proofs.sheet.Sheet.constituency_seats.Goals as goal

pub bounds-seats-constituency : goal.bounds-seats-constituency
bounds-seats-constituency c = grind (arith, common_steps)
