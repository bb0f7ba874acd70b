-- The sheets that are answered, and the answers that report a tie.
use Rattle.std.specs.Prelude.{◌≡◌}
use Rattle.zh_commands.specs.declared.replies.Reply.TheVariants.{Refused}
use Rattle.zh_commands.specs.declared.replies.Refusal.TheVariants as refusals
use Rattle.zh_totals.specs.Totals.{VoteTotals}
use Rattle.zh_sheet.specs.Distribution.{Distribution, IsDistribution}
use Rattle.zh_upper.specs.declared.fault.UpperRefusal.TheVariants as uppers
use Rattle.zh_sheet.specs.declared.fault.SheetRefusal.TheVariants as sheets
use Rattle.zh_office.specs.declared.answer.Answer.{Answer}
use Rattle.zh_office.specs.declared.answer.Answer.TheVariants.{Reply}

-- The distribution of the seats by these totals: each part follows from those before it, all totals are met, and each quotient
-- rounds to its seats under the divisors on the sheet without lying on a signpost. So no divisors lead to different seats:
-- `headline_excludes` proves that for every sheet.
pub record FollowsFrom (totals : VoteTotals) (sheet : Distribution) : Type 0 where
  pub votes : sheet.totals ≡ totals
  pub meets : IsDistribution sheet

-- The answer reports a tie: among constituencies' seats, groups' seats, or lists' seats.
abbrev pub IsTie : Answer → Type 0
IsTie (Reply (Refused (refusals.Sheet sheets.TiedSeats))) = Unit {0}
IsTie (Reply (Refused (refusals.Sheet (sheets.NoUpperSeats uppers.Tied)))) = Unit {0}
IsTie (Reply (Refused (refusals.Sheet (sheets.TiedLower constituency group)))) = Unit {0}
IsTie answer = ⊥
