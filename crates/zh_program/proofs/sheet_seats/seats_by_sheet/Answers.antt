use Rattle.std.proofs.Common.{None}
use Rattle.zh_program.proofs.RightLemmas.{right_in_no_way}
use Rattle.zh_program.proofs.sheet_seats.seats_by_sheet.Goals as goal

pub returns : goal.returns
returns c = record {
  right = tt;
  wrong = right_in_no_way c.args.setup.now None c.args.text.now c.in-Ok.verdict c.in-Ok.ensures.exactly c.in_default-verdict.not-Right;
}
