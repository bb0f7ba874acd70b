use Rattle.std.proofs.Common.{◌-◌}
use Rattle.zh_sheet.proofs.SheetLemmas.{name_short}
use Rattle.zh_sheet.proofs.sheet.Sheet.group_name.Goals as goal

pub returns-clause-short : goal.returns-clause-short
returns-clause-short c =
    let named = rw c.setup.ensures.setup at c.group_name.ensures in
    name_short (λ x. x.name) c.args.self.now.totals.canton.groups (c.args.group - 1) c.group_name.result.now c.setup.ensures.meets.totals.canton.group_names named
