use Rattle.std.proofs.Common.{◌-◌}
use Rattle.zh_sheet.proofs.SheetLemmas.{name_short}
use Rattle.zh_sheet.proofs.sheet.Sheet.constituency_name.Goals as goal

pub returns-clause-short : goal.returns-clause-short
returns-clause-short c =
    let named = rw c.setup.ensures.setup at c.constituency_name.ensures in
    name_short (λ x. x.name) c.args.self.now.totals.canton.constituencies (c.args.constituency - 1) c.constituency_name.result.now c.setup.ensures.meets.totals.canton.constituency_names named
