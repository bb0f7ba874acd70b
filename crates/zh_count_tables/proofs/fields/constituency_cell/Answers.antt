use Rattle.std.proofs.Common.{arith, ◌-◌}
use Rattle.zh_sheet.proofs.CallerLemmas.{name_short}
use Rattle.zh_count_tables.proofs.fields.constituency_cell.Goals as goal

pub text_cell-requires : goal.text_cell-requires
text_cell-requires c =
    omega (arith, name_short (λ x. x.name) c.args.setup.now.constituencies (c.args.constituency - 1) c.constituency_name.result.now c.constituencies-limits.ensures.limits.constituency_names c.constituency_name.ensures)
