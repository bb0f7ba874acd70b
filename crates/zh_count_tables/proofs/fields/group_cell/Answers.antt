use Rattle.std.proofs.Common.{arith, ◌-◌}
use Rattle.zh_sheet.proofs.CallerLemmas.{name_short}
use Rattle.zh_count_tables.proofs.fields.group_cell.Goals as goal

pub text_cell-requires : goal.text_cell-requires
text_cell-requires c =
    omega (arith, name_short (λ x. x.name) c.args.setup.now.groups (c.args.group - 1) c.group_name.result.now c.groups-limits.ensures.limits.group_names c.group_name.ensures)
