use Rattle.std.proofs.Common.{◌+◌, ◌*◌, length, ap, sym, ◌∙◌}
use Rattle.zh_sheet_text.proofs.LayoutLemmas.{line_total}
use Rattle.zh_sheet_text.proofs.sheet_writer.line_count.Goals as goal

pub returns-clause-count : goal.returns-clause-count
returns-clause-count c =
    ap (λ m. 6 + m + c.groups-columns.result + m * c.groups-columns.result) c.constituencies-rows.ensures.count
    ∙ (ap (λ n. 6 + length c.args.setup.now.constituencies + n + length c.args.setup.now.constituencies * n) c.groups-columns.ensures.count
    ∙ sym (line_total c.args.setup.now))
