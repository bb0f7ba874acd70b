use Rattle.std.proofs.Common.{◌∙◌, ◌/◌, List, length, sym, ap}
use Rattle.zh_returns.specs.declared.row.Row.{Row}
use Rattle.zh_returns.proofs.RowBytesLemmas.{length-rows_from}
use Rattle.zh_returns.proofs.rows.Rows.len.Goals as goal

pub returns-clause-count : goal.returns-clause-count
returns-clause-count c =
    sym (length-rows_from (length c.self.inside.bytes.now / 11) c.self.inside.bytes.now) ∙ ap (λ (rows : List Row). length rows) c.self.view_is
