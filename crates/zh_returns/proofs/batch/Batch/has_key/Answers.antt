use Rattle.std.proofs.Common.{◌∙◌, ap, List}
use Rattle.zh_returns.specs.declared.row.Row.{Row}
use Rattle.zh_returns.specs.Rows.{has_key}
use Rattle.zh_returns.proofs.BatchRowLemmas.{found}
use Rattle.zh_returns.proofs.batch.Batch.has_key.Goals as goal

pub returns : goal.returns
returns c =
    c.contains_key.ensures ∙ found c.args.municipality c.args.list c.self.inside.rows.entries c.self.invariant.0
    ∙ ap (λ (rows : List Row). has_key rows (c.args.municipality, c.args.list)) c.self.view_is
