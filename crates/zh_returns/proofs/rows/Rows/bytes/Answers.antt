use Rattle.std.proofs.Common.{◌∙◌, sym, ap}
use Rattle.std.specs.List.{flat_map}
use Rattle.zh_returns.specs.Rows.{row_spelling}
use Rattle.zh_returns.proofs.rows.Rows.bytes.Goals as goal

pub returns : goal.returns
returns c = sym c.self.invariant.spelling ∙ ap (flat_map row_spelling) c.self.view_is
