use Rattle.std.proofs.Common.{rules}
use Rattle.zh_csv.proofs.records.row_of.Goals as goal

pub row_in-requires : goal.row_in-requires
row_in-requires c = search rules

pub returns : goal.returns
returns c = search rules
