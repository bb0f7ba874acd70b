use Rattle.std.proofs.Common.{rules}
use Rattle.zh_csv.proofs.held_sums.held_row_of.Goals as goal

pub held_row_in-requires : goal.held_row_in-requires
held_row_in-requires c = search rules

pub returns : goal.returns
returns c = search rules
