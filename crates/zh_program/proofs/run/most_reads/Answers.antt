use Rattle.std.proofs.Common.{rules}
use Rattle.zh_program.proofs.run.most_reads.Goals as goal

pub returns : goal.returns
returns c = search rules
