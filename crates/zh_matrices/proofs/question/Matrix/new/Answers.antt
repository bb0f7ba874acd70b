use Rattle.std.proofs.Common.{rules}
use Rattle.zh_matrices.proofs.question.Matrix.new.Goals as goal

pub returns : goal.returns
returns c = search rules
