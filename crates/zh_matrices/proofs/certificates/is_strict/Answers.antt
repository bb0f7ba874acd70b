use Rattle.std.proofs.Common.{rules}
use Rattle.zh_matrices.proofs.certificates.is_strict.Goals as goal

pub returns : goal.returns
returns c = search rules
