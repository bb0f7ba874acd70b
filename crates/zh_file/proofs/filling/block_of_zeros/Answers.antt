use Rattle.zh_file.specs.declared.filling.TheConstants.{BLOCK}
use Rattle.zh_file.proofs.ZeroLemmas.{replicated}
use Rattle.zh_file.proofs.filling.block_of_zeros.Goals as goal

pub returns : goal.returns
returns c = replicated BLOCK
