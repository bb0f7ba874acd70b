use Rattle.std.proofs.Common.{length}
use Rattle.zh_file.proofs.memory_folder.+stood_at.Given as goal

abbrev pub decreases-stood_at : goal.decreases-stood_at
decreases-stood_at l = length l.all.now
