use Rattle.std.proofs.Common.{⊎_elim}
use Rattle.zh_program.proofs.TouchLemmas.{still_held}
use Rattle.zh_program.proofs.laws.opening_excludes.Goals as goal

pub returns : goal.returns
returns g c = record {
  gone = λ task old new tally path bytes c leaves is known holds here before gone. ⊎_elim before gone
      (still_held task (g.F.Files.disk_at old) (g.F.Files.left old) (g.F.Files.left new) tally path bytes c leaves is known holds here);
}
