use Rattle.std.proofs.Common.{arith, refl}
use Rattle.std.proofs.lemmas.Grind.{common_steps}
use Rattle.zh_disk.proofs.CallerLemmas.{handed, asks_so}
use Rattle.zh_snapshot.proofs.store.lend.Goals as goal

pub returns-clause-call : goal.returns-clause-call
returns-clause-call g c =
    handed refl (λ h by. asks_so (λ read. grind (arith, common_steps, read)) by) c.in_ok-read_at.ensures.call
