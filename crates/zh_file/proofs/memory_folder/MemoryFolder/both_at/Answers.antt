use Rattle.std.proofs.Common.{refl}
use Rattle.zh_file.proofs.MemoryLemmas.{none_made}
use Rattle.zh_file.proofs.memory_folder.MemoryFolder.both_at.Goals as goal

pub returns-in_err-companion-clause-made : goal.returns-in_err-companion-clause-made
returns-in_err-companion-clause-made g c = none_made c.args.path.now c.args.self.now c.args.self.now refl
