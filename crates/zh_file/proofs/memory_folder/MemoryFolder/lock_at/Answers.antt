use Rattle.std.proofs.Common.{ap}
use Rattle.zh_file.specs.MemoryFolder.{standing_at}
use Rattle.zh_file.proofs.MemoryLemmas.{made_after, none_made}
use Rattle.zh_file.proofs.memory_folder.MemoryFolder.lock_at.Goals as goal

pub returns-in-Err-clause-made : goal.returns-in-Err-clause-made
returns-in-Err-clause-made g c = none_made c.args.path.now c.args.self.now c.pass.new.self (ap standing_at c.pass.ensures.same)

pub returns-then-self-clause-made : goal.returns-then-self-clause-made
returns-then-self-clause-made g c = none_made c.args.path.now c.args.self.now c.pass.new.self (ap standing_at c.pass.ensures.same)

pub returns-in-Ok-clause-made : goal.returns-in-Ok-clause-made
returns-in-Ok-clause-made g c = made_after c.args.path.now c.args.self.now c.pass.new.self c.both_at.new.self (ap standing_at c.pass.ensures.same) c.both_at.ensures.made

pub returns-in-Err-both_at-clause-made : goal.returns-in-Err-both_at-clause-made
returns-in-Err-both_at-clause-made g c = made_after c.args.path.now c.args.self.now c.pass.new.self c.both_at.new.self (ap standing_at c.pass.ensures.same) c.both_at.ensures.made
