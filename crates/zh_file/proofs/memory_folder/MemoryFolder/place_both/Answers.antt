use Rattle.zh_file.proofs.MemoryLemmas.{both_made, one_made}
use Rattle.zh_file.proofs.memory_folder.MemoryFolder.place_both.Goals as goal

pub returns-in_err-place-clause-made : goal.returns-in_err-place-clause-made
returns-in_err-place-clause-made g c = one_made c.args.path.now c.args.self.now c.place.new.self c.place.ensures.made c.place.ensures.others

pub returns-clause-made : goal.returns-clause-made
returns-clause-made g c = both_made c.args.path.now c.args.companion.now c.args.self.now c.place.new.self c.place-2.new.self
    c.requires c.place.ensures.made c.place.ensures.others c.place-2.ensures.made c.place-2.ensures.others
