use Rattle.zh_file.specs.MemoryFolder.{stood_as}
use Rattle.zh_file.specs.declared.memory_folder.Stood.TheVariants.{File}
use Rattle.zh_file.proofs.MemoryLemmas.{put_made, put_others}
use Rattle.zh_file.proofs.memory_folder.MemoryFolder.place.Goals as goal

pub returns-then-is_free-clause-made : goal.returns-then-is_free-clause-made
returns-then-is_free-clause-made g c = put_made c.args.path.now c.new.result.items c.args.self.now c.put.new.self c.put.result c.new.ensures.items
    (c.is_free.ensures.0 c.if-is_free.true) c.put.ensures.put c.put.ensures.err

pub returns-then-is_free-clause-others : goal.returns-then-is_free-clause-others
returns-then-is_free-clause-others g c = put_others c.args.path.now (stood_as (File c.new.result)) c.args.self.now c.put.new.self c.put.result
    c.put.ensures.put c.put.ensures.err
