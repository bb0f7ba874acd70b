use Rattle.std.proofs.Common.{◌≤◌, length, arith}
use Rattle.std.proofs.lemmas.Grind.{common_steps}
use Rattle.zh_districts.specs.Parts.{group}
use Rattle.zh_districts.proofs.ImageLemmas.{image_at}
use Rattle.zh_districts.proofs.bytes.put_groups.Goals as goal

pub put_group-requires-clause-name : goal.put_group-requires-clause-name
put_group-requires-clause-name c =
    image_at (λ x. length x.name ≤ 40) group c.args.parts.now c.loop-part.part-index c.part-item.result c.requires.names c.loop-part-test.true c.part-item.is

pub put_group-requires-clause-stands : goal.put_group-requires-clause-stands
put_group-requires-clause-stands c =
    image_at (λ x. length x.stands ≤ 32) group c.args.parts.now c.loop-part.part-index c.part-item.result c.requires.stands c.loop-part-test.true c.part-item.is

pub loop-part-preserved : goal.loop-part-preserved
loop-part-preserved c = grind (arith, common_steps)

pub returns : goal.returns
returns c = grind (arith, common_steps)
