use Rattle.std.proofs.Common.{◌≤◌, length, arith}
use Rattle.std.proofs.lemmas.Grind.{common_steps}
use Rattle.zh_districts.specs.Parts.{constituency}
use Rattle.zh_districts.proofs.ImageLemmas.{image_at}
use Rattle.zh_districts.proofs.bytes.put_constituencies.Goals as goal

pub put_constituency-requires : goal.put_constituency-requires
put_constituency-requires c =
    image_at (λ x. length x.name ≤ 40) constituency c.args.parts.now c.loop-part.part-index c.part-item.result c.requires.names c.loop-part-test.true c.part-item.is

pub loop-part-preserved : goal.loop-part-preserved
loop-part-preserved c = grind (arith, common_steps)

pub returns : goal.returns
returns c = grind (arith, common_steps)
