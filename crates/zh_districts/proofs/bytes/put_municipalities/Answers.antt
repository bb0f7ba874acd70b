use Rattle.std.proofs.Common.{◌<◌, ◌≤◌, length, arith}
use Rattle.std.proofs.lemmas.Grind.{common_steps}
use Rattle.zh_districts.specs.Parts.{municipality}
use Rattle.zh_districts.proofs.ImageLemmas.{image_at}
use Rattle.zh_districts.proofs.bytes.put_municipalities.Goals as goal

pub put_municipality-requires-clause-name : goal.put_municipality-requires-clause-name
put_municipality-requires-clause-name c =
    image_at (λ x. length x.name ≤ 40) municipality c.args.parts.now c.loop-part.part-index c.part-item.result c.requires.names c.loop-part-test.true c.part-item.is

pub put_municipality-requires-clause-number : goal.put_municipality-requires-clause-number
put_municipality-requires-clause-number c =
    image_at (λ x. x.constituency < 256) municipality c.args.parts.now c.loop-part.part-index c.part-item.result c.requires.numbers c.loop-part-test.true c.part-item.is

pub returns : goal.returns
returns c = grind (arith, common_steps)

pub loop-part-preserved : goal.loop-part-preserved
loop-part-preserved c = grind (arith, common_steps)
