use Rattle.std.proofs.Common.{◌<◌, ◌-◌, length, refl, ap, arith}
use Rattle.std.proofs.lemmas.List.{length-map}
use Rattle.zh_districts.specs.Canton.{Canton}
use Rattle.zh_districts.specs.Parts.{constituency}
use Rattle.zh_districts.proofs.ImageLemmas.{image_is}
use Rattle.zh_districts.proofs.setup.Setup.persons.Goals as goal

pub returns : goal.returns
returns c =
    let items = c.self.inside.constituencies.items in
    let within : c.args.constituency - 1 < length items = omega (arith, length-map items constituency, ap (λ (v : Canton). length v.constituencies) c.self.view_is) in
    let found = image_is constituency items _ c.index.result.now within c.index.ensures in
    rw (← c.self.view_is) (rw found refl)
