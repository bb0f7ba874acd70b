use Rattle.std.proofs.Common.{◌<◌, ◌-◌, length, refl, ap, arith}
use Rattle.std.proofs.lemmas.List.{length-map}
use Rattle.zh_districts.specs.Canton.{Canton}
use Rattle.zh_districts.specs.Parts.{group}
use Rattle.zh_districts.proofs.ImageLemmas.{image_is}
use Rattle.zh_districts.proofs.setup.Setup.group_name.Goals as goal

pub returns : goal.returns
returns c =
    let items = c.self.inside.groups.items in
    let within : c.args.group - 1 < length items = omega (arith, length-map items group, ap (λ (v : Canton). length v.groups) c.self.view_is) in
    let found = image_is group items _ c.index.result.now within c.index.ensures in
    rw (← c.self.view_is) (rw (found, c.as_str.ensures.value) refl)
