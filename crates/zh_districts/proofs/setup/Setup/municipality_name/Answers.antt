use Rattle.std.proofs.Common.{◌<◌, ◌-◌, length, refl, ap, arith}
use Rattle.std.proofs.lemmas.List.{length-map}
use Rattle.zh_districts.specs.Canton.{Canton}
use Rattle.zh_districts.specs.Parts.{municipality}
use Rattle.zh_districts.proofs.ImageLemmas.{image_is}
use Rattle.zh_districts.proofs.setup.Setup.municipality_name.Goals as goal

pub returns : goal.returns
returns c =
    let items = c.self.inside.municipalities.items in
    let within : c.args.municipality - 1 < length items = omega (arith, length-map items municipality, ap (λ (v : Canton). length v.municipalities) c.self.view_is) in
    let found = image_is municipality items _ c.index-named.result.now within c.index-named.ensures in
    rw (← c.self.view_is) (rw (found, c.as_str.ensures.value) refl)
