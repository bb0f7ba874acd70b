use Rattle.std.proofs.Common.{◌≤◌, ◌<◌, ◌-◌, arith, ap, length, map}
use Rattle.std.proofs.lemmas.List.{length-map}
use Rattle.zh_districts.specs.Canton as canton
use Rattle.zh_districts.specs.Parts.{municipality, constituency}
use Rattle.zh_districts.proofs.ImageLemmas.{image_at}
use Rattle.zh_districts.proofs.setup.Setup.constituency_of.Goals as goal

-- the constituency of the municipality that was read
lies_within : (c : goal.After-index) → (1 ≤ c.index.result.now.constituency) × (c.index.result.now.constituency ≤ length c.args.self.now.constituencies)
lies_within c =
    let items = c.self.inside.municipalities.items in
    let within : c.args.municipality - 1 < length items = omega (arith, length-map items municipality, ap (λ (v : canton.Canton). length v.municipalities) c.self.view_is) in
    let lies = image_at (λ x. (1 ≤ x.constituency) × (x.constituency ≤ length (map constituency c.self.inside.constituencies.items)))
    municipality items _ c.index.result.now c.self.invariant.within within c.index.ensures in
    (lies.0, omega (arith, lies.1, ap (λ (v : canton.Canton). length v.constituencies) c.self.view_is))

pub returns-clause-from_one : goal.returns-clause-from_one
returns-clause-from_one c = (lies_within c).0

pub returns-clause-there : goal.returns-clause-there
returns-clause-there c = (lies_within c).1
