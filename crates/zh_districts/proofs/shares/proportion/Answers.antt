use Rattle.std.proofs.Common.{◌≡◌, ◌<◌, ◌≤◌, ◌^◌, ℕ, List, sym, ◌∙◌, subst, arith}
use Rattle.std.proofs.lemmas.Grind.{common_steps}
use Rattle.std.specs.Prelude.{All, Any}
use Rattle.zh_districts.specs.Seats.{persons}
use Rattle.zh_districts.proofs.ImageLemmas.{persons_small, persons_positive}
use Rattle.zh_districts.proofs.shares.proportion.Goals as goal

pub new-requires-clause-each_small : goal.new-requires-clause-each_small
new-requires-clause-each_small c =
    let canton = c.args.setup.now in
    let same : persons canton ≡ c.deref.result.now = sym (c.deref.ensures.value ∙ c.in_ok-persons.ensures.persons) in
    subst (λ (ws : List ℕ). All (λ w. w ≤ 10 ^ 14) ws) same (persons_small canton c.in_ok-persons.ensures.limits)

pub apportion-requires-clause-positive : goal.apportion-requires-clause-positive
apportion-requires-clause-positive c =
    let canton = c.args.setup.now in
    let same : persons canton ≡ c.in_ok-weights.weights = sym (c.in_ok-weights.ensures ∙ (c.deref.ensures.value ∙ c.in_ok-persons.ensures.persons)) in
    subst (λ (ws : List ℕ). Any (λ w. 0 < w) ws) same (persons_positive canton c.in_ok-persons.ensures.limits)

pub returns : goal.returns
returns c =
    let given = c.apportion.ensures in
    let weights = c.in_ok-weights.ensures ∙ (c.deref.ensures.value ∙ c.in_ok-persons.ensures.persons) in
    let house = c.house.ensures.house in
    record { shares = rw (weights, house) at given; limits = c.in_ok-persons.ensures.limits }

pub new-requires-clause-not_empty : goal.new-requires-clause-not_empty
new-requires-clause-not_empty c = grind (arith, common_steps)
