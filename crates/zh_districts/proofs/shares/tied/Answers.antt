use Rattle.std.proofs.Common.{◌≡◌, ◌<◌, ◌≤◌, ◌^◌, ◌∙◌, ℕ, List, length, sym, subst, arith}
use Rattle.std.proofs.lemmas.Grind.{common_steps}
use Rattle.std.specs.Prelude.{All, Any}
use Rattle.zh_divisors.specs.Claims.{TellClaims}
use Rattle.zh_districts.specs.Claims.{IsTiedIn, Tell}
use Rattle.zh_districts.specs.Seats.{persons}
use Rattle.zh_districts.proofs.ClaimLemmas.{if_ok, told_of}
use Rattle.zh_districts.proofs.ImageLemmas.{persons_small, persons_positive}
use Rattle.zh_districts.proofs.shares.tied.Goals as goal

pub new-requires-clause-not_empty : goal.new-requires-clause-not_empty
new-requires-clause-not_empty c = grind (arith, common_steps)

pub new-requires-clause-each_small : goal.new-requires-clause-each_small
new-requires-clause-each_small c =
    let canton = c.args.setup.now in
    let same : persons canton ≡ c.deref.result.now = sym (c.deref.ensures.value ∙ c.in_ok-persons.ensures.persons) in
    subst (λ (ws : List ℕ). All (λ w. w ≤ 10 ^ 14) ws) same (persons_small canton c.in_ok-persons.ensures.limits)

pub same_claims-requires-clause-positive : goal.same_claims-requires-clause-positive
same_claims-requires-clause-positive c =
    let canton = c.args.setup.now in
    let same : persons canton ≡ c.in_ok-weights.weights = sym (c.in_ok-weights.ensures ∙ (c.deref.ensures.value ∙ c.in_ok-persons.ensures.persons)) in
    subst (λ (ws : List ℕ). Any (λ w. 0 < w) ws) same (persons_positive canton c.in_ok-persons.ensures.limits)

pub returns : goal.returns
returns c =
    let canton = c.args.setup.now in
    let weights : c.in_ok-weights.weights ≡ persons canton = c.in_ok-weights.ensures ∙ (c.deref.ensures.value ∙ c.in_ok-persons.ensures.persons) in
    if_ok c.same_claims.result (λ marks. TellClaims c.in_ok-weights.weights c.house.result marks.items) (λ marks. Tell (IsTiedIn canton) (length canton.constituencies) marks.items)
    (λ marks told. told_of canton c.in_ok-weights.weights c.house.result marks.items weights c.house.ensures.house told) c.same_claims.ensures
