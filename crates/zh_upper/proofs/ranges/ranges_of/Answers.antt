use Rattle.std.proofs.Common.{arith}
use Rattle.std.proofs.lemmas.Grind.{get_or_default_zero}
use Rattle.std.proofs.lemmas.Result.{IfOk-from_err}
use Rattle.zh_upper.proofs.ClaimLemmas.{at_divisor, few_halves, marked}
use Rattle.zh_upper.proofs.HalfLemmas.{are_ranges, down_small, up_small}
use Rattle.zh_upper.proofs.ranges.ranges_of.Goals as goal

pub offset_bounds-sums-first_marked : goal.offset_bounds-sums-first_marked
offset_bounds-sums-first_marked c =
    let is = marked c.args.sums.now c.in_ok-weights.weights c.args.house c.in_ok-claims.claims.items c.deref.result.now c.first_marked.result
    c.in_ok-weights.ensures c.deref.ensures.value c.in_ok-claims.ensures c.requires.tied c.requires.positive c.first_marked.ensures in
    omega (arith, is.within, c.requires.at_most_32)

pub bounds-sums-first_marked : goal.bounds-sums-first_marked
bounds-sums-first_marked c =
    (marked c.args.sums.now c.in_ok-weights.weights c.args.house c.in_ok-claims.claims.items c.deref.result.now c.first_marked.result
    c.in_ok-weights.ensures c.deref.ensures.value c.in_ok-claims.ensures c.requires.tied c.requires.positive c.first_marked.ensures).within

pub first_above-divisor-requires-clause-some : goal.first_above-divisor-requires-clause-some
first_above-divisor-requires-clause-some c =
    (marked c.args.sums.now c.in_ok-weights.weights c.args.house c.in_ok-claims.claims.items c.deref.result.now c.first_marked.result
    c.in_ok-weights.ensures c.deref.ensures.value c.in_ok-claims.ensures c.requires.tied c.requires.positive c.first_marked.ensures).half.tie.some

pub each_down-requires-clause-few : goal.each_down-requires-clause-few
each_down-requires-clause-few c =
    let is = marked c.args.sums.now c.in_ok-weights.weights c.args.house c.in_ok-claims.claims.items c.deref.result.now c.first_marked.result
    c.in_ok-weights.ensures c.deref.ensures.value c.in_ok-claims.ensures c.requires.tied c.requires.positive c.first_marked.ensures in
    few_halves c.args.sums.now c.args.house c.first_marked.result _ _ is c.requires.each_small c.requires.at_most_400
    c.first_above-divisor.ensures.weight c.first_above-divisor.ensures.first

pub each_up-requires-clause-few : goal.each_up-requires-clause-few
each_up-requires-clause-few c =
    let is = marked c.args.sums.now c.in_ok-weights.weights c.args.house c.in_ok-claims.claims.items c.deref.result.now c.first_marked.result
    c.in_ok-weights.ensures c.deref.ensures.value c.in_ok-claims.ensures c.requires.tied c.requires.positive c.first_marked.ensures in
    few_halves c.args.sums.now c.args.house c.first_marked.result _ _ is c.requires.each_small c.requires.at_most_400
    c.first_above-divisor.ensures.weight c.first_above-divisor.ensures.first

pub each_down-requires-clause-fit : goal.each_down-requires-clause-fit
each_down-requires-clause-fit c = λ k d kw.
    let is = marked c.args.sums.now c.in_ok-weights.weights c.args.house c.in_ok-claims.claims.items c.deref.result.now c.first_marked.result
    c.in_ok-weights.ensures c.deref.ensures.value c.in_ok-claims.ensures c.requires.tied c.requires.positive c.first_marked.ensures in
    let t = at_divisor c.args.sums.now c.args.house c.first_marked.result c.first_above-divisor.result.weight c.first_above-divisor.result.odd is
    c.first_above-divisor.ensures.weight c.first_above-divisor.ensures.first in
    let small = down_small c.args.sums.now c.args.house c.first_above-divisor.result.weight c.first_above-divisor.result.odd t k kw in
    rw (get_or_default_zero c.args.sums.now k d kw) (omega (arith, small, c.requires.at_most_400))

pub each_up-requires-clause-fit : goal.each_up-requires-clause-fit
each_up-requires-clause-fit c = λ k d kw.
    let is = marked c.args.sums.now c.in_ok-weights.weights c.args.house c.in_ok-claims.claims.items c.deref.result.now c.first_marked.result
    c.in_ok-weights.ensures c.deref.ensures.value c.in_ok-claims.ensures c.requires.tied c.requires.positive c.first_marked.ensures in
    let t = at_divisor c.args.sums.now c.args.house c.first_marked.result c.first_above-divisor.result.weight c.first_above-divisor.result.odd is
    c.first_above-divisor.ensures.weight c.first_above-divisor.ensures.first in
    let small = up_small c.args.sums.now c.args.house c.first_above-divisor.result.weight c.first_above-divisor.result.odd t k kw in
    rw (get_or_default_zero c.args.sums.now k d kw) (omega (arith, small, c.requires.at_most_400))

pub returns : goal.returns
returns c =
    let is = marked c.args.sums.now c.in_ok-weights.weights c.args.house c.in_ok-claims.claims.items c.deref.result.now c.first_marked.result
    c.in_ok-weights.ensures c.deref.ensures.value c.in_ok-claims.ensures c.requires.tied c.requires.positive c.first_marked.ensures in
    let t = at_divisor c.args.sums.now c.args.house c.first_marked.result c.first_above-divisor.result.weight c.first_above-divisor.result.odd is
    c.first_above-divisor.ensures.weight c.first_above-divisor.ensures.first in
    are_ranges c.args.sums.now c.args.house c.first_above-divisor.result.weight c.first_above-divisor.result.odd
    c.in_ok-each_down.field-0.items c.in_ok-each_up.field-0.items t c.in_ok-each_down.ensures c.in_ok-each_up.ensures

pub new-requires-clause-not_empty : goal.new-requires-clause-not_empty
new-requires-clause-not_empty c = omega (arith, c.requires.tied.from_within)

pub new-requires-clause-at_most_32 : goal.new-requires-clause-at_most_32
new-requires-clause-at_most_32 c = c.requires.at_most_32

pub new-requires-clause-each_small : goal.new-requires-clause-each_small
new-requires-clause-each_small c = c.requires.each_small

pub same_claims-requires-clause-positive : goal.same_claims-requires-clause-positive
same_claims-requires-clause-positive c = rw c.in_ok-weights.ensures c.requires.positive

pub first_above-divisor-requires-clause-at_most_32 : goal.first_above-divisor-requires-clause-at_most_32
first_above-divisor-requires-clause-at_most_32 c = c.requires.at_most_32

pub first_above-divisor-requires-clause-each_small : goal.first_above-divisor-requires-clause-each_small
first_above-divisor-requires-clause-each_small c = c.requires.each_small

pub first_above-divisor-requires-clause-small : goal.first_above-divisor-requires-clause-small
first_above-divisor-requires-clause-small c =
    let is = marked c.args.sums.now c.in_ok-weights.weights c.args.house c.in_ok-claims.claims.items c.deref.result.now c.first_marked.result
    c.in_ok-weights.ensures c.deref.ensures.value c.in_ok-claims.ensures c.requires.tied c.requires.positive c.first_marked.ensures in
    omega (arith, c.requires.each_small c.first_marked.result 0 is.within)

pub each_down-requires-clause-each_small : goal.each_down-requires-clause-each_small
each_down-requires-clause-each_small c = c.requires.each_small

pub each_up-requires-clause-each_small : goal.each_up-requires-clause-each_small
each_up-requires-clause-each_small c = c.requires.each_small

pub returns-in_err-weights : goal.returns-in_err-weights
returns-in_err-weights c = IfOk-from_err _ _ c.from_residual.ensures.0

pub returns-in_err-claims : goal.returns-in_err-claims
returns-in_err-claims c = IfOk-from_err _ _ c.from_residual-in_err-claims.ensures.0

pub returns-in_err-each_down : goal.returns-in_err-each_down
returns-in_err-each_down c = IfOk-from_err _ _ c.from_residual-in_err-each_down.ensures.0

pub returns-in_err-each_up : goal.returns-in_err-each_up
returns-in_err-each_up c = IfOk-from_err _ _ c.from_residual-in_err-each_up.ensures.0
