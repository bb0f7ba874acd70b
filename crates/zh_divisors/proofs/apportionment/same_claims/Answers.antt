use Rattle.std.proofs.Common.{◌≤◌, ◌<◌, Any, ◌-◌, ◌*◌, ◌+◌, length, get_or, arith}
use Rattle.std.specs.Prelude.{◌↔◌, IsTrue}
use Rattle.std.proofs.lemmas.Grind.{common_steps}
use Rattle.zh_divisors.specs.Fit.{IsFit}
use Rattle.zh_divisors.specs.SameWorth.{IsWorthAsMuch}
use Rattle.zh_divisors.specs.Worth.{IsLeastLast, IsMostNext}
use Rattle.zh_divisors.proofs.ClaimLemmas.{claim_nowhere, claim_there, told_all, told_more}
use Rattle.zh_divisors.proofs.LastSeatLemmas.{AreApart}
use Rattle.zh_divisors.proofs.apportionment.same_claims.Goals as goal

pub returns-then-next_is_worth_less : goal.returns-then-next_is_worth_less
returns-then-next_is_worth_less c =
    let weights = c.args.weights.now in
    let seats = c.in_ok-seats.seats.items in
    let last = c.least_last-last.result in
    let next = c.most_next-next.result in
    let fit : IsFit weights c.args.house seats = grind arith in
    let apart : AreApart weights seats last next = record { last_is = grind arith; next_is = grind arith; apart = grind arith } in
    claim_nowhere weights seats c.args.house last next c.in_ok-claims.claims.items fit apart (grind (arith, common_steps))

pub loop-k-preserved : goal.loop-k-preserved
loop-k-preserved c =
    let weights = c.as_slice-weights.result.now in
    let seats = c.in_ok-seats.seats.items in
    let last = c.least_last-last.result in
    let next = c.most_next-next.result in
    let k = c.loop-k.k in
    let kw : k < length weights = omega (arith, c.loop-k-test.true) in
    let fit : IsFit weights c.args.house seats = grind arith in
    let some : Any (λ w. 0 < w) weights = rw c.as_slice-weights.ensures.value c.requires.positive in
    let last_is : IsLeastLast weights seats (length weights) last = grind arith in
    let next_is : IsMostNext weights seats (length weights) next = grind arith in
    let together : get_or weights last 0 * (2 * get_or seats next 0 + 1) ≤ get_or weights next 0 * (2 * get_or seats last 0 - 1) = grind arith in
    let there = claim_there weights seats c.args.house last next k fit some last_is next_is together kw in
    let told : IsTrue c.is_worth_as_much.result ↔ IsWorthAsMuch weights seats last k = grind (arith, common_steps) in
    told_more weights c.args.house k c.loop-k.claims.items c.is_worth_as_much.result c.loop-k.invariant.0 kw c.loop-k.invariant.1
    (λ is. there.0 (told.0 is), λ claim. told.1 (there.1 claim))

pub returns : goal.returns
returns c =
    told_all c.args.weights.now c.as_slice-weights.result.now c.args.house c.loop-k.k c.loop-k.claims.items c.as_slice-weights.ensures.value
    c.loop-k.invariant.0 (omega (arith, c.loop-k-test.false)) c.loop-k.invariant.1
