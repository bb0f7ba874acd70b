use Rattle.std.proofs.Common.{◌≡◌, ℕ, ◌+◌, ◌-◌, ◌<◌, ◌++◌, [], ◌∷◌, List, get_or, take, length, ap, sym, ◌∙◌, arith}
use Rattle.std.proofs.lemmas.List.{take_all, take_more}
use Rattle.zh_check.proofs.reasons.each_seats.Goals as goal

pub loop-place-preserved : goal.loop-place-preserved
loop-place-preserved c =
    let p : ℕ = c.loop-place.place in
    let all : List ℕ = c.args.upper.now.seats in
    let place : p + 1 - 1 ≡ p = omega arith in
    let there : p < length all = omega (arith, c.requires, c.loop-place-test.true) in
    c.in_ok-push.ensures.items
    ∙ (ap (λ xs. xs ++ c.seats.result ∷ []) c.loop-place.invariant
    ∙ (ap (λ x. take p all ++ x ∷ []) (c.seats.ensures ∙ ap (λ k. get_or all k 0) place) ∙ sym (take_more all p 0 there)))

pub returns : goal.returns
returns c =
    c.loop-place.invariant ∙ take_all c.loop-place.place c.args.upper.now.seats (omega (arith, c.requires, c.loop-place-test.false))
