use Rattle.std.proofs.Common.{◌≡◌, ℕ, ◌<◌, ◌+◌, ◌*◌, ◌/◌, ◌%◌, arith}
use Rattle.std.proofs.Math.Nat.{div-add-mod', mod-lt}
use Rattle.zh_check.proofs.CellLemmas.{on_half, rounds_down, rounds_up}
use Rattle.zh_check.proofs.lists.rounded.Goals as goal

pub returns-then-rest-missing : goal.returns-then-rest-missing
returns-then-rest-missing c =
    let n : ℕ = c.args.votes in
    let p : ℕ = c.args.product in
    let parts : n ≡ n / p * p + n % p = omega (arith, div-add-mod' n p) in
    let positive : 0 < p = omega (arith, c.if-product-eq0.false) in
    let small : n % p < p = mod-lt n positive in
    rounds_down n p (n / p) (n % p) parts (omega (arith, c.if-rest-missing.true, small))

pub returns-then-rest-missing-2 : goal.returns-then-rest-missing-2
returns-then-rest-missing-2 c =
    let n : ℕ = c.args.votes in
    let p : ℕ = c.args.product in
    let parts : n ≡ n / p * p + n % p = omega (arith, div-add-mod' n p) in
    let positive : 0 < p = omega (arith, c.if-product-eq0.false) in
    let small : n % p < p = mod-lt n positive in
    rounds_up n p (n / p) (n % p) parts small (omega (arith, c.if-rest-missing-2.true, small))

pub returns : goal.returns
returns c =
    let n : ℕ = c.args.votes in
    let p : ℕ = c.args.product in
    let parts : n ≡ n / p * p + n % p = omega (arith, div-add-mod' n p) in
    let positive : 0 < p = omega (arith, c.if-product-eq0.false) in
    let small : n % p < p = mod-lt n positive in
    on_half n p (n / p) (n % p) parts (omega (arith, c.if-rest-missing.false, c.if-rest-missing-2.false, small)) positive
