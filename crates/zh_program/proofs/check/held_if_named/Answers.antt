use Rattle.std.proofs.Common.{rules, ◌≡◌, Err, Some}
use Rattle.zh_program.specs.Check.{an_export}
use Rattle.zh_program.proofs.TextLemmas.{gives, lacks}
use Rattle.zh_program.proofs.check.held_if_named.Goals as goal

pub returns-in_err-sums-in-Some : goal.returns-in_err-sums-in-Some
returns-in_err-sums-in-Some g c =
    let is : c.from_residual.result ≡ Err c.in_err-sums-in-Some.field-0.0 = search rules in
    let given : c.args.path ≡ Some c.in-Some.path = search rules in
    rw (given, is) (lacks g.F.Files (an_export c.args.setup.now) c.in-Some.path.now _ _ c.held_at.ensures.call c.in_err-sums-in-Some.field-0.0 c.in_err-sums-in-Some.ensures.fault)

pub returns-in_ok-sums-in-Some : goal.returns-in_ok-sums-in-Some
returns-in_ok-sums-in-Some g c =
    let given : c.args.path ≡ Some c.in-Some.path = search rules in
    rw given (gives g.F.Files (an_export c.args.setup.now) c.in-Some.path.now _ _ c.held_at.ensures.call c.in_ok-sums-in-Some.sums c.in_ok-sums-in-Some.ensures.sums)
