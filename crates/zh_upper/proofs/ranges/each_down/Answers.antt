use Rattle.std.proofs.Common.{map, ◌∙◌, ap, arith}
use Rattle.std.proofs.lemmas.List.{take_all}
use Rattle.std.proofs.lemmas.Result.{IfOk-from_err}
use Rattle.zh_upper.specs.Halves.{rounded_down}
use Rattle.zh_upper.proofs.HalfLemmas.{rounded_more}
use Rattle.zh_upper.proofs.ranges.each_down.Goals as goal

pub rounded_down-requires-clause-small : goal.rounded_down-requires-clause-small
rounded_down-requires-clause-small c = omega (arith, c.requires.each_small c.loop-weight.weight-index 0 c.loop-weight-test.true)

pub overflow_cast-rounded_down : goal.overflow_cast-rounded_down
overflow_cast-rounded_down c = rw c.rounded_down.ensures (omega (arith, c.requires.fit c.loop-weight.weight-index 0 c.loop-weight-test.true))

pub returns-in_err-push : goal.returns-in_err-push
returns-in_err-push c = IfOk-from_err _ _ c.from_residual-in_err-push.ensures.0

pub loop-weight-preserved : goal.loop-weight-preserved
loop-weight-preserved c =
    rounded_more (rounded_down c.args.divisor.weight c.args.divisor.odd) c.args.weights.now c.loop-weight.seats.items c.push.new.self.items c.loop-weight.weight-index
    c.rounded_down.result c.loop-weight.invariant c.loop-weight-test.true c.rounded_down.ensures c.in_ok-push.ensures.items

pub returns : goal.returns
returns c =
    c.loop-weight.invariant
    ∙ ap (map (rounded_down c.args.divisor.weight c.args.divisor.odd)) (take_all c.loop-weight.weight-index c.args.weights.now (omega (arith, c.loop-weight-test.false)))
