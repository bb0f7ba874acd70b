use Rattle.std.proofs.Common.{sym, ap, ◌∙◌, arith}
use Rattle.std.proofs.lemmas.Grind.{common_steps}
use Rattle.zh_setups.specs.Document.{number_within}
use Rattle.zh_setups.specs.Outcomes.{within_range}
use Rattle.zh_setups.proofs.EachLemmas.{goes_on}
use Rattle.zh_setups.proofs.document.read_numbers.Goals as goal

pub loop-value-preserved : goal.loop-value-preserved
loop-value-preserved c =
    let read = ap within_range (sym c.number.ensures ∙ c.in_ok-number.ensures.ok_part) in
    rw c.in_ok-push.ensures.items (goes_on (number_within 1 c.args.constituencies) c.loop-value.numbers.items c.args.values.now
    c.loop-value.value-index c.value-item.result c.in_ok-number.number _ c.loop-value-test.true c.value-item.is read c.loop-value.invariant)

pub returns : goal.returns
returns c = grind (arith, common_steps)

pub returns-in_err-number : goal.returns-in_err-number
returns-in_err-number c = grind (arith, common_steps)

pub returns-in_err-push : goal.returns-in_err-push
returns-in_err-push c = grind (arith, common_steps)
