use Rattle.std.proofs.Common.{arith}
use Rattle.std.proofs.lemmas.Grind.{common_steps}
use Rattle.zh_setups.proofs.EachLemmas.{stands_of-more}
use Rattle.zh_setups.proofs.document.stands_among.Goals as goal

pub loop-before-preserved : goal.loop-before-preserved
loop-before-preserved c = rw (stands_of-more c.args.numbers.now c.loop-before.before, ← c.loop-before.invariant, ← c.is_among.ensures) c.in_ok-push.ensures.items

pub returns-in_err-push : goal.returns-in_err-push
returns-in_err-push c = grind (arith, common_steps)
