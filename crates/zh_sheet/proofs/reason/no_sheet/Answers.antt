use Rattle.std.proofs.Common.{arith, rules}
use Rattle.std.proofs.lemmas.Grind.{common_steps}
use Rattle.zh_sheet.proofs.QuestionLemmas.{exhausted, no_votes, tied}
use Rattle.zh_sheet.proofs.reason.no_sheet.Goals as goal

pub returns-in-NoVotes : goal.returns-in-NoVotes
returns-in-NoVotes c = no_votes c.args.totals.now c.args.asked _ c.requires.asked (rw c.in-NoVotes.is at c.requires.reason)

pub returns-in-Tied : goal.returns-in-Tied
returns-in-Tied c =
    tied c.args.totals.now c.args.asked c.in-Tied.tie _ c.requires.asked (rw c.in-Tied.is at c.requires.reason)
    (first_of (search rules, grind (arith, common_steps)))

pub returns-in-Exhausted : goal.returns-in-Exhausted
returns-in-Exhausted c =
    exhausted c.args.totals.now c.args.asked c.in-Exhausted.decided c.reason_of.result c.requires.asked
    (rw c.in-Exhausted.is at c.requires.reason) c.reason_of.ensures
