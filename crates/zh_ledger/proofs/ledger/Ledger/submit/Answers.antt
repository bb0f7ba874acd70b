use Rattle.std.proofs.Common.{rules, refl}
use Rattle.zh_ledger.specs.Ledger.{MayResult}
use Rattle.zh_ledger.specs.declared.outcome.Outcome.TheVariants.{Same, Broken}
use Rattle.zh_ledger.proofs.SubmissionLemmas.{unchanged}
use Rattle.zh_ledger.proofs.ledger.Ledger.submit.Goals as goal

pub returns-in-Same-clause-submission : goal.returns-in-Same-clause-submission
returns-in-Same-clause-submission g c =
    let results : MayResult c.args.self.now c.args.command.now Same = search rules in
    unchanged _ _ _ _ results refl

pub returns-then-is_broken-clause-submission : goal.returns-then-is_broken-clause-submission
returns-then-is_broken-clause-submission g c =
    let results : MayResult c.args.self.now c.args.command.now Broken = search rules in
    unchanged _ _ _ _ results refl
