use Rattle.std.specs.Option.{option_copied}
use Rattle.zh_check.proofs.VerdictLemmas.{off_form}
use Rattle.zh_check.proofs.checked.check.Goals as goal

pub returns-in-Some-clause-exactly : goal.returns-in-Some-clause-exactly
returns-in-Some-clause-exactly c =
    off_form c.args.setup.now (option_copied c.args.held) c.args.text.now c.in-Some.wrong (rw c.in-Some.is at c.in_ok-wrong.ensures)
