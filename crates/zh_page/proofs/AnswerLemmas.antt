-- The answer if the set-up and the export were read.
use Rattle.std.proofs.Common.{ℕ, List}
use Rattle.zh_verdicts.specs.Checks.{Inputs}
use Rattle.zh_page.specs.Answers.{AreTextsOf, IsVerdictOn, AnswersPage, Texts}
use Rattle.zh_page.specs.declared.answer.PageStatus.{PageStatus}
use Rattle.zh_page.specs.declared.answer.PageStatus.TheVariants.{Right, Wrong, NoSetup, NoRows, Memory}

pub says_verdict : (texts : Texts) (inputs : Inputs) (status : PageStatus) (text : List ℕ)
    → AreTextsOf texts inputs → IsVerdictOn inputs status text → AnswersPage texts status text
says_verdict texts inputs Right text are verdict = (inputs, are, verdict)
says_verdict texts inputs Wrong text are verdict = (inputs, are, verdict)
says_verdict texts inputs NoSetup text are verdict = absurd verdict
says_verdict texts inputs NoRows text are verdict = absurd verdict
says_verdict texts inputs Memory text are verdict = verdict
