use Rattle.std.proofs.Common.{Option, refl, subst, take}
use Rattle.std.specs.Option.{option_copied}
use Rattle.zh_verdicts.specs.Checks.{Inputs}
use Rattle.zh_csv.specs.declared.held_sums.HeldSums.{HeldSums}
use Rattle.zh_page.specs.Answers.{AreTextsOf, IsVerdictOn, Texts}
use Rattle.zh_page.proofs.AnswerLemmas.{says_verdict}
use Rattle.zh_page.proofs.checked.check_texts.Goals as goal

pub returns-in-Ok-sums_if_given : goal.returns-in-Ok-sums_if_given
returns-in-Ok-sums_if_given c =
    let texts : Texts = record { setup = c.args.setup.now; sheet = c.args.sheet.now; held = option_copied c.args.held } in
    let canton = c.in-Ok.setup in
    let front = take 280065 c.args.sheet.now in
    let inputs : Inputs = record { canton = canton; sheet = front; held = c.in-Ok-sums_if_given.sums } in
    let are : AreTextsOf texts inputs = record { setup = c.in-Ok.ensures.set_up; sheet = refl; held = c.in-Ok-sums_if_given.ensures } in
    let answer = c.verdict_on.result in
    let said : IsVerdictOn inputs answer.status answer.text.items =
    subst (λ (held : Option HeldSums). IsVerdictOn (record { canton = canton; sheet = front; held = held }) answer.status answer.text.items)
    c.as_ref.ensures.value c.verdict_on.ensures in
    says_verdict texts inputs answer.status answer.text.items are said
