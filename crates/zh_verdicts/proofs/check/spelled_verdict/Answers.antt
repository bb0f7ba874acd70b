use Rattle.std.proofs.Common.{◌≡◌, ℕ, Bool, true, false, List, ap, ◌∙◌, subst, rules}
use Rattle.std.specs.Option.{option_copied}
use Rattle.std.specs.Prelude.{MatchBool}
use Rattle.std.proofs.lemmas.Result.{IfOk-weaker}
use Rattle.zh_check.specs.declared.checked.RightSheet.{RightSheet}
use Rattle.zh_check.specs.declared.checked.SheetVerdict.{SheetVerdict}
use Rattle.zh_check.specs.declared.checked.SheetVerdict.TheVariants.{Right}
use Rattle.zh_verdicts.specs.Checks.{ComesTo, Inputs, IsVerdict, SaysWrong, check_text}
use Rattle.zh_verdicts.specs.Text.{verdict_text}
use Rattle.zh_verdicts.proofs.check.spelled_verdict.Goals as goal

-- a verdict that the inputs come to, as its flag and its text say it
verdict_is : (inputs : Inputs) (verdict : SheetVerdict) (flag : Bool) (text : List ℕ) → ComesTo inputs verdict → text ≡ check_text inputs verdict →
    MatchBool flag ((right : RightSheet) × (verdict ≡ Right right)) (SaysWrong verdict) → IsVerdict inputs flag text
verdict_is inputs verdict true text comes is right =
    (right.0, subst (λ v. ComesTo inputs v) right.1 comes, is ∙ ap (λ v. check_text inputs v) right.1)
verdict_is inputs verdict false text comes is wrong = (verdict, comes, wrong, is)

pub returns : goal.returns
returns c =
    let inputs : Inputs = record { canton = c.args.setup.now; sheet = c.args.sheet.now; held = option_copied c.args.held } in
    let verdict : SheetVerdict = c.in_ok-verdict.verdict in
    let comes : ComesTo inputs verdict = record { exactly = search rules; reason = search rules } in
    let rows = ap (λ held. verdict_text held verdict) c.rows_in.ensures in
    IfOk-weaker c.spelled.result
    (λ s. (s.text.items ≡ verdict_text c.rows_in.result verdict) × MatchBool s.is_right ((right : RightSheet) × (verdict ≡ Right right)) (SaysWrong verdict))
    (λ s. IsVerdict inputs s.is_right s.text.items)
    (λ s is. verdict_is inputs verdict s.is_right s.text.items comes (is.0 ∙ rows) is.1) c.spelled.ensures
