use Rattle.std.proofs.Common.{Option, refl, sym, subst}
use Rattle.std.specs.Prelude.{IsNone}
use Rattle.std.specs.Option.{option_copied}
use Rattle.std.proofs.lemmas.Result.{IfOk-weaker}
use Rattle.zh_check.specs.Verdicts.{IsReasonOf, IsRightExactly, IsWhyNone, right_text}
use Rattle.zh_check.specs.declared.checked.WrongLine.{WrongLine}
use Rattle.zh_check.proofs.VerdictLemmas.{differs_from, found_right, other_text, other_votes, parts_hold, why_exactly, why_reason}
use Rattle.zh_check.proofs.checked.verdict_of_values.Goals as goal

pub returns-in-Some-clause-exactly : goal.returns-in-Some-clause-exactly
returns-in-Some-clause-exactly c =
    other_votes c.args.setup.now (option_copied c.args.held) c.args.text.now c.in-Some.other (rw c.in-Some.is at c.in_ok-other.ensures)

pub returns-in_default-2-clause-exactly : goal.returns-in_default-2-clause-exactly
returns-in_default-2-clause-exactly c =
    let found = rw c.in_default-2.is at c.in_ok-right.ensures in
    IfOk-weaker c.why_none.result (IsWhyNone c.args.setup.now c.args.text.now) (IsRightExactly c.args.setup.now (option_copied c.args.held) c.args.text.now)
    (λ verdict why. why_exactly c.args.setup.now (option_copied c.args.held) c.args.text.now verdict found why) c.why_none.ensures

pub returns-in_default-2-clause-reason : goal.returns-in_default-2-clause-reason
returns-in_default-2-clause-reason c =
    let found = rw c.in_default-2.is at c.in_ok-right.ensures in
    let parts = parts_hold c.args.setup.now (option_copied c.args.held) c.args.text.now _ c.requires.formed c.in_default.is c.in_ok-other.ensures in
    IfOk-weaker c.why_none.result (IsWhyNone c.args.setup.now c.args.text.now) (IsReasonOf c.args.setup.now (option_copied c.args.held) c.args.text.now)
    (λ verdict why. why_reason c.args.setup.now (option_copied c.args.held) c.args.text.now verdict parts found why) c.why_none.ensures

pub returns-in-Some-3-clause-exactly : goal.returns-in-Some-3-clause-exactly
returns-in-Some-3-clause-exactly c =
    let found = rw c.in-Some-2.is at c.in_ok-right.ensures in
    other_text c.args.setup.now (option_copied c.args.held) c.args.text.now (right_text c.in-Some-2.right) c.in-Some-2.right found refl
    (rw c.in-Some-3.is at c.in_ok-line.ensures.other)

pub returns-in-Some-3-clause-reason : goal.returns-in-Some-3-clause-reason
returns-in-Some-3-clause-reason c =
    let found = rw c.in-Some-2.is at c.in_ok-right.ensures in
    let parts = parts_hold c.args.setup.now (option_copied c.args.held) c.args.text.now _ c.requires.formed c.in_default.is c.in_ok-other.ensures in
    let at = rw c.in-Some-3.is at c.in_ok-line.ensures.line in (
      parts,
      differs_from c.args.setup.now c.args.text.now (right_text c.in-Some-2.right) c.in-Some-3.line c.in-Some-2.right found refl
          (rw c.in-Some-3.is at c.in_ok-line.ensures.other) (λ _. at),
    )

pub returns-clause-exactly : goal.returns-clause-exactly
returns-clause-exactly c =
    let found = rw c.in-Some-2.is at c.in_ok-right.ensures in
    let parts = parts_hold c.args.setup.now (option_copied c.args.held) c.args.text.now _ c.requires.formed c.in_default.is c.in_ok-other.ensures in
    found_right c.args.setup.now (option_copied c.args.held) c.args.text.now c.in-Some-2.right parts found
    (c.in_ok-line.ensures.same (subst (λ (o : Option WrongLine). IsNone o) (sym c.in_default-3.is) refl))
