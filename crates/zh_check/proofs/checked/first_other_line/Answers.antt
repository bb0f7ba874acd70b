use Rattle.std.proofs.Common.{◌≡◌, ◌≢◌, true, sym, ◌∙◌, subst}
use Rattle.zh_check.specs.Differences.{DiffersAt}
use Rattle.zh_check.specs.Verdicts.{right_text}
use Rattle.zh_check.proofs.checked.first_other_line.Goals as goal

pub returns-then-is_same-clause-same : goal.returns-then-is_same-clause-same
returns-then-is_same-clause-same c = λ none. c.is_same.ensures.0 c.if-is_same.true ∙ (c.deref.ensures.value ∙ c.in_ok-expected.ensures)

pub returns-clause-other : goal.returns-clause-other
returns-clause-other c = λ e.
    let is : c.is_same.result ≡ true = c.is_same.ensures.1 (e ∙ sym (c.deref.ensures.value ∙ c.in_ok-expected.ensures)) in
    let differ = c.if-is_same.false in absurd (cc)

pub returns-clause-line : goal.returns-clause-line
returns-clause-line c =
    let text = c.args.text.now in
    let wrong = c.in_ok-first_difference.field-0 in
    let printed = c.deref-2.ensures.value ∙ c.in_ok-expected.ensures in
    let shown = c.deref-3.ensures.value ∙ c.in_ok-expected.ensures in
    let differ : text ≢ c.deref-2.result.now = λ e.
    let is : c.is_same.result ≡ true = c.is_same.ensures.1 (e ∙ (c.deref-2.ensures.value ∙ sym c.deref.ensures.value)) in
    let other = c.if-is_same.false in absurd (cc)
    in
    subst (λ s. DiffersAt text (right_text c.args.right.now) s wrong) shown
    (subst (λ t. DiffersAt text t c.deref-3.result.now wrong) printed (c.in_ok-first_difference.ensures differ))
