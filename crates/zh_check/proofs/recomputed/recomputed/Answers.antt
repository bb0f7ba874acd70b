use Rattle.std.proofs.Common.{◌≡◌, ap, ◌∙◌, subst}
use Rattle.zh_sheet.specs.Given.{IsGiven}
use Rattle.zh_totals.specs.GivenVotes.{AreTotalsOf}
use Rattle.zh_totals.specs.Totals.{VoteTotals}
use Rattle.zh_check.specs.Reading.{lists_read, totals_read}
use Rattle.zh_check.proofs.VerdictLemmas.{no_sheet, one_sheet}
use Rattle.zh_check.proofs.recomputed.recomputed.Goals as goal

pub returns-in_default-2 : goal.returns-in_default-2
returns-in_default-2 c =
    let canton = c.args.setup.now in
    let given : VoteTotals = record { canton = canton; votes = c.in_ok-votes.votes.items } in
    let totals = subst (λ t. AreTotalsOf given t) c.in-Some.is c.in_ok-totals.ensures in
    let read : c.in-Some.totals ≡ totals_read canton c.args.text.now
    = totals.0 ∙ ap (λ v. record { canton = canton; votes = v }) (c.in_ok-votes.ensures.items ∙ (c.deref.ensures.value ∙ c.requires.votes)) in
    let lists = lists_read c.in-Some.totals.canton c.args.text.now in
    no_sheet canton c.args.text.now c.in-Some.totals lists read (ap (λ t. lists_read t.canton c.args.text.now) read)
    (subst (λ f. IsGiven c.in-Some.totals lists f) c.in_default-2.is c.in_ok-sheet.ensures)

pub returns : goal.returns
returns c =
    let canton = c.args.setup.now in
    let given : VoteTotals = record { canton = canton; votes = c.in_ok-votes.votes.items } in
    let totals = subst (λ t. AreTotalsOf given t) c.in-Some.is c.in_ok-totals.ensures in
    let read : c.in-Some.totals ≡ totals_read canton c.args.text.now
    = totals.0 ∙ ap (λ v. record { canton = canton; votes = v }) (c.in_ok-votes.ensures.items ∙ (c.deref.ensures.value ∙ c.requires.votes)) in
    let lists = lists_read c.in-Some.totals.canton c.args.text.now in
    one_sheet canton c.args.text.now c.in-Some.totals lists c.in-Some-2.sheet c.args.values.now.head
    read (ap (λ t. lists_read t.canton c.args.text.now) read)
    (subst (λ f. IsGiven c.in-Some.totals lists f) c.in-Some-2.is c.in_ok-sheet.ensures)
    (c.is_desk.ensures.0 c.if-not-is_desk.false) c.requires.head
