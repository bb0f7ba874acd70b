use Rattle.std.proofs.Common.{◌≡◌, ◌∙◌, ℕ, MatchOption, Option, None, Ok, true, false, refl, subst, sym}
use Rattle.zh_returns.specs.Tally.{Tally}
use Rattle.zh_totals.specs.Totals.{VoteTotals}
use Rattle.zh_sheet.specs.Made.{IsMade}
use Rattle.zh_office.specs.Sheets.{AreClosed, IsFirstOpen}
use Rattle.zh_office.proofs.SheetLemmas.{sheet_given}
use Rattle.zh_office.proofs.office.Office.sheet.Goals as goal
use Rattle.zh_office.proofs.office.Office.sheet.Goals.{then-is_final, else-is_final}

pub returns-in-Ok-clause-answer : goal.returns-in-Ok-clause-answer
returns-in-Ok-clause-answer c =
    let tally = c.args.self.now.ledger.tally in
    let closed : c.args.is_final ≡ true → AreClosed tally = elim c.if-is_final.branch [
      | then-is_final w ↦ λ _.
          let none : w.first_open-open.result ≡ None = sym w.open-is ∙ c.in_default.is in
          subst (λ (t : Tally). AreClosed t) w.count.ensures
          (subst (λ (o : Option ℕ). MatchOption o (AreClosed w.count.result.now) (IsFirstOpen w.count.result.now)) none w.first_open-open.ensures)
      | else-is_final w ↦ λ is.
          let wrong : true ≡ false = sym is ∙ w.if-is_final.false in
          absurd (cc wrong)
    ] in
    sheet_given tally c.args.is_final _ closed
    (Ok c.in-Ok.sheet, subst (λ (t : VoteTotals). IsMade t (Ok c.in-Ok.sheet)) c.totals.ensures c.in-Ok.ensures.made, refl)
