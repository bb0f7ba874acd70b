use Rattle.std.proofs.Common.{◌∙◌, ℕ, ap, subst}
use Rattle.zh_returns.specs.Tally.{Tally}
use Rattle.zh_sheet_text.specs.SheetText.{sheet_text}
use Rattle.zh_office.specs.Filmed.{WritesText}
use Rattle.zh_office.proofs.office.Office.write_answer.Goals as goal

-- the sheet's text is written to the desk, with the number of accepted commands
pub returns-in-Sheet : goal.returns-in-Sheet
returns-in-Sheet g c =
    let accepted = c.accepted.ensures.accepted ∙ ap (λ (tally : Tally). tally.accepted) c.count.ensures in
    rw c.in-Sheet.is (subst (λ (n : ℕ). WritesText (g.W.Write.contents c.args.writer.now) (g.W.Write.contents c.write_sheet.new.out)
    (sheet_text c.in-Sheet.sheet c.args.desk c.in-Sheet.is_final n) c.write_sheet.result)
    accepted (record { all = c.write_sheet.ensures.all; front = c.write_sheet.ensures.front }))
