use Rattle.std.proofs.Common.{List, [], ap, cond, false, rules, subst, sym, ◌≡◌, ℕ}
use Rattle.zh_districts.specs.Canton.{stands}
use Rattle.zh_record_text.specs.Records.{PutsText}
use Rattle.zh_record_text.proofs.CallerLemmas.{Puts-none}
use Rattle.zh_sheet_text.specs.Lists.{seats_row, standing_row}
use Rattle.zh_sheet_text.proofs.seats.StandingInNumberedRows.write_row.Goals as goal

pub returns-then-not-stands : goal.returns-then-not-stands
returns-then-not-stands g c =
    let rows = c.args.self.now in
    let x = rows.sheet.now in
    let line : List ℕ = seats_row x rows.mark rows.constituency c.args.group in
    let stands_not : stands x.totals.canton rows.constituency c.args.group ≡ false = search rules in
    let absent : standing_row x rows.mark rows.constituency c.args.group ≡ [] = ap (λ b. cond b line []) stands_not in
    subst (λ (text : List ℕ). PutsText g.W.Write.contents text c.args.writer.now c.args.writer.now) (sym absent) (Puts-none g.W.Write.contents c.args.writer.now c.requires.ready)
