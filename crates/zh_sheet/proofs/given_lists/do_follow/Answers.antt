use Rattle.std.proofs.Common.{◌≡◌, ap, length, ◌∙◌}
use Rattle.zh_sheet.specs.Given.{given_lists}
use Rattle.zh_sheet.specs.Stages.{question_in}
use Rattle.zh_sheet.proofs.GivenLemmas.{none_fit}
use Rattle.zh_sheet.proofs.given_lists.do_follow.Goals as goal

pub returns-else-do_fit : goal.returns-else-do_fit
returns-else-do_fit c =
    let rows : length c.seats-row_totals.result.now ≡ c.args.asked.now.matrix.rows
    = ap length c.seats-row_totals.ensures ∙ c.requires.row_totals.one_each in
    let columns : length c.as_slice-column_totals.result.now ≡ c.args.asked.now.matrix.columns
    = ap length c.as_slice-column_totals.ensures.value ∙ c.requires.column_totals.one_each in
    rw c.if-do_fit.false
    (none_fit (question_in c.args.asked.now) (given_lists c.args.seats.now c.args.row_divisors.now c.args.column_divisors.now) c.requires.row_totals
    (λ fit. let yes = c.do_fit.ensures.1 (rw (rows, columns) fit) in let no = c.if-do_fit.false in absurd (cc)))
