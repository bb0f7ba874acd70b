use Rattle.std.proofs.Common.{◌≡◌, ap, length, refl, sym, ◌∙◌}
use Rattle.zh_sheet.specs.Distribution.{seated_groups}
use Rattle.zh_sheet.proofs.AskedLemmas.{length-upper}
use Rattle.zh_sheet.proofs.DistributionLemmas.{targets_above}
use Rattle.zh_sheet.proofs.QuestionLemmas.{above_can, is_asked}
use Rattle.zh_sheet.proofs.SeatedLemmas.{length-seated_votes, seated_within}
use Rattle.zh_sheet.proofs.list_question.ListQuestion.of.Goals as goal

pub seats_of-requires : goal.seats_of-requires
seats_of-requires c =
    let upper = c.in_ok-above.above.upper.seats in
    rw (c.deref.ensures.value, c.in_ok-seated.ensures) (seated_within upper (length upper) refl)

pub votes_of-requires : goal.votes_of-requires
votes_of-requires c =
    let above = c.in_ok-above.above in
    let targets = targets_above c.args.totals.now above c.in_ok-above.ensures.given in
    rw (c.deref-2.ensures.value, c.in_ok-seated.ensures)
    (seated_within above.upper.seats (length c.args.totals.now.canton.groups) (length-upper c.args.totals.now targets))

pub new-requires-clause-some_column : goal.new-requires-clause-some_column
new-requires-clause-some_column c =
    let long : c.len.result ≡ length (seated_groups c.in_ok-above.above.upper.seats)
    = c.len.ensures ∙ sym c.deref.ensures.len ∙ ap length (c.deref.ensures.value ∙ c.in_ok-seated.ensures) in
    rw long (above_can c.args.totals.now c.in_ok-above.above c.setup-setup.ensures.limits c.in_ok-above.ensures.given).some_column

pub new-requires-clause-few_columns : goal.new-requires-clause-few_columns
new-requires-clause-few_columns c =
    let long : c.len.result ≡ length (seated_groups c.in_ok-above.above.upper.seats)
    = c.len.ensures ∙ sym c.deref.ensures.len ∙ ap length (c.deref.ensures.value ∙ c.in_ok-seated.ensures) in
    rw long (above_can c.args.totals.now c.in_ok-above.above c.setup-setup.ensures.limits c.in_ok-above.ensures.given).few_columns

pub new-requires-clause-each_cell : goal.new-requires-clause-each_cell
new-requires-clause-each_cell c =
    let long : c.len.result ≡ length (seated_groups c.in_ok-above.above.upper.seats)
    = c.len.ensures ∙ sym c.deref.ensures.len ∙ ap length (c.deref.ensures.value ∙ c.in_ok-seated.ensures) in
    rw (
      c.deref-3.ensures.value,
      c.in_ok-votes.ensures.votes,
      c.constituencies.ensures.count,
      c.setup-setup.ensures.setup,
      long,
      c.deref-2.ensures.value,
      c.in_ok-seated.ensures,
    ) (length-seated_votes c.args.totals.now c.in_ok-above.above.upper.seats)

pub returns : goal.returns
returns c =
    let above = c.in_ok-above.above in
    let long : c.len.result ≡ length (seated_groups above.upper.seats)
    = c.len.ensures ∙ sym c.deref.ensures.len ∙ ap length (c.deref.ensures.value ∙ c.in_ok-seated.ensures) in
    record {
      given = is_asked c.args.totals.now _ c.setup-setup.ensures.limits c.in_ok-above.ensures.given c.in_ok-seated.ensures (rw (
        c.in_ok-matrix.ensures,
        c.deref-3.ensures.value,
        c.in_ok-votes.ensures.votes,
        c.in_ok-column_totals.ensures,
        c.constituencies.ensures.count,
        c.setup-setup.ensures.setup,
        long,
        c.deref.ensures.value,
        c.deref-2.ensures.value,
        c.in_ok-seated.ensures,
      ) refl);
      refused = tt;
      early = tt;
    }
