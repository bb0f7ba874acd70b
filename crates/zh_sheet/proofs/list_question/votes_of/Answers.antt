use Rattle.std.proofs.Common.{◌+◌, ◌∙◌, ◌++◌, ap, sym, map}
use Rattle.zh_totals.specs.Totals.{votes_in}
use Rattle.zh_sheet.proofs.SeatedLemmas.{rows_more}
use Rattle.zh_sheet.proofs.list_question.votes_of.Goals as goal

pub loop-place-preserved : goal.loop-place-preserved
loop-place-preserved c = record {
  votes =
      c.in_ok-push_votes.ensures.votes
      ∙ (ap (λ xs. xs ++ map (votes_in c.args.totals.now (c.loop-place.place + 1)) c.args.seated.now) c.loop-place.invariant.votes
      ∙ sym (rows_more c.args.totals.now c.args.seated.now c.loop-place.place));
  small = c.in_ok-push_votes.ensures.small;
}
