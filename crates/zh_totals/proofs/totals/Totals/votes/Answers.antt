use Rattle.std.proofs.Common.{◌≡◌, ◌∙◌, ◌<◌, ◌*◌, length, slice_index, sym, ap, subst, arith}
use Rattle.std.proofs.lemmas.Grind.{get_or_default_zero}
use Rattle.zh_totals.specs.Totals.{VoteTotals, AreTotals, votes_in}
use Rattle.zh_totals.proofs.TotalsLemmas.{group_most}
use Rattle.zh_totals.proofs.totals.Totals.votes.Goals as goal

pub returns-clause-most : goal.returns-clause-most
returns-clause-most c =
    let d = c.args.constituency in
    let g = c.args.group in
    let votes = c.self.inside.votes.items in
    let inside : c.place.result < length votes =
    let within = subst (λ (t : VoteTotals). c.place.result < length t.canton.constituencies * length t.canton.groups) (sym c.self.view_is) c.place.ensures.within in omega arith in
    let is : c.index.result.now ≡ votes_in c.args.self.now d g =
    c.index.ensures ∙ get_or_default_zero votes c.place.result c.index.result.now inside
    ∙ ap (λ (t : VoteTotals). slice_index t.votes c.place.result) c.self.view_is
    ∙ ap (slice_index c.args.self.now.votes) c.place.ensures.place in
    let limits = subst AreTotals c.self.view_is c.self.invariant.totals in
    let most = group_most c.args.self.now d g limits c.requires.from_one c.requires.there c.requires.group_from_one c.requires.group_there in
    omega arith
