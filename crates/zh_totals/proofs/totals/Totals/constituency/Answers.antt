use Rattle.std.proofs.Common.{◌≡◌, ◌≤◌, ◌<◌, ◌∙◌, ◌-◌, length, sym, ap, subst, arith}
use Rattle.std.proofs.lemmas.Grind.{get_or_default_zero}
use Rattle.zh_totals.specs.Inside.{totals_in}
use Rattle.zh_totals.specs.Totals.{VoteTotals, AreTotals, constituency_votes}
use Rattle.zh_totals.proofs.TotalsLemmas.{constituency_most, constituency_at}
use Rattle.zh_totals.proofs.totals.Totals.constituency.Goals as goal

-- the stored votes of the constituency
is_kept : (c : goal.After-row_known-1) → c.index.result.now ≡ constituency_votes c.args.self.now c.args.constituency
is_kept c =
    let d = c.args.constituency in
    let totals = totals_in c.self.inside in
    let sums = c.self.inside.constituencies.items in
    let there = subst (λ (t : VoteTotals). d ≤ length t.canton.constituencies) (sym c.self.view_is) c.requires.there in
    let inside : d - 1 < length sums = omega (arith, c.self.invariant.constituencies.one_each, c.requires.from_one) in
    c.index.ensures ∙ get_or_default_zero sums (d - 1) c.index.result.now inside
    ∙ constituency_at totals sums d c.self.invariant.constituencies c.requires.from_one there
    ∙ ap (λ (t : VoteTotals). constituency_votes t d) c.self.view_is

pub returns-clause-votes : goal.returns-clause-votes
returns-clause-votes c = is_kept c

pub returns-clause-most : goal.returns-clause-most
returns-clause-most c =
    let is = is_kept c in
    let limits = subst AreTotals c.self.view_is c.self.invariant.totals in
    let most = constituency_most c.args.self.now c.args.constituency limits c.requires.from_one c.requires.there in
    omega arith
