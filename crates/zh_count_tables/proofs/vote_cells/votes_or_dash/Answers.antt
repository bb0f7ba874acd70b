use Rattle.std.proofs.Common.{ap, decimal, rules, true, ◌≡◌, ◌∙◌}
use Rattle.zh_districts.specs.Canton.{stands}
use Rattle.zh_totals.specs.Counting.{counted}
use Rattle.zh_totals.specs.Totals.{VoteTotals, votes_in}
use Rattle.zh_totals.proofs.CallerLemmas.{votes_counted}
use Rattle.zh_count_tables.proofs.vote_cells.votes_or_dash.Goals as goal

pub returns-then-stands : goal.returns-then-stands
returns-then-stands c =
    let tally = c.args.count.now in
    let d = c.args.constituency in
    let n = c.args.group in
    let here : c.votes.result ≡ counted tally d n
    = c.votes.ensures.votes ∙ ap (λ (t : VoteTotals). votes_in t d n) c.requires.totals ∙ votes_counted tally d n c.requires.line.0 c.requires.line.1 c.requires.column.0 c.requires.column.1 in
    let there : stands tally.canton d n ≡ true = search rules in
    rw there (c.number_cell.ensures ∙ ap decimal here)
