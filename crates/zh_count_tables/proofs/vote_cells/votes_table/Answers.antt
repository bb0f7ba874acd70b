use Rattle.std.proofs.Common.{Bool, List, ℕ, ◌++◌, ◌∙◌, ap, refl, subst, sym}
use Rattle.std.proofs.lemmas.Result.{IfOk-weaker}
use Rattle.zh_quorum.specs.Quorum.{AreParticipating}
use Rattle.zh_sheet_text.specs.Table.{grid_text}
use Rattle.zh_totals.specs.Counting.{totals_of}
use Rattle.zh_totals.specs.Totals.{VoteTotals}
use Rattle.zh_count_tables.specs.Grids.{list_grid, vote_grid, votes_title}
use Rattle.zh_count_tables.proofs.vote_cells.votes_table.Goals as goal

pub returns-in-Lists : goal.returns-in-Lists
returns-in-Lists c =
    let grid = list_grid c.args.count.now in
    let same = ap (λ (n : ℕ). votes_title n ++ grid_text grid) c.accepted.ensures.accepted in
    rw c.in-Lists.is (IfOk-weaker c.titled.result _ _ (λ text is. (grid, refl, is ∙ same)) c.titled.ensures)

pub returns-in_ok-taking-in-Groups : goal.returns-in_ok-taking-in-Groups
returns-in_ok-taking-in-Groups c =
    let tally = c.args.count.now in
    let taking = c.as_slice-taking.result.now in
    let grid = vote_grid tally taking in
    let told : AreParticipating (totals_of tally) taking
    = subst (λ (ts : List Bool). AreParticipating (totals_of tally) ts) (sym c.as_slice-taking.ensures.value)
    (subst (λ (t : VoteTotals). AreParticipating t c.in_ok-taking-in-Groups.taking.items) c.requires c.in_ok-taking-in-Groups.ensures) in
    let same = ap (λ (n : ℕ). votes_title n ++ grid_text grid) c.accepted-in-Groups.ensures.accepted in
    rw c.in-Groups.is (IfOk-weaker c.titled-in-Groups.result _ _ (λ text is. (grid, (taking, told, refl), is ∙ same)) c.titled-in-Groups.ensures)
