use Rattle.std.proofs.Common.{Bool, List, refl, subst, sym}
use Rattle.zh_quorum.specs.Quorum.{AreParticipating}
use Rattle.zh_totals.specs.Counting.{totals_of}
use Rattle.zh_totals.specs.Totals.{VoteTotals}
use Rattle.zh_count_tables.specs.Quorums.{reaches_quorum}
use Rattle.zh_count_tables.specs.Votes.{votes_of_groups, votes_of_lists}
use Rattle.zh_count_tables.specs.declared.votes.VotesOf.TheVariants.{Lists, Groups}
use Rattle.zh_count_tables.proofs.QuorumLemmas.{told}
use Rattle.zh_count_tables.proofs.VotesLemmas.{votes_text}
use Rattle.zh_count_tables.proofs.votes.write_votes.Goals as goal

pub returns-in-Lists : goal.returns-in-Lists
returns-in-Lists g c =
    let tally = c.args.count.now in
    let reaches = reaches_quorum (totals_of tally) in
    rw c.in-Lists.is (votes_text g.W.Write.contents c.args.writer tally Lists (votes_of_lists tally reaches) _ (reaches, told (totals_of tally), refl) c.write_table.ensures)

pub returns-in-Ok : goal.returns-in-Ok
returns-in-Ok g c =
    let tally = c.args.count.now in
    let taking = c.as_slice-taking.result.now in
    let told : AreParticipating (totals_of tally) taking
    = subst (λ (ts : List Bool). AreParticipating (totals_of tally) ts) (sym c.as_slice-taking.ensures.value) (subst (λ (t : VoteTotals). AreParticipating t c.in-Ok.taking.items) c.requires c.in-Ok.ensures) in
    rw c.in-Groups.is (votes_text g.W.Write.contents c.args.writer tally Groups (votes_of_groups tally taking) _ (taking, told, refl) c.write_table-in-Groups.ensures)
