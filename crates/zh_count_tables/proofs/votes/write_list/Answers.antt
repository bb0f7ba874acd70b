use Rattle.std.proofs.Common.{[], ◌∷◌, ap, decimal, rules, subst, ◌≡◌, ◌∙◌, OnOk}
use Rattle.zh_record_text.specs.Names.{name_of_constituency, name_of_group}
use Rattle.zh_record_text.specs.Records.{PutsText, TableRecord, record_text}
use Rattle.zh_totals.specs.Counting.{counted, totals_of}
use Rattle.zh_totals.specs.Totals.{VoteTotals, constituency_votes, votes_in}
use Rattle.zh_count_tables.specs.Quorums.{reaches_quorum}
use Rattle.zh_count_tables.specs.Returned.{returned_of}
use Rattle.zh_count_tables.specs.Votes.{yes_or_no}
use Rattle.zh_count_tables.specs.declared.returned.Region.TheVariants.{Constituency}
use Rattle.zh_totals.proofs.CallerLemmas.{votes_counted}
use Rattle.zh_count_tables.proofs.votes.write_list.Goals as goal

pub returns : goal.returns
returns g c =
    let tally = c.args.count.now in
    let totals = totals_of tally in
    let d = c.args.constituency in
    let n = c.args.group in
    let here : c.votes.result ≡ counted tally d n
    = c.votes.ensures.votes ∙ ap (λ (t : VoteTotals). votes_in t d n) c.requires.totals ∙ votes_counted tally d n c.requires.from_one c.requires.there c.requires.group_from_one c.requires.group_there in
    let there : c.constituency.result ≡ constituency_votes totals d = c.constituency.ensures.votes ∙ ap (λ (t : VoteTotals). constituency_votes t d) c.requires.totals in
    let told : c.reaches_quorum-reaches.result ≡ reaches_quorum totals d n = c.reaches_quorum-reaches.ensures ∙ ap (λ (t : VoteTotals). reaches_quorum t d n) c.requires.totals in
    let returns = returned_of tally (Constituency d) n in
    let first : c.as_bytes.result.now ≡ decimal d = search rules in
    let second : c.as_bytes-2.result.now ≡ decimal n = search rules in
    let votes : c.as_bytes-3.result.now ≡ decimal (counted tally d n) = c.as_bytes-3.ensures.value ∙ c.format-3.ensures.text ∙ ap decimal here in
    let all : c.as_bytes-4.result.now ≡ decimal (constituency_votes totals d) = c.as_bytes-4.ensures.value ∙ c.format-4.ensures.text ∙ ap decimal there in
    let reaches : c.as_bytes-5.result.now ≡ yes_or_no (reaches_quorum totals d n) = c.as_bytes-5.ensures.value ∙ c.yes_or_no.ensures.word ∙ ap yes_or_no told in
    let held : c.as_bytes-6.result.now ≡ decimal returns.held = search rules in
    let due : c.as_bytes-7.result.now ≡ decimal returns.due = search rules in
    let accepted : c.as_bytes-8.result.now ≡ decimal tally.accepted = search rules in
    let constituency : c.as_bytes-9.result.now ≡ name_of_constituency tally.canton d = search rules in
    let group : c.as_bytes-10.result.now ≡ name_of_group tally.canton n = search rules in
    let same : (c.as_bytes.result.now ∷ c.as_bytes-2.result.now ∷ c.as_bytes-3.result.now ∷ c.as_bytes-4.result.now ∷ c.as_bytes-5.result.now ∷ c.as_bytes-6.result.now ∷ c.as_bytes-7.result.now ∷ c.as_bytes-8.result.now ∷ c.as_bytes-9.result.now ∷ c.as_bytes-10.result.now ∷ [])
    ≡ (decimal d ∷ decimal n ∷ decimal (counted tally d n) ∷ decimal (constituency_votes totals d) ∷ yes_or_no (reaches_quorum totals d n) ∷ decimal returns.held ∷ decimal returns.due ∷ decimal tally.accepted ∷ name_of_constituency tally.canton d ∷ name_of_group tally.canton n ∷ [])
    = cc in
    subst (λ (fields : TableRecord). OnOk c.write_record.result (PutsText g.W.Write.contents (record_text fields) c.args.writer.now c.write_record.new.writer)) same c.write_record.ensures
