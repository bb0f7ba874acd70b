-- The votes so far as comma-separated text: of each list, or of each group. They do not depend on seats.
use Rattle.std.specs.Prelude.{◌≡◌, ℕ, ◌-◌, Bool, false, List, [], ◌∷◌, ◌++◌, length, if◌then◌else◌, codes, decimal, slice_index_or}
use Rattle.zh_districts.specs.Canton.{stands}
use Rattle.zh_returns.specs.Tally.{Tally}
use Rattle.zh_totals.specs.Counting.{counted, totals_of}
use Rattle.zh_totals.specs.Totals.{all_votes, constituency_votes}
use Rattle.zh_quorum.specs.Quorum.{AreParticipating, group_votes}
use Rattle.zh_text.specs.Each.{each_to}
use Rattle.zh_record_text.specs.Names.{name_of_constituency, name_of_group}
use Rattle.zh_record_text.specs.Records.{TableRecord, record_text}
use Rattle.zh_count_tables.specs.Quorums.{TellQuorums}
use Rattle.zh_count_tables.specs.Returned.{returned_of}
use Rattle.zh_count_tables.specs.declared.returned.Region.TheVariants as regions
use Rattle.zh_count_tables.specs.declared.votes.VotesOf.{VotesOf}
use Rattle.zh_count_tables.specs.declared.votes.VotesOf.TheVariants.{Lists, Groups}

-- the names of the columns
abbrev pub votes_columns : VotesOf → TableRecord
votes_columns Lists =
    codes "constituency" ∷ codes "group" ∷ codes "votes" ∷ codes "constituency_votes" ∷ codes "reaches_quorum"
    ∷ codes "held" ∷ codes "due" ∷ codes "commands" ∷ codes "constituency_name" ∷ codes "group_name" ∷ []
votes_columns Groups =
    codes "group" ∷ codes "votes" ∷ codes "all_votes" ∷ codes "reaches_quorum" ∷ codes "held" ∷ codes "due" ∷ codes "commands"
    ∷ codes "group_name" ∷ []

-- `yes` or `no`
abbrev pub yes_or_no : Bool → List ℕ
yes_or_no holds = if holds then codes "yes" else codes "no"

-- the record of a group's list in a constituency: its votes, those of all lists there, whether it reaches the quorum there, and its returns
-- from there
abbrev pub list_votes : Tally → (ℕ → ℕ → Bool) → ℕ → ℕ → List ℕ
list_votes tally reaches d g = record_text
    (decimal d ∷ decimal g ∷ decimal (counted tally d g) ∷ decimal (constituency_votes (totals_of tally) d)
    ∷ yes_or_no (reaches d g) ∷ decimal (returned_of tally (regions.Constituency d) g).held
    ∷ decimal (returned_of tally (regions.Constituency d) g).due ∷ decimal tally.accepted
    ∷ name_of_constituency tally.canton d ∷ name_of_group tally.canton g ∷ [])

-- the record of a list, if it stands
abbrev pub standing_votes : Tally → (ℕ → ℕ → Bool) → ℕ → ℕ → List ℕ
standing_votes tally reaches d g = if stands tally.canton d g then list_votes tally reaches d g else []

-- the records of a constituency, list by list
abbrev pub votes_of_lists_in : Tally → (ℕ → ℕ → Bool) → ℕ → List ℕ
votes_of_lists_in tally reaches d = each_to (length tally.canton.groups) (standing_votes tally reaches d)

-- the records of all lists, by constituency
abbrev pub votes_of_lists : Tally → (ℕ → ℕ → Bool) → List ℕ
votes_of_lists tally reaches = each_to (length tally.canton.constituencies) (votes_of_lists_in tally reaches)

-- the record of a group: its votes in the whole canton, those of all groups, whether it would take part, and its returns
abbrev pub votes_of_group : Tally → List Bool → ℕ → List ℕ
votes_of_group tally taking g = record_text
    (decimal g ∷ decimal (group_votes (totals_of tally) g) ∷ decimal (all_votes (totals_of tally))
    ∷ yes_or_no (slice_index_or taking (g - 1) false) ∷ decimal (returned_of tally regions.Canton g).held
    ∷ decimal (returned_of tally regions.Canton g).due ∷ decimal tally.accepted ∷ name_of_group tally.canton g ∷ [])

abbrev pub votes_of_groups : Tally → List Bool → List ℕ
votes_of_groups tally taking = each_to (length tally.canton.groups) (votes_of_group tally taking)

-- the rows, without the names of the columns. A list says whether it reaches the quorum of its constituency. A group says whether it would
-- take part: one of its lists reaches that quorum, or the group reaches that of the whole canton, if there is one.
abbrev pub AreVotesOf : Tally → VotesOf → List ℕ → Type 0
AreVotesOf tally Lists rows =
    (reaches : ℕ → ℕ → Bool) × TellQuorums (totals_of tally) reaches × (rows ≡ votes_of_lists tally reaches)
AreVotesOf tally Groups rows =
    (taking : List Bool) × AreParticipating (totals_of tally) taking × (rows ≡ votes_of_groups tally taking)

-- the whole text
abbrev pub IsVotesText : Tally → VotesOf → List ℕ → Type 0
IsVotesText tally of text = (rows : List ℕ) × AreVotesOf tally of rows × (text ≡ record_text (votes_columns of) ++ rows)
