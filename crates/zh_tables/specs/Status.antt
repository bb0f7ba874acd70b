-- The text of each view of the returns.
use Rattle.std.specs.Prelude.{◌≡◌, ℕ, ◌==◌, List, [], ◌∷◌, ◌++◌, length, codes, decimal, if◌then◌else◌, Result}
use Rattle.zh_divisors.specs.Shares.{Apportionment}
use Rattle.zh_districts.specs.declared.shares.SeatFault.{SeatFault}
use Rattle.zh_returns.specs.Tally.{Tally}
use Rattle.zh_text.specs.Each.{each_to}
use Rattle.zh_record_text.specs.Names.{name_of_constituency, name_of_group, name_of_municipality}
use Rattle.zh_record_text.specs.Records.{TableRecord, record_text}
use Rattle.zh_tables.specs.Implausible.{AreFound, found_note, implausible_rows}
use Rattle.zh_tables.specs.Progress.{is_missing, progress_of, progress_over, within}
use Rattle.zh_tables.specs.declared.progress.Progress.{Progress}
use Rattle.zh_tables.specs.declared.progress.Region.TheVariants.{Whole, Constituency}
use Rattle.zh_tables.specs.declared.view.View.{View}
use Rattle.zh_tables.specs.declared.view.View.TheVariants.{Municipalities, Constituencies, Missing, Implausible}

-- the names of the columns
abbrev pub columns : View → TableRecord
columns Missing = codes "municipality" ∷ codes "list" ∷ codes "municipality_name" ∷ codes "list_name" ∷ []
columns Implausible =
    codes "municipality" ∷ codes "list" ∷ codes "votes" ∷ codes "limit" ∷ codes "municipality_name" ∷ codes "list_name" ∷ []
columns view = codes "number" ∷ codes "held" ∷ codes "due" ∷ codes "state" ∷ codes "votes" ∷ codes "name" ∷ []

-- the state in one word: `empty` if there are no municipalities, as a constituency can have none; `closed` if all of them are
-- closed; otherwise `open`
abbrev pub state_of : Progress → List ℕ
state_of p =
    if p.municipalities == 0 then codes "empty" else (if p.closed == p.municipalities then codes "closed" else codes "open")

-- the record of a municipality, or of a constituency, with this progress
abbrev pub progress_row : ℕ → Progress → List ℕ → List ℕ
progress_row number p name =
    record_text (decimal number ∷ decimal p.held ∷ decimal p.due ∷ state_of p ∷ decimal p.votes ∷ name ∷ [])

abbrev pub municipality_progress : Tally → ℕ → List ℕ
municipality_progress tally m = progress_row m (progress_of tally m) (name_of_municipality tally.canton m)

abbrev pub constituency_progress : Tally → ℕ → List ℕ
constituency_progress tally d =
    progress_row d (progress_over tally (within tally.canton (Constituency d))) (name_of_constituency tally.canton d)

-- the record of a return that is missing
abbrev pub missing_row : Tally → ℕ → ℕ → List ℕ
missing_row tally m list = if is_missing tally m list then record_text
    (decimal m ∷ decimal list ∷ name_of_municipality tally.canton m ∷ name_of_group tally.canton list ∷ []) else []

-- the records of the missing returns of a municipality, list by list
abbrev pub missing_in : Tally → ℕ → List ℕ
missing_in tally m = each_to (length tally.canton.groups) (missing_row tally m)

-- the records of all missing returns, by municipality
abbrev pub missing_rows : Tally → List ℕ
missing_rows tally = each_to (length tally.canton.municipalities) (missing_in tally)

-- the rows of a view, without the names of its columns
abbrev pub AreRowsOf : Tally → View → List ℕ → Type 0
AreRowsOf tally Municipalities rows = rows ≡ each_to (length tally.canton.municipalities) (municipality_progress tally)
AreRowsOf tally Constituencies rows = rows ≡ each_to (length tally.canton.constituencies) (constituency_progress tally)
AreRowsOf tally Missing rows = rows ≡ missing_rows tally
AreRowsOf tally Implausible rows =
    (found : Result Apportionment SeatFault) × AreFound tally.canton found × (rows ≡ implausible_rows tally found)

-- the text of a view
abbrev pub IsStatusText : Tally → View → List ℕ → Type 0
IsStatusText tally view text = (rows : List ℕ) × AreRowsOf tally view rows × (text ≡ record_text (columns view) ++ rows)

-- whether a final sheet would be of all returns, in words
abbrev pub would_be : Progress → List ℕ
would_be p = if p.missing == 0 then codes "would be" else codes "would not be"

-- the line about the whole canton; 10 is LF
abbrev pub summary_of : Progress → ℕ → List ℕ
summary_of p accepted =
    decimal p.held ++ (codes " of " ++ (decimal p.due ++ (codes " returns, " ++ (decimal p.closed ++ (codes " of "
    ++ (decimal p.municipalities ++ (codes " municipalities closed, " ++ (decimal accepted ++ (codes " commands; final "
    ++ (would_be p ++ (codes " of all returns" ++ 10 ∷ [])))))))))))

abbrev pub summary : Tally → List ℕ
summary tally = summary_of (progress_over tally (within tally.canton Whole)) tally.accepted

-- the lines that go with a view: the canton in one line; for implausible votes, above it, why votes are not compared with persons
abbrev pub IsSaidOf : Tally → View → List ℕ → Type 0
IsSaidOf tally Implausible text =
    (found : Result Apportionment SeatFault) × AreFound tally.canton found × (text ≡ found_note found ++ summary tally)
IsSaidOf tally view text = text ≡ summary tally
