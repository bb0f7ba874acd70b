-- The votes held, and the first list whose votes differ from them.
use Rattle.std.specs.Prelude.{◌≡◌, ◌≢◌, ℕ, false, if◌then◌else◌, ◌+◌, ◌/◌, ◌<◌, Option, IfSome, MatchOption}
use Rattle.std.specs.Prelude.{List, length, slice_index, slice_index_or}
use Rattle.zh_districts.specs.Canton.{Canton}
use Rattle.zh_totals.specs.Totals.{VoteTotals}
use Rattle.zh_check.specs.Cells.{line_of_list}
use Rattle.zh_check.specs.Lines.{after_lines, first_line}
use Rattle.zh_check.specs.Reading.{lines_above, standing, votes_read}
use Rattle.zh_check.specs.declared.checked.OtherVotes.{OtherVotes}

-- the line number of the votes of the list at a place: its own, or that of its constituency if the list does not stand
abbrev pub line_of_votes : Canton → ℕ → ℕ
line_of_votes canton place =
    if slice_index_or (standing canton) place false then line_of_list canton place
    else 2 + lines_above canton + place / length canton.groups

-- the votes at this place differ, and those at each earlier place are the same
pub record IsFirstOther (votes held : List ℕ) (place : ℕ) : Type 0 where
  pub there : place < length votes
  pub also_held : place < length held
  pub other : slice_index votes place ≢ slice_index held place
  pub before : (k : ℕ) → k < place → slice_index votes k ≡ slice_index held k

-- the report: the line after the first `before` lines, and the votes held
pub record IsOther (text : List ℕ) (before votes : ℕ) (other : OtherVotes) : Type 0 where
  pub line : other.line ≡ before + 1
  pub found : other.found.items ≡ first_line (after_lines before text)
  pub held : other.held ≡ votes

-- the first list whose votes differ
pub record IsOtherVotes (canton : Canton) (text votes held : List ℕ) (other : OtherVotes) : Type 0 where
  pub place : ℕ
  pub first : IsFirstOther votes held place
  pub before : ℕ
  pub line : line_of_votes canton place ≡ before + 1
  pub said : IsOther text before (slice_index held place) other

-- if the votes held are given, they are those that a text shows
abbrev pub HasHeldVotes : Canton → Option VoteTotals → List ℕ → Type 0
HasHeldVotes canton held text = IfSome held (λ h. votes_read canton text ≡ h.votes)

-- they are not those held; if the totals are of as many lists, this is the first list whose votes differ
pub record HasOtherVotes (canton : Canton) (held : Option VoteTotals) (text : List ℕ) (other : OtherVotes) : Type 0 where
  pub votes : ¬ HasHeldVotes canton held text
  pub list : IfSome held (λ h. length h.votes ≡ length (votes_read canton text) →
      IsOtherVotes canton text (votes_read canton text) h.votes other)

abbrev pub FindsOtherVotes : Canton → Option VoteTotals → List ℕ → Option OtherVotes → Type 0
FindsOtherVotes canton held text found = MatchOption found (HasHeldVotes canton held text) (HasOtherVotes canton held text)
