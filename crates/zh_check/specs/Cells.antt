-- Whether the seats of each list follow from its votes and its divisors, as a text shows them.
use Rattle.std.specs.Prelude.{◌≡◌, ℕ, false, true, ◌+◌, ◌-◌, ◌*◌, ◌/◌, ◌%◌, ◌<◌, Option, MatchOption}
use Rattle.std.specs.Prelude.{List, count_by, length, slice_index, slice_index_or, take}
use Rattle.zh_districts.specs.Canton.{Canton}
use Rattle.zh_divisors.specs.Rounding.{Rounds}
use Rattle.zh_check.specs.Lines.{after_lines, first_line}
use Rattle.zh_check.specs.Reading.{group_divisors_read, lines_above, row_divisors_read, seats_read, standing, votes_read}
use Rattle.zh_check.specs.declared.lists.ShownList.{ShownList}
use Rattle.zh_check.specs.declared.checked.OffList.{OffList}
use Rattle.zh_check.specs.declared.checked.ListQuotient.{ListQuotient}
use Rattle.zh_check.specs.declared.checked.ListQuotient.TheVariants.{NoDivisor, OnHalf, RoundsTo}

-- n / p is on a half
pub record LiesOnHalf (n p : ℕ) : Type 0 where
  pub positive : 0 < p
  pub whole : ℕ
  pub half : 2 * n ≡ (2 * whole + 1) * p

-- what is said of n / p: what it rounds to and that it is not on a half, that it is on a half, or that p is 0
abbrev pub IsQuotient : ℕ → ℕ → ListQuotient → Type 0
IsQuotient n p (RoundsTo s) = Rounds n p s
IsQuotient n p OnHalf = LiesOnHalf n p
IsQuotient n p NoDivisor = p ≡ 0

-- the votes over both divisors, which are in millionths, round to the seats and are not on a half; without a divisor of the group there are
-- no seats
pub record DoSeatsFollow (list : ShownList) : Type 0 where
  pub none : list.column_divisor ≡ 0 → list.seats ≡ 0
  pub rounds : 0 < list.column_divisor → Rounds (list.votes * (1000000 * 1000000)) (list.row_divisor * list.column_divisor) list.seats

-- the list at a place, from 0, by constituency and group, as a text shows it
abbrev pub shown_list : Canton → List ℕ → ℕ → ShownList
shown_list canton text place = record {
  votes = slice_index (votes_read canton text) place;
  row_divisor = slice_index (row_divisors_read canton text) (place / length canton.groups);
  column_divisor = slice_index (group_divisors_read canton text) (place % length canton.groups);
  seats = slice_index (seats_read canton text) place;
}

-- if the list stands, its seats follow
abbrev pub DoFollowAt : Canton → List ℕ → ℕ → Type 0
DoFollowAt canton text place = slice_index_or (standing canton) place false ≡ true → DoSeatsFollow (shown_list canton text place)

-- the line number of that list, from 1
abbrev pub line_of_list : Canton → ℕ → ℕ
line_of_list canton place =
    2 + lines_above canton + length canton.constituencies + length canton.groups
    + count_by (λ stands. stands) (take place (standing canton))

-- the report of a list: its votes, its divisors, and their quotient
pub record IsOffAs (list : ShownList) (off : OffList) : Type 0 where
  pub votes : off.votes ≡ list.votes
  pub row : off.row_divisor ≡ list.row_divisor
  pub column : off.column_divisor ≡ list.column_divisor
  pub quotient : IsQuotient (list.votes * (1000000 * 1000000)) (list.row_divisor * list.column_divisor) off.quotient

-- this is the first list whose seats do not follow, with its line and its report
pub record IsOffList (canton : Canton) (text : List ℕ) (off : OffList) : Type 0 where
  pub place : ℕ
  pub there : place < length canton.constituencies * length canton.groups
  pub not : ¬ DoFollowAt canton text place
  pub before : (k : ℕ) → k < place → DoFollowAt canton text k
  pub line : off.line ≡ line_of_list canton place
  pub found : off.found.items ≡ first_line (after_lines (off.line - 1) text)
  pub says : IsOffAs (shown_list canton text place) off

-- the seats of each list follow
abbrev pub EachFollows : Canton → List ℕ → Type 0
EachFollows canton text = (k : ℕ) → k < length canton.constituencies * length canton.groups → DoFollowAt canton text k

-- the first list whose seats do not follow, if there is one
abbrev pub FindsOffList : Canton → List ℕ → Option OffList → Type 0
FindsOffList canton text found = MatchOption found (EachFollows canton text) (IsOffList canton text)
