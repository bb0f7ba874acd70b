-- The problems that keep a set-up from ever giving seats.
use Rattle.std.specs.Prelude.{◌≡◌, ◌≢◌, ℕ, ◌+◌, ◌≤◌, false, List, [], ◌∷◌, ◌++◌, length}
use Rattle.std.specs.Prelude.{codes, decimal}
use Rattle.std.specs.List.{count_by}
use Rattle.zh_districts.specs.Canton.{Canton, constituency_of, stands}
use Rattle.zh_districts.specs.Claims.{IsTiedIn, IsUnseated, Tell}
use Rattle.zh_tables.specs.declared.problems.SetupProblems.{SetupProblems}

-- constituency d has no municipality
abbrev pub LacksMunicipality : Canton → ℕ → Type 0
LacksMunicipality canton d = (m : ℕ) → 1 ≤ m → m ≤ length canton.municipalities → constituency_of canton m ≢ d

-- no list stands in constituency d
abbrev pub LacksList : Canton → ℕ → Type 0
LacksList canton d = (g : ℕ) → 1 ≤ g → g ≤ length canton.groups → stands canton d g ≡ false

-- for each constituency, in order, whether it has each problem
pub record AreProblems (canton : Canton) (problems : SetupProblems) : Type 0 where
  pub no_municipality : Tell (LacksMunicipality canton) (length canton.constituencies) problems.no_municipality.items
  pub no_list : Tell (LacksList canton) (length canton.constituencies) problems.no_list.items
  pub no_seat : Tell (IsUnseated canton) (length canton.constituencies) problems.no_seat.items
  pub tied_seats : Tell (IsTiedIn canton) (length canton.constituencies) problems.tied_seats.items

-- the marks are those of at most 32 constituencies
pub record HasFewMarks (problems : SetupProblems) : Type 0 where
  pub no_municipality : length problems.no_municipality.items ≤ 32
  pub no_list : length problems.no_list.items ≤ 32
  pub no_seat : length problems.no_seat.items ≤ 32
  pub tied_seats : length problems.tied_seats.items ≤ 32

-- the number of problems, over all constituencies
abbrev pub problem_count : SetupProblems → ℕ
problem_count problems =
    count_by (λ mark. mark) problems.no_municipality.items + count_by (λ mark. mark) problems.no_list.items
    + count_by (λ mark. mark) problems.no_seat.items + count_by (λ mark. mark) problems.tied_seats.items

-- the line with the number of problems; 10 is LF
abbrev pub problems_line : ℕ → List ℕ
problems_line n = codes "zhcount: problems of the set-up: " ++ (decimal n ++ (codes ", named by list --of problems" ++ 10 ∷ []))
