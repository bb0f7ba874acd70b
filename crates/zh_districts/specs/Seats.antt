-- The seats of the constituencies: GPR section 88.
use Rattle.std.specs.Prelude.{◌≡◌, ℕ, ◌-◌, ◌<◌, ◌≤◌, List, map, length, slice_index}
use Rattle.zh_divisors.specs.Fit.{IsStrictFit}
use Rattle.zh_districts.specs.Canton.{Canton}

-- the persons of each constituency, in order
abbrev pub persons : Canton → List ℕ
persons canton = map (λ x. x.persons) canton.constituencies

-- the seats of each constituency, in order: those of the house in proportion to the persons, with no tie
abbrev pub AreSeats : Canton → List ℕ → Type 0
AreSeats canton seats = IsStrictFit (persons canton) canton.house seats

-- d is the first constituency without a seat
pub record IsFirstWithout (seats : List ℕ) (d : ℕ) : Type 0 where
  pub from_one : 1 ≤ d
  pub there : d ≤ length seats
  pub none : slice_index seats (d - 1) ≡ 0
  pub before : (k : ℕ) → k < d - 1 → 1 ≤ slice_index seats k
