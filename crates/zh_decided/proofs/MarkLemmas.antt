-- Tables of marks and steps that grow by one entry.
use Rattle.std.proofs.Common.{◌≡◌, ℕ, ◌+◌, ◌-◌, ◌<◌, ◌≤◌, MatchOption, Option, None, List, length, set, inl, inr, arith}
use Rattle.std.proofs.lemmas.Bool.{cases_eq}
use Rattle.std.proofs.lemmas.List.{get_or-set_other, get_or-set_same}
use Rattle.zh_decided.specs.Levels.{MakesColumn, mark_at}
use Rattle.zh_decided.specs.Prices.{Priced}
use Rattle.zh_decided.specs.Sweeps.{step_at}
use Rattle.zh_decided.specs.declared.sweep_bounds.Bounds.{Bounds}
use Rattle.zh_decided.specs.declared.cycles.Transfer.{Transfer}
use Rattle.zh_decided.specs.declared.prices.Mark.{Mark}

-- what lowered a column: a row, or nothing
abbrev pub IsColumnMaker : Priced → Bounds → List Mark → ℕ → ℕ → ℕ → Option ℕ → Type 0
IsColumnMaker m bounds rows before g potential maker =
    MatchOption maker (potential ≡ before) (λ d. (potential < before) × MakesColumn m bounds rows g potential d)

-- what holds for the first n marks and for the next one
pub marked : (P : ℕ → Mark → Type 0) (marks : List Mark) (n : ℕ) (mark : Mark) → n < length marks →
    ((d : ℕ) → d < n → P d (mark_at marks d)) → P n mark → (d : ℕ) → d < n + 1 → P d (mark_at (set marks n mark) d)
marked P marks n mark within before here d lt = elim (cases_eq d n) [
  | inl is ↦ rw is (rw (get_or-set_same marks n mark (record { potential = 0; maker = None }) within) here)
  | inr other ↦
      rw (get_or-set_other marks n d mark (record { potential = 0; maker = None }) other) (before d (omega arith))
]

-- steps copied from a place on
pub copied : (from steps : List Transfer) (first place : ℕ) → place - first < length steps → first ≤ place →
    ((k : ℕ) → first + k < place → step_at steps k ≡ step_at from (first + k)) →
    (k : ℕ) → first + k < place + 1 → step_at (set steps (place - first) (step_at from place)) k ≡ step_at from (first + k)
copied from steps first place within after before k lt = elim (cases_eq k (place - first)) [
  | inl is ↦
      let at : first + k ≡ place = omega arith in
      rw (at, is) (get_or-set_same steps (place - first) (step_at from place) (record { giver = 0; column = 0; taker = 0 }) within)
  | inr other ↦
      rw (get_or-set_other steps (place - first) k (step_at from place) (record { giver = 0; column = 0; taker = 0 }) other)
      (before k (omega arith))
]
