-- The room that a decision needs, and its findings.
use Rattle.std.specs.Prelude.{◌≡◌, ℕ, ◌*◌, List, length}
use Rattle.zh_decided.specs.declared.decision.DecisionRoom.{DecisionRoom}
use Rattle.zh_decided.specs.declared.decision.Findings as declared

-- the sizes of the room for the findings
pub record IsFindingsRoom (rows columns : ℕ) (room : declared.Findings) : Type 0 where
  pub seats : length room.seats.items ≡ rows * columns
  pub of_rows : length room.of_rows.items ≡ rows
  pub of_columns : length room.of_columns.items ≡ columns
  pub others : length room.others.items ≡ rows * columns

-- the sizes of the whole room
pub record IsDecisionRoom (rows columns : ℕ) (room : DecisionRoom) : Type 0 where
  pub findings : IsFindingsRoom rows columns room.findings
  pub vote_logarithms : length room.vote_logarithms.items ≡ rows * columns
  pub odd_logarithms : length room.odd_logarithms.items ≡ 401

-- the seats, the divisors in millionths and the other seats that a decision found
pub record Findings : Type 0 where
  pub seats : List ℕ
  pub of_rows : List ℕ
  pub of_columns : List ℕ
  pub others : List ℕ

-- the findings that are left in a room
abbrev pub found : declared.Findings → Findings
found x = record { seats = x.seats.items; of_rows = x.of_rows.items; of_columns = x.of_columns.items; others = x.others.items }
