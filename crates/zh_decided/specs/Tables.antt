-- Tables of logarithms.
use Rattle.std.specs.Prelude.{◌≡◌, ℕ, ◌+◌, ◌*◌, ◌^◌, ◌<◌, ◌≤◌, List, length, slice_index}
use Rattle.zh_decided.specs.Logarithms.{HasLogarithm, IsLog}
use Rattle.zh_matrices.specs.Question.{Question, cell}
use Rattle.zh_decided.specs.Prices.{Logs}

-- the logarithm of twice the votes of each cell, 0 for a cell without votes
pub record AreVoteLogs (votes logarithms : List ℕ) : Type 0 where
  pub one_each : length logarithms ≡ length votes
  pub logs : (k : ℕ) → k < length votes → 0 < slice_index votes k → IsLog 0 2 (2 * slice_index votes k) (slice_index logarithms k)
  pub small : (k : ℕ) → k < length votes → slice_index logarithms k ≤ 2 ^ 36
  pub logarithms_of : (k : ℕ) → k < length votes → 0 < slice_index votes k →
      HasLogarithm (2 * slice_index votes k) (slice_index logarithms k)
  pub none : (k : ℕ) → k < length votes → slice_index votes k ≡ 0 → slice_index logarithms k ≡ 0

-- the logarithms of the odd numbers from 1 on
pub record AreOddLogs (logarithms : List ℕ) : Type 0 where
  pub logs : (j : ℕ) → j < length logarithms → IsLog 0 2 (2 * j + 1) (slice_index logarithms j)
  pub small : (j : ℕ) → j < length logarithms → slice_index logarithms j ≤ 2 ^ 36
  pub logarithms_of : (j : ℕ) → j < length logarithms → HasLogarithm (2 * j + 1) (slice_index logarithms j)

-- the logarithms of twice the votes of each cell of a question, 0 for a cell without votes, and of the odd numbers from 1 to
-- 801
pub record AreLogTables (q : Question) (l : Logs) : Type 0 where
  pub one_each : length l.of_votes ≡ q.rows * q.columns
  pub votes : (d g : ℕ) → d < q.rows → g < q.columns → 0 < cell q.columns q.votes d g →
      IsLog 0 2 (2 * cell q.columns q.votes d g) (cell q.columns l.of_votes d g)
  pub odds : (j : ℕ) → j ≤ 400 → IsLog 0 2 (2 * j + 1) (slice_index l.of_odds j)
  pub of_votes : AreVoteLogs q.votes l.of_votes
  pub of_odds : AreOddLogs l.of_odds
  pub odd_numbers : length l.of_odds ≡ 401
