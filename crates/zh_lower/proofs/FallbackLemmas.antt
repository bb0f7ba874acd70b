-- Seats that a decision gives.
use Rattle.std.proofs.Common.{ℕ, ◌≤◌, All, List, sym, ◌∙◌}
use Rattle.zh_decided.specs.Boxes.{NoneGiven}
use Rattle.zh_divisors.proofs.CallerLemmas.{sum_to-ext}
use Rattle.zh_matrices.specs.Divisors.{Divisors}
use Rattle.zh_matrices.specs.Question.{AreSeatTotals, Question, cell}
use Rattle.zh_matrices.specs.SeatMatrix.{IsStrict, IsWeak}
use Rattle.zh_matrices.proofs.CallerLemmas.{few-in-cells, total-swap}
use Rattle.zh_decided.specs.Decisions.{LeavesNone}
use Rattle.zh_decided.specs.Rooms.{Findings}
use Rattle.zh_decided.specs.Ways.{AreBalanced}
use Rattle.zh_decided.specs.declared.decision.Decision.{Decision}
use Rattle.zh_decided.specs.declared.decision.Decision.TheVariants.{Beyond, Impossible, NearlyTied, Seats}
use Rattle.zh_lower.specs.Tried.{AreTried}

-- seats that follow from divisors are at most 400 in each cell
pub few-strict : (q : Question) (x : Divisors) (seats : List ℕ) → AreSeatTotals q.rows q.row_totals → IsStrict q x seats →
    All (λ s. s ≤ 400) seats
few-strict q x seats totals strict = few-in-cells q seats totals strict.one_each strict.rows_add_up

-- if seats follow, the row totals and the column totals have the same sum
pub balanced : (q : Question) (x : Divisors) (seats : List ℕ) → IsWeak q x seats → AreBalanced q
balanced q x seats S =
    sym (sum_to-ext q.rows _ _ S.rows_add_up) ∙ total-swap q.rows q.columns (cell q.columns seats)
    ∙ sum_to-ext q.columns _ _ S.columns_add_up

-- a decision that was tried in vain gives no divisors
pub none_given : (q : Question) (findings : Findings) (decision : Decision) → LeavesNone q decision → AreTried q findings decision → NoneGiven q
none_given q findings (Impossible rows) leaves tried = leaves
none_given q findings Seats leaves tried = absurd tried
none_given q findings (NearlyTied d g x) leaves tried = leaves
none_given q findings (Beyond x) leaves tried = leaves
