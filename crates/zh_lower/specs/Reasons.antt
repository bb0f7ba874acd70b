-- Why there are no seats, with everything that was found out about it.
use Rattle.std.specs.Prelude.{Result, Ok, Err, IfErr}
use Rattle.zh_matrices.specs.Question.{Question}
use Rattle.zh_matrices.specs.SeatMatrix.{SeatMatrix}
use Rattle.zh_decided.specs.Decisions.{Decides}
use Rattle.zh_decided.specs.Rooms.{found}
use Rattle.zh_decided.specs.Ways.{AreBalanced}
use Rattle.zh_lower.specs.Seating.{LowerOutcome}
use Rattle.zh_lower.specs.Ties.{IsLowerTie}
use Rattle.zh_lower.specs.Tried.{AreTried}
use Rattle.zh_lower.specs.declared.lower.LowerFault.{LowerFault}
use Rattle.zh_lower.specs.declared.lower.LowerFault.TheVariants as faults
use Rattle.zh_lower.specs.declared.lower.NoLower.{NoLower}
use Rattle.zh_lower.specs.declared.lower.NoLower.TheVariants.{Exhausted, Memory, NoVotes, Tied, Unbalanced}

-- the fault that names a reason, without what was found out
abbrev pub fault_of : NoLower → LowerFault
fault_of Memory = faults.Memory
fault_of (NoVotes d) = faults.NoVotes d
fault_of Unbalanced = faults.Exhausted
fault_of (Tied tie) = faults.Tied tie.row tie.column
fault_of (Exhausted decided) = faults.Exhausted

abbrev pub lower_or_fault : Result SeatMatrix NoLower → Result SeatMatrix LowerFault
lower_or_fault (Ok lower) = Ok lower
lower_or_fault (Err reason) = Err (fault_of reason)

-- what holds for a reason: different sums of totals, a tie that the search reaches, or a decision whose matrices were tried in
-- vain; nothing is said here of refused memory and of a row without votes
abbrev pub HasReason : Question → NoLower → Type 0
HasReason q Unbalanced = ¬ AreBalanced q
HasReason q (Tied tie) = IsLowerTie q tie
HasReason q (Exhausted decided) =
    Decides q (found decided.findings) decided.decision × AreTried q (found decided.findings) decided.decision
HasReason q reason = Unit {0}

-- an answer as `find` gives it, and a reason that holds if there are no seats
pub record HandsOver (q : Question) (result : Result SeatMatrix NoLower) : Type 0 where
  pub outcome : LowerOutcome q (lower_or_fault result)
  pub reason : IfErr result (HasReason q)
