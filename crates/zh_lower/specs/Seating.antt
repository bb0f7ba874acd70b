-- What a lower apportionment gives: seats with the divisors that are shown, or why there are none.
use Rattle.std.specs.Prelude.{◌≡◌, ℕ, ◌⊎◌, Result, IfOk, IfErr, IsErrOf}
use Rattle.zh_matrices.specs.Divisors.{AreWithinLimits, millionths}
use Rattle.zh_lower.specs.Outcomes.{ComesToTie, NoneBefore}
use Rattle.zh_matrices.specs.Question.{IsFirstWithoutVotes, Question}
use Rattle.zh_matrices.specs.SeatMatrix.{IsStrict, SeatMatrix}
use Rattle.zh_decided.specs.Boxes.{NoneGiven}
use Rattle.zh_lower.specs.Tried.{IsInVain}
use Rattle.zh_lower.specs.Shown.{IsShown}
use Rattle.zh_lower.specs.declared.lower.LowerFault.{LowerFault}
use Rattle.zh_lower.specs.declared.lower.LowerFault.TheVariants.{Exhausted, Memory, NoVotes, Tied}

-- seats that follow strictly from the divisors that are shown, which are in millionths and within the limits
pub record IsSeating (q : Question) (lower : SeatMatrix) : Type 0 where
  pub strict : IsStrict q lower.divisors lower.seats
  pub in_millionths : lower.divisors ≡ millionths lower.divisors.of_rows lower.divisors.of_columns
  pub limits : AreWithinLimits q lower.divisors.of_rows lower.divisors.of_columns
  pub shown : IsShown q lower.divisors

-- no state of the search gives seats or is tied, a decision gives no divisors in millionths, and its matrices were tried in vain, or
-- there is nothing to decide
pub record NoneFound (q : Question) : Type 0 where
  pub none_before : NoneBefore q 2001
  pub none_given : NoneGiven q
  pub in_vain : IsInVain q

-- what holds if a fault is returned; memory can be refused at any time
abbrev pub HasFault : Question → LowerFault → Type 0
HasFault q Memory = Unit {0}
HasFault q (NoVotes d) = IsFirstWithoutVotes q d
HasFault q (Tied d g) = ComesToTie q d g
HasFault q Exhausted = NoneFound q

-- the seats are right, or the fault holds; a row without votes, and a tie that the search reaches, are always reported unless
-- memory is refused
pub record LowerOutcome (q : Question) (result : Result SeatMatrix LowerFault) : Type 0 where
  pub seats : IfOk result (IsSeating q)
  pub fault : IfErr result (HasFault q)
  pub no_votes : (d : ℕ) → IsFirstWithoutVotes q d → IsErrOf result (NoVotes d) ⊎ IsErrOf result Memory
  pub tied : (d g : ℕ) → ComesToTie q d g → IsErrOf result (Tied d g) ⊎ IsErrOf result Memory
