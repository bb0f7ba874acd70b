-- What is decided for a question, and what that says.
use Rattle.std.specs.Prelude.{ℕ, List, Option, Some, None}
use Rattle.zh_decided.specs.Floats.{floating}
use Rattle.zh_decided.specs.declared.floating.FloatingDivisors.{FloatingDivisors}
use Rattle.zh_matrices.specs.Divisors.{Divisors}
use Rattle.zh_matrices.specs.Fitting.{FitsVotes}
use Rattle.zh_matrices.specs.NearlyTied.{AreNearlyTied}
use Rattle.zh_matrices.specs.Question.{Question}
use Rattle.zh_matrices.specs.SeatMatrix.{IsStrict}
use Rattle.zh_decided.specs.Impossible.{HasTooFewSeats}
use Rattle.zh_decided.specs.Boxes.{GiveWithin, NoneGiven, NoneInRange}
use Rattle.zh_decided.specs.declared.decision.Decision.{Decision}
use Rattle.zh_decided.specs.declared.decision.Decision.TheVariants.{Beyond, Impossible, NearlyTied, Seats}
use Rattle.zh_decided.specs.Rooms.{Findings}

-- the seats follow strictly from the divisors x, but no divisors in millionths in the ranges give these seats or any others
pub record AreBeyond (q : Question) (x : Divisors) (seats : List ℕ) : Type 0 where
  pub strict : IsStrict q x seats
  pub none : (others : List ℕ) → NoneInRange q others

-- None: these divisors in millionths give the seats; Some x: the seats follow from x and are beyond divisors in millionths
abbrev pub GivesOrBeyond : Question → List ℕ → List ℕ → List ℕ → Option FloatingDivisors → Type 0
GivesOrBeyond q of_rows of_columns seats None = GiveWithin q of_rows of_columns seats
GivesOrBeyond q of_rows of_columns seats (Some x) = AreBeyond q (floating x) seats

-- two matrices on the votes that are nearly tied
pub record AreFoundTied (q : Question) (x : Divisors) (findings : Findings) (d g : ℕ) : Type 0 where
  pub one_fits : FitsVotes q findings.seats
  pub other_fits : FitsVotes q findings.others
  pub tied : AreNearlyTied q x findings.seats findings.others d g

-- what each decision says: the votes of these rows lie in columns with too few seats; divisors in millionths give the seats; two
-- matrices are nearly tied; no divisors in millionths in the ranges give seats
abbrev pub Decides : Question → Findings → Decision → Type 0
Decides q findings (Impossible rows) = HasTooFewSeats q rows
Decides q findings Seats = GiveWithin q findings.of_rows findings.of_columns findings.seats
Decides q findings (NearlyTied d g x) = AreFoundTied q (floating x) findings d g
Decides q findings (Beyond x) = AreBeyond q (floating x) findings.seats

-- unless the decision is `Seats`, no divisors in millionths are given, whatever the seats
abbrev pub LeavesNone : Question → Decision → Type 0
LeavesNone q (Impossible rows) = NoneGiven q
LeavesNone q Seats = Unit {0}
LeavesNone q (NearlyTied d g x) = NoneGiven q
LeavesNone q (Beyond x) = NoneGiven q

-- the decision is that there is no matrix
abbrev pub SaysImpossible : Decision → Type 0
SaysImpossible (Impossible rows) = Unit {0}
SaysImpossible _ = ⊥
