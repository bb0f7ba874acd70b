-- What is tried if no state of the search gives seats: each matrix of the decision.
use Rattle.std.specs.Prelude.{◌⊎◌}
use Rattle.zh_decided.specs.Decisions.{Decides}
use Rattle.zh_decided.specs.Rooms.{Findings}
use Rattle.zh_decided.specs.declared.decision.Decision.{Decision}
use Rattle.zh_decided.specs.declared.decision.Decision.TheVariants.{Beyond, Impossible, NearlyTied, Seats}
use Rattle.zh_matrices.specs.Question.{Question}
use Rattle.zh_decided.specs.Ways.{AreBalanced}
use Rattle.zh_lower.specs.Second.{HaveNoSecond}

-- no matrix of the decision has a middle; the seats of `Seats` always get divisors
abbrev pub AreTried : Question → Findings → Decision → Type 0
AreTried q findings (Impossible rows) = Unit {0}
AreTried q findings Seats = ⊥
AreTried q findings (NearlyTied d g x) = HaveNoSecond q findings.seats × HaveNoSecond q findings.others
AreTried q findings (Beyond x) = HaveNoSecond q findings.seats

-- some decision whose matrices were tried in vain
pub record IsDecidedInVain (q : Question) : Type 0 where
  pub findings : Findings
  pub decision : Decision
  pub decides : Decides q findings decision
  pub tried : AreTried q findings decision

-- the row totals and the column totals have different sums, so there is nothing to decide; or a decision was tried in vain
abbrev pub IsInVain : Question → Type 0
IsInVain q = (¬ AreBalanced q) ⊎ IsDecidedInVain q
