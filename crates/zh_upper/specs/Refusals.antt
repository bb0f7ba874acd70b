-- Why the groups get no seats: of these cases, in this order, the first that holds decides.
use Rattle.std.specs.Prelude.{◌≡◌, ℕ, ◌<◌, ◌⊎◌, Bool, true, Result, IsErrOf, List, All, Contains, codes}
use Rattle.zh_divisors.specs.Fit.{IsTied}
use Rattle.zh_divisors.specs.declared.shares.ShareFault.{ShareFault}
use Rattle.zh_divisors.specs.declared.shares.ShareFault.TheVariants as share_faults
use Rattle.zh_upper.specs.UpperSeats.{of_participants}
use Rattle.zh_upper.specs.declared.fault.UpperFault.{UpperFault}
use Rattle.zh_upper.specs.declared.fault.UpperFault.TheVariants.{Memory, Refused}
use Rattle.zh_upper.specs.declared.fault.UpperRefusal.{UpperRefusal}
use Rattle.zh_upper.specs.declared.fault.UpperRefusal.TheVariants.{NoGroup, NoVoters, Tied}

-- when each case holds, by the voter sums, the groups that take part, and the house: no group takes part; every group that
-- does has the voter sum 0; the apportionment to the groups that take part is tied
abbrev pub IsUpperCase : List ℕ → List Bool → ℕ → UpperRefusal → Type 0
IsUpperCase voters taking house NoGroup = ¬ Contains taking true
IsUpperCase voters taking house NoVoters = All (λ v. v ≡ 0) (of_participants voters taking)
IsUpperCase voters taking house Tied = IsTied (of_participants voters taking) house

-- the place of each case in the order, from 0
abbrev pub upper_place : UpperRefusal → ℕ
upper_place NoGroup = 0
upper_place NoVoters = 1
upper_place Tied = 2

-- the name of each refusal
abbrev pub upper_refusal_name : UpperRefusal → List ℕ
upper_refusal_name NoGroup = codes "nogroup"
upper_refusal_name NoVoters = codes "novoters"
upper_refusal_name Tied = codes "tied upper"

-- no case before that of this refusal holds
abbrev pub NoUpperCaseBefore : List ℕ → List Bool → ℕ → UpperRefusal → Type 0
NoUpperCaseBefore voters taking house refusal =
    (other : UpperRefusal) → upper_place other < upper_place refusal → ¬ IsUpperCase voters taking house other

-- the groups get no seats, and the case of this refusal is the first that holds
pub record HaveNoUpperSeats (voters : List ℕ) (taking : List Bool) (house : ℕ) (refusal : UpperRefusal) : Type 0 where
  pub holds : IsUpperCase voters taking house refusal
  pub first : NoUpperCaseBefore voters taking house refusal

-- each refusal is returned exactly if `reason` holds of it; `Memory` can be returned in place of any answer
pub record IsRefusedExactly {Seats : Type 0} (reason : UpperRefusal → Type 0) (result : Result Seats UpperFault) : Type 0 where
  pub only : (refusal : UpperRefusal) → IsErrOf result (Refused refusal) → reason refusal
  pub always : (refusal : UpperRefusal) → reason refusal → IsErrOf result (Refused refusal) ⊎ IsErrOf result Memory

-- what a fault of the apportionment to the groups that take part becomes
abbrev pub of_share_fault : ShareFault → UpperFault
of_share_fault share_faults.Memory = Memory
of_share_fault share_faults.Tied = Refused Tied
