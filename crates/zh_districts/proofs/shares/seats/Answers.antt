use Rattle.std.proofs.Common.{◌≡◌, ℕ, List, Err, refl, subst, rules}
use Rattle.zh_divisors.specs.Fit.{IsTied}
use Rattle.zh_divisors.specs.Shares.{Apportions}
use Rattle.zh_divisors.specs.declared.shares.ShareFault.{ShareFault}
use Rattle.zh_divisors.specs.declared.shares.ShareFault.TheVariants as causes
use Rattle.zh_districts.specs.Seats.{IsFirstWithout}
use Rattle.zh_districts.specs.declared.shares.SeatFault.{SeatFault}
use Rattle.zh_districts.specs.declared.shares.SeatFault.TheVariants as faults
use Rattle.zh_districts.proofs.shares.seats.Goals as goal

tied_from : (weights : List ℕ) (house : ℕ) (cause : ShareFault) (fault : SeatFault) → (cause ≡ causes.Memory → fault ≡ faults.Memory)
    → Apportions weights house (Err cause) → fault ≡ faults.Tied → IsTied weights house
tied_from weights house causes.Memory fault memory are is = absurd (search (rules, memory refl))
tied_from weights house causes.Tied fault memory are is = are.tied refl

no_seat_from : (cause : ShareFault) (fault : SeatFault) (d : ℕ) → (cause ≡ causes.Memory → fault ≡ faults.Memory) → (cause ≡ causes.Tied → fault ≡ faults.Tied)
    → fault ≡ faults.NoSeat d → ⊥
no_seat_from causes.Memory fault d memory tied is = search (rules, memory refl)
no_seat_from causes.Tied fault d memory tied is = search (rules, tied refl)

pub returns-in-Err-clause-tied : goal.returns-in-Err-clause-tied
returns-in-Err-clause-tied c = λ is.
    let fault : c.fault_of.result ≡ faults.Tied = search rules in
    tied_from _ _ c.in-Err.fault c.fault_of.result c.fault_of.ensures.memory c.in-Err.ensures.shares fault

pub returns-in-Err-clause-no_seat : goal.returns-in-Err-clause-no_seat
returns-in-Err-clause-no_seat c = λ d is.
    let fault : c.fault_of.result ≡ faults.NoSeat d = search rules in
    absurd (no_seat_from c.in-Err.fault c.fault_of.result d c.fault_of.ensures.memory c.fault_of.ensures.tied fault)

-- a fault says nothing about seats
pub returns-in-Some-clause-seats : goal.returns-in-Some-clause-seats
returns-in-Some-clause-seats c = tt

pub returns-in-Some-clause-each : goal.returns-in-Some-clause-each
returns-in-Some-clause-each c = tt

pub returns-in-Some-clause-divisor : goal.returns-in-Some-clause-divisor
returns-in-Some-clause-divisor c = tt

pub returns-in-Some-clause-rounds : goal.returns-in-Some-clause-rounds
returns-in-Some-clause-rounds c = tt

pub returns-in-Some-clause-tied : goal.returns-in-Some-clause-tied
returns-in-Some-clause-tied c = λ is. absurd (search rules)

pub returns-in-Some-clause-no_seat : goal.returns-in-Some-clause-no_seat
returns-in-Some-clause-no_seat c = λ d is.
    let first : IsFirstWithout c.in-Ok.shares.seats c.in-Some.constituency = rw c.seats.ensures at c.in-Some.ensures in
    let same : c.in-Some.constituency ≡ d = search rules in
    (c.in-Ok.shares.seats, c.in-Ok.ensures.shares.seats, subst (λ (n : ℕ). IsFirstWithout c.in-Ok.shares.seats n) same first)

pub returns-in-None-clause-seats : goal.returns-in-None-clause-seats
returns-in-None-clause-seats c = c.in-Ok.ensures.shares.seats

pub returns-in-None-clause-each : goal.returns-in-None-clause-each
returns-in-None-clause-each c = rw c.seats.ensures at c.in-None.ensures

pub returns-in-None-clause-divisor : goal.returns-in-None-clause-divisor
returns-in-None-clause-divisor c = c.in-Ok.ensures.shares.divisor

pub returns-in-None-clause-rounds : goal.returns-in-None-clause-rounds
returns-in-None-clause-rounds c = c.in-Ok.ensures.shares.rounds

pub returns-in-None-clause-tied : goal.returns-in-None-clause-tied
returns-in-None-clause-tied c = λ is. absurd (search rules)

pub returns-in-None-clause-no_seat : goal.returns-in-None-clause-no_seat
returns-in-None-clause-no_seat c = λ d is. absurd (search rules)
