-- Which refusal is returned.
use Rattle.std.proofs.Common.{◌≡◌, ℕ, ◌<◌, Bool, true, Option, Some, List, [], ◌∷◌, get_or, Any, Contains, Ok, Err, inl, inr, refl, ap, sym, ◌∙◌, subst, arith}
use Rattle.std.specs.List.{find}
use Rattle.std.specs.Str.{bytes_eq}
use Rattle.std.proofs.lemmas.Bool.{cases_order}
use Rattle.zh_divisors.specs.Fit.{IsTied}
use Rattle.zh_divisors.specs.Shares.{Apportions}
use Rattle.zh_divisors.specs.declared.shares.ShareFault.{ShareFault}
use Rattle.zh_divisors.specs.declared.shares.ShareFault.TheVariants as share_faults
use Rattle.zh_upper.specs.Refusals.{HaveNoUpperSeats, IsRefusedExactly, IsUpperCase, NoUpperCaseBefore, of_share_fault, upper_place, upper_refusal_name}
use Rattle.zh_upper.specs.UpperSeats.{of_participants}
use Rattle.zh_upper.specs.declared.fault.UpperFault.TheVariants.{Memory, Refused}
use Rattle.zh_upper.specs.declared.fault.UpperRefusal.{UpperRefusal}
use Rattle.zh_upper.specs.declared.fault.UpperRefusal.TheVariants.{NoGroup, NoVoters, Tied}
use Rattle.zh_upper.proofs.ParticipantLemmas.{Contains-from_participant}

-- all refusals, in their order
abbrev pub upper_refusals : List UpperRefusal
upper_refusals = NoGroup ∷ NoVoters ∷ Tied ∷ []

-- each refusal has its own place
at_place : (refusal : UpperRefusal) → get_or upper_refusals (upper_place refusal) NoGroup ≡ refusal
at_place NoGroup = refl
at_place _ = refl

-- the refusal with this name
abbrev pub upper_named : List ℕ → Option UpperRefusal
upper_named bytes = find (λ refusal. bytes_eq (upper_refusal_name refusal) bytes) upper_refusals

pub upper_read_back : (refusal : UpperRefusal) → upper_named (upper_refusal_name refusal) ≡ Some refusal
upper_read_back NoGroup = refl
upper_read_back _ = refl

-- only one case is the first that holds
pub one_upper_refusal : (voters : List ℕ) (taking : List Bool) (house : ℕ) (one other : UpperRefusal) → HaveNoUpperSeats voters taking house one →
    HaveNoUpperSeats voters taking house other → one ≡ other
one_upper_refusal voters taking house one other a b = elim (cases_order (upper_place one) (upper_place other)) [
  | inl same ↦ sym (at_place one) ∙ (ap (λ (k : ℕ). get_or upper_refusals k NoGroup) same ∙ at_place other)
  | inr (inl less) ↦ absurd (b.first one less a.holds)
  | inr (inr more) ↦ absurd (a.first other more b.holds)
]

-- memory is refused
pub memory_refused : {Seats : Type 0} (reason : UpperRefusal → Type 0) → IsRefusedExactly {Seats = Seats} reason (Err Memory)
memory_refused reason = record { only = λ refusal is. absurd (cc); always = λ refusal because. inr refl }

-- the case of this refusal is the first that holds
pub first_refused : {Seats : Type 0} (voters : List ℕ) (taking : List Bool) (house : ℕ) (refusal : UpperRefusal) → IsUpperCase voters taking house refusal →
    NoUpperCaseBefore voters taking house refusal → IsRefusedExactly {Seats = Seats} (HaveNoUpperSeats voters taking house) (Err (Refused refusal))
first_refused voters taking house refusal holds none =
    let because : HaveNoUpperSeats voters taking house refusal = record { holds = holds; first = none } in
    record {
      only = λ other is. subst (HaveNoUpperSeats voters taking house) (cc) because;
      always = λ other why. inl (ap Err (ap Refused (one_upper_refusal voters taking house refusal other because why)));
    }

-- no case holds
pub none_refused : {Seats : Type 0} (voters : List ℕ) (taking : List Bool) (house : ℕ) (seats : Seats) →
    ((refusal : UpperRefusal) → ¬ IsUpperCase voters taking house refusal) → IsRefusedExactly (HaveNoUpperSeats voters taking house) (Ok seats)
none_refused voters taking house seats none =
    record { only = λ refusal is. absurd (cc); always = λ refusal because. absurd (none refusal because.holds) }

-- if a group takes part, no case before `NoVoters` holds
pub some_group : (voters : List ℕ) (taking : List Bool) (house : ℕ) → Contains taking true → NoUpperCaseBefore voters taking house NoVoters
some_group voters taking house there NoGroup before none = none there
some_group voters taking house there _ before holds = absurd (omega arith)

-- if a group that takes part has voters, no case before `Tied` holds
pub some_voters : (voters : List ℕ) (taking : List Bool) (house : ℕ) → Any (λ v. 0 < v) (of_participants voters taking) →
    NoUpperCaseBefore voters taking house Tied
some_voters voters taking house some NoVoters before zeros = omega (arith, zeros some.0 some.1 some.2, some.3, some.4)
some_voters voters taking house some refusal before holds =
    some_group voters taking house (Contains-from_participant voters taking (omega (arith, some.2))) refusal (omega arith) holds

-- if in addition the apportionment is not tied, no case holds
pub untied : (voters : List ℕ) (taking : List Bool) (house : ℕ) → Any (λ v. 0 < v) (of_participants voters taking) →
    ¬ IsTied (of_participants voters taking) house → (refusal : UpperRefusal) → ¬ IsUpperCase voters taking house refusal
untied voters taking house some not Tied holds = not holds
untied voters taking house some not refusal holds = some_voters voters taking house some refusal (omega arith) holds

-- a fault of the apportionment to the groups that take part
pub shares_refused : {Seats : Type 0} (voters : List ℕ) (taking : List Bool) (house : ℕ) → Any (λ v. 0 < v) (of_participants voters taking) → (fault : ShareFault) →
    Apportions (of_participants voters taking) house (Err fault) → IsRefusedExactly {Seats = Seats} (HaveNoUpperSeats voters taking house) (Err (of_share_fault fault))
shares_refused voters taking house some share_faults.Memory is = memory_refused (HaveNoUpperSeats voters taking house)
shares_refused voters taking house some share_faults.Tied is = first_refused voters taking house Tied (is.tied refl) (some_voters voters taking house some)
