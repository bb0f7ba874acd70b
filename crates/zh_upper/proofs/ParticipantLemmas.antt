-- The groups that take part.
use Rattle.std.proofs.Common.{◌≡◌, ℕ, suc, ◌<◌, ◌≤◌, Bool, true, false, List, [], ◌∷◌, ◌++◌, All, Contains, length, cond, count_by, refl, ap, arith}
use Rattle.std.proofs.lemmas.List.Elements.{All-nil, All-cons, All-head, All-tail}
use Rattle.std.proofs.lemmas.List.Sums.{sum_by-cons}
use Rattle.zh_upper.specs.UpperSeats.{of_participants}

-- the numbers of the groups that take part, with one more group at the end
pub of_participants-append : (numbers : List ℕ) (taking : List Bool) (n : ℕ) (takes_part : Bool) →
    length numbers ≡ length taking →
    of_participants (numbers ++ n ∷ []) (taking ++ takes_part ∷ []) ≡ of_participants numbers taking ++ cond takes_part (n ∷ []) []
of_participants-append [] [] n true same = refl
of_participants-append [] [] n false same = refl
of_participants-append [] (t ∷ taking) n takes_part same = absurd (omega arith)
of_participants-append (m ∷ numbers) [] n takes_part same = absurd (omega arith)
of_participants-append (m ∷ numbers) (true ∷ taking) n takes_part same =
    ap (λ xs. m ∷ xs) (of_participants-append numbers taking n takes_part (omega arith))
of_participants-append (m ∷ numbers) (false ∷ taking) n takes_part same = of_participants-append numbers taking n takes_part (omega arith)

pub length-of_participants : (numbers : List ℕ) (taking : List Bool) → length taking ≡ length numbers →
    length (of_participants numbers taking) ≡ count_by (λ b. b) taking
length-of_participants [] [] same = refl
length-of_participants [] (t ∷ taking) same = absurd (omega arith)
length-of_participants (n ∷ numbers) [] same = absurd (omega arith)
length-of_participants (n ∷ numbers) (true ∷ taking) same =
    omega (arith, sum_by-cons (λ b. cond b 1 0) true taking, length-of_participants numbers taking (omega arith))
length-of_participants (n ∷ numbers) (false ∷ taking) same =
    omega (arith, sum_by-cons (λ b. cond b 1 0) false taking, length-of_participants numbers taking (omega arith))

pub length-of_participants-le : (numbers : List ℕ) (taking : List Bool) → length (of_participants numbers taking) ≤ length numbers
length-of_participants-le [] taking = omega arith
length-of_participants-le (n ∷ numbers) [] = omega arith
length-of_participants-le (n ∷ numbers) (true ∷ taking) = omega (arith, length-of_participants-le numbers taking)
length-of_participants-le (n ∷ numbers) (false ∷ taking) = omega (arith, length-of_participants-le numbers taking)

pub All-of_participants : (P : ℕ → Type 0) (numbers : List ℕ) (taking : List Bool) → All P numbers → All P (of_participants numbers taking)
All-of_participants P [] taking each = All-nil P
All-of_participants P (n ∷ numbers) [] each = All-nil P
All-of_participants P (n ∷ numbers) (true ∷ taking) each =
    All-cons P n (of_participants numbers taking) (All-head P n numbers each) (All-of_participants P numbers taking (All-tail P n numbers each))
All-of_participants P (n ∷ numbers) (false ∷ taking) each = All-of_participants P numbers taking (All-tail P n numbers each)

-- if the result has a number, some group takes part
pub Contains-from_participant : (numbers : List ℕ) (taking : List Bool) → 0 < length (of_participants numbers taking) → Contains taking true
Contains-from_participant [] taking some = absurd (omega arith)
Contains-from_participant (n ∷ numbers) [] some = absurd (omega arith)
Contains-from_participant (n ∷ numbers) (true ∷ taking) some = (0, omega arith, refl)
Contains-from_participant (n ∷ numbers) (false ∷ taking) some =
    let there = Contains-from_participant numbers taking some in (suc there.0, omega (arith, there.1), there.2)
