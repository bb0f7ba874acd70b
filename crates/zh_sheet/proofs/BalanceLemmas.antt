-- The constituencies together are to get as many seats as the groups.
use Rattle.std.proofs.Common.{◌≡◌, ℕ, zero, suc, ◌+◌, ◌-◌, Bool, true, false, Some, List, [], ◌∷◌, ◌++◌, length, get_or, map, slice_get, inl, inr, refl, ap, sym, ◌∙◌, arith, add-one}
use Rattle.std.specs.List.{sum}
use Rattle.std.proofs.lemmas.Bool.{cases_lt}
use Rattle.std.proofs.lemmas.List.{length-map, map-append}
use Rattle.std.proofs.lemmas.List.Sums.{sum_by-append, sum_by-cons}
use Rattle.zh_divisors.specs.Sums.{sum_to}
use Rattle.zh_totals.specs.Totals.{VoteTotals}
use Rattle.zh_upper.specs.UpperSeats.{of_participants}
use Rattle.zh_decided.specs.Ways.{AreBalanced}
use Rattle.zh_sheet.specs.Distribution.{Targets, lower_question, seated_groups}
use Rattle.zh_sheet.proofs.AskedLemmas.{length-taking}
use Rattle.zh_sheet.proofs.SeatedLemmas.{first_seated, seated_no, seated_yes}

sum_to-front : (n : ℕ) (f : ℕ → ℕ) → sum_to (suc n) f ≡ f 0 + sum_to n (λ k. f (suc k))
sum_to-front zero f = omega arith
sum_to-front (suc n) f = omega (arith, sum_to-front n f)

-- the sum of a list, by its places
sum_to-list : (xs : List ℕ) → sum_to (length xs) (λ k. get_or xs k 0) ≡ sum xs
sum_to-list [] = refl
sum_to-list (x ∷ xs) =
    sum_to-front (length xs) (λ k. get_or (x ∷ xs) k 0) ∙ (ap (λ (s : ℕ). x + s) (sum_to-list xs) ∙ sym (sum_by-cons (λ s. s) x xs))

-- the sum does not change without those that do not take part, if these have 0
sum-participants : (xs : List ℕ) (taking : List Bool) → length xs ≡ length taking →
    ((k : ℕ) → slice_get taking k ≡ Some false → get_or xs k 0 ≡ 0) → sum (of_participants xs taking) ≡ sum xs
sum-participants [] [] long others = refl
sum-participants [] (t ∷ taking) long others = absurd (omega (arith, long))
sum-participants (x ∷ xs) [] long others = absurd (omega (arith, long))
sum-participants (x ∷ xs) (true ∷ taking) long others =
    sum_by-cons (λ s. s) x (of_participants xs taking)
    ∙ (ap (λ (s : ℕ). x + s) (sum-participants xs taking (omega (arith, long)) (λ k is. others (suc k) is)) ∙ sym (sum_by-cons (λ s. s) x xs))
sum-participants (x ∷ xs) (false ∷ taking) long others =
    omega (arith, others 0 refl, sum_by-cons (λ s. s) x xs, sum-participants xs taking (omega (arith, long)) (λ k is. others (suc k) is))

abbrev seats_at : List ℕ → ℕ → ℕ
seats_at upper g = get_or upper (g - 1) 0

-- the sum does not change without the groups that have no seats
sum-seated : (upper : List ℕ) (n : ℕ) → sum (map (seats_at upper) (first_seated upper n)) ≡ sum_to n (λ k. get_or upper k 0)
sum-seated upper zero = refl
sum-seated upper (suc n) =
    let place : n + 1 - 1 ≡ n = omega arith in
    let here : seats_at upper (n + 1) ≡ get_or upper n 0 = ap (λ (k : ℕ). get_or upper k 0) place in
    elim (cases_lt 0 (get_or upper (n + 1 - 1) 0)) [
      | inl some ↦
          let e : first_seated upper (suc n) ≡ first_seated upper n ++ (n + 1) ∷ [] = ap (first_seated upper) (sym (add-one n)) ∙ seated_yes upper n some in
          let parts : sum (map (seats_at upper) (first_seated upper (suc n))) ≡ sum (map (seats_at upper) (first_seated upper n) ++ seats_at upper (n + 1) ∷ [])
          = ap (λ gs. sum (map (seats_at upper) gs)) e ∙ ap sum (map-append (seats_at upper) (first_seated upper n) ((n + 1) ∷ [])) in
          omega (
            arith,
            parts,
            here,
            sum-seated upper n,
            sum_by-append (λ s. s) (map (seats_at upper) (first_seated upper n)) (seats_at upper (n + 1) ∷ []),
          )
      | inr none ↦
          let e : first_seated upper (suc n) ≡ first_seated upper n = ap (first_seated upper) (sym (add-one n)) ∙ seated_no upper n none in
          omega (arith, ap (λ gs. sum (map (seats_at upper) gs)) e, here, none, sum-seated upper n)
    ]

pub balanced : (t : VoteTotals) (a : Targets t) → length t.canton.constituencies ≡ length a.seats → AreBalanced (lower_question t a.seats a.upper)
balanced t a rows =
    let columns : List ℕ = map (seats_at a.upper) (seated_groups a.upper) in
    let of_rows : sum_to (length t.canton.constituencies) (λ d. get_or a.seats d 0) ≡ t.canton.house
    = ap (λ (n : ℕ). sum_to n (λ d. get_or a.seats d 0)) rows ∙ sum_to-list a.seats ∙ a.constituencies.in_proportion.add_up in
    let of_columns : sum_to (length (seated_groups a.upper)) (λ g. get_or columns g 0) ≡ sum columns
    = ap (λ (n : ℕ). sum_to n (λ g. get_or columns g 0)) (sym (length-map (seated_groups a.upper) (seats_at a.upper))) ∙ sum_to-list columns in
    let all : sum columns ≡ t.canton.house
    = sum-seated a.upper (length a.upper) ∙ sum_to-list a.upper
    ∙ sym (sum-participants a.upper a.taking (length-taking t a) a.groups.others) ∙ a.groups.in_proportion.add_up in
    of_rows ∙ sym (of_columns ∙ all)
