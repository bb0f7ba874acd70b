-- The columns of groups with seats, in the order of the groups, and their divisors.
use Rattle.std.proofs.Common.{◌≡◌, ℕ, zero, suc, ◌+◌, ◌-◌, ◌*◌, ◌<◌, ◌≤◌, Bool, true, false, cond, Option, Some, None, refl, sym, ap, ◌∙◌, inl, inr, arith}
use Rattle.std.proofs.Common.{List, [], ◌∷◌, ◌++◌, length, get_or, map, filter, take, drop, length-append, take-append-drop, slice_index}
use Rattle.std.specs.Prelude.{nat_lt, position, ◌==◌}
use Rattle.std.specs.List.{range_with_len, position_or_len}
use Rattle.std.specs.List.Sorted.{IsStrictlyIncreasing}
use Rattle.std.specs.Option.{option_map_or}
use Rattle.std.proofs.lemmas.Bool.{cases_lt, eq-eqb, eqb-true, le-ltb, lt-ltb, ne_eqb}
use Rattle.std.proofs.lemmas.List.{drop_more, ext_get_or, get_or-map, length-map}
use Rattle.std.proofs.lemmas.List.Elements.{filter-append}
use Rattle.std.proofs.lemmas.List.FromFn.{get_or-map-range_with_len, get_or-range_with_len, length-map-range_with_len, length-range_with_len}
use Rattle.std.proofs.lemmas.List.Kept.{AllPairs-from_increasing, IsStrictlyIncreasing-filter}
use Rattle.std.proofs.lemmas.List.Quantifiers.{position-Some}
use Rattle.std.proofs.lemmas.List.Sums.{position_or_len_is}
use Rattle.std.proofs.Math.Seq.{get_or-append_seam}
use Rattle.zh_matrices.specs.Question.{cell}
use Rattle.zh_matrices.specs.SeatMatrix.{seats_of}
use Rattle.zh_sheet.specs.Distribution.{Distribution, IsDistribution, seated_groups}
use Rattle.zh_sheet.specs.Readings.{column_of, list_seats}
use Rattle.zh_sheet.proofs.CallerLemmas.{seated_are}
use Rattle.zh_check.specs.Reading.{column_divisors}

-- the divisor of a group on a sheet, 0 if it has none
abbrev pub divisor_or_0 : Distribution → ℕ → ℕ
divisor_or_0 x g = option_map_or (λ k. slice_index x.lower.divisors.of_columns k) (column_of x g) 0

abbrev pub group_divisors : Distribution → ℕ → List ℕ
group_divisors x n = map (divisor_or_0 x) (range_with_len 1 n)

-- the column of a group with seats is its place among these groups
column_at : (upper : List ℕ) (k : ℕ) → k < length (seated_groups upper) →
    position (λ s. s == get_or (seated_groups upper) k 0) (seated_groups upper) ≡ Some k
column_at upper k lt =
    let seated : List ℕ = seated_groups upper in
    let numbers : List ℕ = range_with_len 1 (length upper) in
    let long : length numbers ≡ length upper = length-range_with_len 1 (length upper) in
    let rising : IsStrictlyIncreasing seated
    = IsStrictlyIncreasing-filter (λ g. nat_lt 0 (get_or upper (g - 1) 0)) numbers (λ i less.
    omega (arith, get_or-range_with_len 1 (length upper) i 0 (omega arith), get_or-range_with_len 1 (length upper) (i + 1) 0 (omega arith))) in
    let at : position_or_len (λ s. s == get_or seated k 0) seated ≡ k
    = position_or_len_is (λ s. s == get_or seated k 0) seated k 0 (omega (arith, lt))
    (λ i less. ne_eqb (get_or seated i 0) (get_or seated k 0) (λ e. absurd (omega (arith, e, AllPairs-from_increasing seated rising i k 0 less lt))))
    (λ there. eq-eqb (get_or seated k 0) (get_or seated k 0) refl) in
    let within : nat_lt k (length seated) ≡ true = lt-ltb k (length seated) lt in
    rw (at, within) refl

-- an element that passes a test is among the elements that do
kept_at : (test : ℕ → Bool) (xs : List ℕ) (i : ℕ) → i < length xs → test (get_or xs i 0) ≡ true →
    (k : ℕ) × (k < length (filter test xs)) × (get_or (filter test xs) k 0 ≡ get_or xs i 0)
kept_at test xs i lt passes =
    let x : ℕ = get_or xs i 0 in
    let front : List ℕ = filter test (take i xs) in
    let rest : List ℕ = filter test (drop (i + 1) xs) in
    let parts : filter test xs ≡ front ++ x ∷ rest
    = ap (filter test) (sym (take-append-drop i xs))
    ∙ (filter-append test (take i xs) (drop i xs)
    ∙ (ap (λ ys. front ++ filter test ys) (drop_more xs i 0 lt) ∙ ap (λ b. front ++ cond b (x ∷ rest) rest) passes)) in
    (length front, omega (arith, ap length parts, length-append front (x ∷ rest)), ap (λ ys. get_or ys (length front) 0) parts ∙ get_or-append_seam front x rest 0)

-- filters by tests that agree on the numbers
filter_same : (p q : ℕ → Bool) (a n : ℕ) → ((g : ℕ) → a ≤ g → g < a + n → p g ≡ q g) → filter p (range_with_len a n) ≡ filter q (range_with_len a n)
filter_same p q a zero same = refl
filter_same p q a (suc n) same =
    ap (λ b. cond b (a ∷ filter p (range_with_len (a + 1) n)) (filter p (range_with_len (a + 1) n))) (same a (omega arith) (omega arith))
    ∙ ap (λ gs. cond (q a) (a ∷ gs) gs) (filter_same p q (a + 1) n (λ g low high. same g (omega arith) (omega arith)))

filter_of_map : (p : ℕ → Bool) (f : ℕ → ℕ) (xs : List ℕ) → filter p (map f xs) ≡ map f (filter (λ x. p (f x)) xs)
filter_of_map p f [] = refl
filter_of_map p f (x ∷ xs) =
    elim (p (f x)) as (λ b. cond b (f x ∷ filter p (map f xs)) (filter p (map f xs)) ≡ map f (cond b (x ∷ filter (λ y. p (f y)) xs) (filter (λ y. p (f y)) xs))) [
      | true ↦ ap (λ ys. f x ∷ ys) (filter_of_map p f xs)
      | false ↦ filter_of_map p f xs
    ]

module _ (x : Distribution) (is : IsDistribution x) where
  -- there are as many groups as upper seats
  pub group_count : length x.upper.seats ≡ length x.totals.canton.groups
  group_count = is.upper.one_each ∙ is.voters.one_each

  -- the seats of a list in a column
  pub seats_at : (d j : ℕ) → j < length (seated_groups x.upper.seats) →
      list_seats x (d + 1) (get_or (seated_groups x.upper.seats) j 0) ≡ get_or x.lower.seats (d * length (seated_groups x.upper.seats) + j) 0
  seats_at d j lt =
      let row : d + 1 - 1 ≡ d = omega arith in
      let column : j + 1 - 1 ≡ j = omega arith in
      ap (λ found. option_map_or (λ column. seats_of x.lower (d + 1) (column + 1)) found 0) (column_at x.upper.seats j lt)
      ∙ (ap (λ r. cell (length x.lower.divisors.of_columns) x.lower.seats r (j + 1 - 1)) row
      ∙ (ap (λ c. cell (length x.lower.divisors.of_columns) x.lower.seats d c) column ∙ ap (λ w. cell w x.lower.seats d j) is.limits.columns.one_each))

  -- the divisor of a column
  divisor_at : (k : ℕ) → k < length (seated_groups x.upper.seats) → divisor_or_0 x (get_or (seated_groups x.upper.seats) k 0) ≡ get_or x.lower.divisors.of_columns k 0
  divisor_at k lt = ap (λ found. option_map_or (λ k. get_or x.lower.divisors.of_columns k 0) found 0) (column_at x.upper.seats k lt)

  -- a group has a divisor if and only if it has seats
  some_divisor : (p : ℕ) → p < length x.upper.seats → 0 < get_or x.upper.seats p 0 → 0 < divisor_or_0 x (p + 1)
  some_divisor p lt some =
      let numbers : List ℕ = range_with_len 1 (length x.upper.seats) in
      let number : get_or numbers p 0 ≡ p + 1 = get_or-range_with_len 1 (length x.upper.seats) p 0 lt ∙ omega arith in
      let place : get_or numbers p 0 - 1 ≡ p = omega (arith, number) in
      let (k, there, at) = kept_at (λ g. nat_lt 0 (get_or x.upper.seats (g - 1) 0)) numbers p (omega (arith, lt, length-range_with_len 1 (length x.upper.seats)))
      (ap (λ q. nat_lt 0 (get_or x.upper.seats q 0)) place ∙ lt-ltb 0 (get_or x.upper.seats p 0) some) in
      omega (arith, ap (divisor_or_0 x) (at ∙ number), divisor_at k there, is.limits.columns.from_1 k 0 (omega (arith, there, is.limits.columns.one_each)))

  no_divisor : (p : ℕ) (found : Option ℕ) → found ≡ column_of x (p + 1) → get_or x.upper.seats p 0 ≤ 0 →
      option_map_or (λ k. get_or x.lower.divisors.of_columns k 0) found 0 ≡ 0
  no_divisor p None e none = refl
  no_divisor p (Some k) e none =
      let at = position-Some (λ s. s == p + 1) (seated_groups x.upper.seats) k 0 (sym e) in
      let group : get_or (seated_groups x.upper.seats) k 0 ≡ p + 1 = eqb-true (get_or (seated_groups x.upper.seats) k 0) (p + 1) at.1 in
      let place : get_or (seated_groups x.upper.seats) k 0 - 1 ≡ p = omega (arith, group) in
      absurd (omega (arith, none, (seated_are x.upper.seats k 0 at.0).seated, ap (λ q. get_or x.upper.seats q 0) place))

  same_test : (g : ℕ) → 1 ≤ g → g < 1 + length x.upper.seats → nat_lt 0 (divisor_or_0 x g) ≡ nat_lt 0 (get_or x.upper.seats (g - 1) 0)
  same_test g low high =
      let p : ℕ = g - 1 in
      let number : p + 1 ≡ g = omega (arith, low) in
      ap (λ h. nat_lt 0 (divisor_or_0 x h)) (sym number) ∙ elim (cases_lt 0 (get_or x.upper.seats p 0)) [
        | inl some ↦ lt-ltb 0 (divisor_or_0 x (p + 1)) (some_divisor p (omega arith) some) ∙ sym (lt-ltb 0 (get_or x.upper.seats p 0) some)
        | inr none ↦ le-ltb 0 (divisor_or_0 x (p + 1)) (omega (arith, no_divisor p (column_of x (p + 1)) refl none)) ∙ sym (le-ltb 0 (get_or x.upper.seats p 0) none)
      ]

  pub same_seated : seated_groups (group_divisors x (length x.upper.seats)) ≡ seated_groups x.upper.seats
  same_seated =
      let n : ℕ = length x.upper.seats in
      let divisors : List ℕ = group_divisors x n in
      ap (λ k. filter (λ g. nat_lt 0 (get_or divisors (g - 1) 0)) (range_with_len 1 k)) (length-map-range_with_len (divisor_or_0 x) 1 n)
      ∙ filter_same (λ g. nat_lt 0 (get_or divisors (g - 1) 0)) (λ g. nat_lt 0 (get_or x.upper.seats (g - 1) 0)) 1 n (λ g low high.
      ap (nat_lt 0) (get_or-map-range_with_len (divisor_or_0 x) 1 n (g - 1) g 0 (omega arith) (omega arith)) ∙ same_test g low high)

  pub columns_are : column_divisors (group_divisors x (length x.upper.seats)) ≡ x.lower.divisors.of_columns
  columns_are =
      let n : ℕ = length x.upper.seats in
      filter_of_map (λ v. nat_lt 0 v) (divisor_or_0 x) (range_with_len 1 n)
      ∙ (ap (map (divisor_or_0 x)) (filter_same (λ g. nat_lt 0 (divisor_or_0 x g)) (λ g. nat_lt 0 (get_or x.upper.seats (g - 1) 0)) 1 n same_test)
      ∙ ext_get_or 0 (map (divisor_or_0 x) (seated_groups x.upper.seats)) x.lower.divisors.of_columns
      (length-map (seated_groups x.upper.seats) (divisor_or_0 x) ∙ sym is.limits.columns.one_each) (λ k lt.
      let there : k < length (seated_groups x.upper.seats) = omega (arith, lt, length-map (seated_groups x.upper.seats) (divisor_or_0 x)) in
      get_or-map (divisor_or_0 x) (seated_groups x.upper.seats) k 0 0 there ∙ divisor_at k there))
