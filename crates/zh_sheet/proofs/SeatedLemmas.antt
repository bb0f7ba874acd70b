-- The groups with upper seats, by their numbers.
use Rattle.std.proofs.Common.{◌≡◌, ℕ, zero, suc, ◌+◌, ◌-◌, ◌*◌, ◌<◌, ◌≤◌, cond, All, List, [], ◌∷◌, ◌++◌, length, get_or, map, filter, take, inl, inr, ap, sym, ◌∙◌, arith, add-one, append-nil, append_assoc, length-append, mul_comm}
use Rattle.std.specs.Prelude.{nat_lt}
use Rattle.std.specs.List.{flat_map, range_with_len}
use Rattle.std.proofs.lemmas.Bool.{cases_lt, ltb-true, lt-ltb, le-ltb}
use Rattle.std.proofs.lemmas.List.{get_or-map, length-map, map-append, take_all, take_more}
use Rattle.std.proofs.lemmas.List.Concat.{flat_map-append}
use Rattle.std.proofs.lemmas.List.Elements.{All-filter, All-from_get_or, filter-append, filter_passes}
use Rattle.std.proofs.lemmas.List.FromFn.{get_or-range_with_len, length-range_with_len}
use Rattle.zh_text.proofs.CallerLemmas.{range_more}
use Rattle.zh_returns.proofs.CallerLemmas.{HasWidth, in_block, length-blocks}
use Rattle.zh_totals.specs.Totals.{VoteTotals, votes_in}
use Rattle.zh_sheet.specs.Distribution.{seated_groups}

-- the numbers from 1 to n, and one more
pub numbers_more : (n : ℕ) → range_with_len 1 (n + 1) ≡ range_with_len 1 n ++ (n + 1) ∷ []
numbers_more n =
    let last : 1 + n ≡ n + 1 = omega arith in
    ap (λ (k : ℕ). range_with_len 1 k) (add-one n) ∙ (range_more 1 n ∙ ap (λ (x : ℕ). range_with_len 1 n ++ x ∷ []) last)

-- the groups with seats among the first n
abbrev pub first_seated : List ℕ → ℕ → List ℕ
first_seated upper n = filter (λ g. nat_lt 0 (get_or upper (g - 1) 0)) (range_with_len 1 n)

seated_more : (upper : List ℕ) (n : ℕ) → first_seated upper (n + 1) ≡ first_seated upper n ++ cond (nat_lt 0 (get_or upper (n + 1 - 1) 0)) ((n + 1) ∷ []) []
seated_more upper n =
    ap (filter (λ g. nat_lt 0 (get_or upper (g - 1) 0))) (numbers_more n)
    ∙ filter-append (λ g. nat_lt 0 (get_or upper (g - 1) 0)) (range_with_len 1 n) ((n + 1) ∷ [])

pub seated_yes : (upper : List ℕ) (n : ℕ) → 0 < get_or upper (n + 1 - 1) 0 → first_seated upper (n + 1) ≡ first_seated upper n ++ (n + 1) ∷ []
seated_yes upper n some =
    seated_more upper n ∙ ap (λ b. first_seated upper n ++ cond b ((n + 1) ∷ []) []) (lt-ltb 0 (get_or upper (n + 1 - 1) 0) some)

pub seated_no : (upper : List ℕ) (n : ℕ) → get_or upper (n + 1 - 1) 0 ≤ 0 → first_seated upper (n + 1) ≡ first_seated upper n
seated_no upper n none =
    seated_more upper n ∙ (ap (λ b. first_seated upper n ++ cond b ((n + 1) ∷ []) []) (le-ltb 0 (get_or upper (n + 1 - 1) 0) none) ∙ append-nil (first_seated upper n))

-- the number of a group, and its seats
pub record IsSeated (upper : List ℕ) (g : ℕ) : Type 0 where
  pub from_one : 1 ≤ g
  pub there : g ≤ length upper
  pub seated : 1 ≤ get_or upper (g - 1) 0

numbers_within : (n : ℕ) → All (λ g. (1 ≤ g) × (g ≤ n)) (range_with_len 1 n)
numbers_within n =
    All-from_get_or (λ g. (1 ≤ g) × (g ≤ n)) (range_with_len 1 n) 0 (λ i lt.
    let at : get_or (range_with_len 1 n) i 0 ≡ 1 + i = get_or-range_with_len 1 n i 0 (omega (arith, lt, length-range_with_len 1 n)) in
    (omega (arith, at), omega (arith, at, lt, length-range_with_len 1 n))
    )

pub seated_are : (upper : List ℕ) → All (IsSeated upper) (seated_groups upper)
seated_are upper k d lt =
    let within = All-filter (λ g. nat_lt 0 (get_or upper (g - 1) 0)) (λ g. (1 ≤ g) × (g ≤ length upper)) (range_with_len 1 (length upper)) (numbers_within (length upper)) k d lt in
    let passes = filter_passes (λ g. nat_lt 0 (get_or upper (g - 1) 0)) (range_with_len 1 (length upper)) k d lt in
    record { from_one = within.0; there = within.1; seated = ltb-true 0 (get_or upper (get_or (seated_groups upper) k d - 1) 0) passes }

pub seated_within : (upper : List ℕ) (n : ℕ) → length upper ≡ n → All (λ g. (1 ≤ g) × (g ≤ n)) (seated_groups upper)
seated_within upper n long k d lt = let is = seated_are upper k d lt in (is.from_one, omega (arith, is.there, long))

-- if no group is seated, each has 0 seats
none_first : (upper : List ℕ) (n : ℕ) → length (first_seated upper n) ≡ 0 → (k : ℕ) → k < n → get_or upper k 0 ≡ 0
none_first upper zero none k lt = absurd (omega arith)
none_first upper (suc n) none k lt =
    elim (cases_lt 0 (get_or upper (n + 1 - 1) 0)) [
      | inl some ↦
          let e : first_seated upper (suc n) ≡ first_seated upper n ++ (n + 1) ∷ [] = ap (first_seated upper) (sym (add-one n)) ∙ seated_yes upper n some in
          absurd (omega (arith, none, ap length e, length-append (first_seated upper n) ((n + 1) ∷ [])))
      | inr zero_here ↦
          let e : first_seated upper (suc n) ≡ first_seated upper n = ap (first_seated upper) (sym (add-one n)) ∙ seated_no upper n zero_here in
          let place : n + 1 - 1 ≡ n = omega arith in
          let here : get_or upper n 0 ≤ 0 = rw place at zero_here in
          elim (cases_lt k n) [
            | inl before ↦ none_first upper n (omega (arith, none, ap length e)) k before
            | inr last ↦ let same : k ≡ n = omega arith in rw same (omega (arith, here))
          ]
    ]

pub none_seated : (upper : List ℕ) → length (seated_groups upper) ≡ 0 → (k : ℕ) → k < length upper → get_or upper k 0 ≡ 0
none_seated upper none k lt = none_first upper (length upper) none k lt

-- the votes of the seated groups, constituency by constituency
abbrev seated_votes : VoteTotals → List ℕ → List ℕ
seated_votes totals upper =
    flat_map (λ d. map (votes_in totals d) (seated_groups upper)) (range_with_len 1 (length totals.canton.constituencies))

row_wide : (totals : VoteTotals) (seated : List ℕ) → HasWidth (λ (d : ℕ). map (votes_in totals d) seated) (length seated)
row_wide totals seated = record { at = λ d. length-map seated (votes_in totals d) }

pub length-seated_votes : (totals : VoteTotals) (upper : List ℕ) → length (seated_votes totals upper) ≡ length totals.canton.constituencies * length (seated_groups upper)
length-seated_votes totals upper =
    length-blocks (λ (d : ℕ). map (votes_in totals d) (seated_groups upper)) (length (seated_groups upper)) (row_wide totals (seated_groups upper)) (range_with_len 1 (length totals.canton.constituencies))
    ∙ ap (λ (n : ℕ). length (seated_groups upper) * n) (length-range_with_len 1 (length totals.canton.constituencies))
    ∙ mul_comm (length (seated_groups upper)) (length totals.canton.constituencies)

-- the votes of a constituency and a column
pub at_seated_votes : (totals : VoteTotals) (upper : List ℕ) (d k : ℕ) → d < length totals.canton.constituencies → k < length (seated_groups upper) →
    get_or (seated_votes totals upper) (d * length (seated_groups upper) + k) 0 ≡ votes_in totals (d + 1) (get_or (seated_groups upper) k 0)
at_seated_votes totals upper d k row column =
    let columns = length (seated_groups upper) in
    let turned : d * length (seated_groups upper) + k ≡ length (seated_groups upper) * d + k = omega (arith, mul_comm d (length (seated_groups upper))) in
    let number : get_or (range_with_len 1 (length totals.canton.constituencies)) d 0 ≡ d + 1 = get_or-range_with_len 1 (length totals.canton.constituencies) d 0 row ∙ omega arith in
    ap (λ (p : ℕ). get_or (seated_votes totals upper) p 0) turned
    ∙ (in_block (λ (d : ℕ). map (votes_in totals d) (seated_groups upper)) (length (seated_groups upper)) (row_wide totals (seated_groups upper)) (range_with_len 1 (length totals.canton.constituencies)) d k 0 0
    (omega (arith, row, length-range_with_len 1 (length totals.canton.constituencies))) column
    ∙ (ap (λ (n : ℕ). get_or (map (votes_in totals n) (seated_groups upper)) k 0) number
    ∙ get_or-map (votes_in totals (d + 1)) (seated_groups upper) k 0 0 column))

-- the rows of one more constituency
pub rows_more : (totals : VoteTotals) (seated : List ℕ) (n : ℕ) →
    flat_map (λ d. map (votes_in totals d) seated) (range_with_len 1 (n + 1)) ≡ flat_map (λ d. map (votes_in totals d) seated) (range_with_len 1 n) ++ map (votes_in totals (n + 1)) seated
rows_more totals seated n =
    ap (flat_map (λ d. map (votes_in totals d) seated)) (numbers_more n)
    ∙ (flat_map-append (λ d. map (votes_in totals d) seated) (range_with_len 1 n) ((n + 1) ∷ [])
    ∙ ap (λ xs. flat_map (λ d. map (votes_in totals d) seated) (range_with_len 1 n) ++ xs) (append-nil (map (votes_in totals (n + 1)) seated)))

-- one more of these numbers is appended
pub put_more : (f : ℕ → ℕ) (old before after xs : List ℕ) (i n : ℕ) → i < length xs → before ≡ old ++ map f (take i xs) → n ≡ f (get_or xs i 0) →
    after ≡ before ++ n ∷ [] → after ≡ old ++ map f (take (i + 1) xs)
put_more f old before after xs i n lt were is put =
    let one_more : map f (take i xs) ++ n ∷ [] ≡ map f (take (i + 1) xs) =
    ap (λ (k : ℕ). map f (take i xs) ++ k ∷ []) is ∙ (sym (map-append f (take i xs) (get_or xs i 0 ∷ [])) ∙ ap (map f) (sym (take_more xs i 0 lt)))
    in
    put ∙ (ap (λ t. t ++ n ∷ []) were ∙ (append_assoc old (map f (take i xs)) (n ∷ []) ∙ ap (λ t. old ++ t) one_more))

-- all of these numbers are appended
pub put_all : (f : ℕ → ℕ) (old done xs : List ℕ) (i : ℕ) → length xs ≤ i → done ≡ old ++ map f (take i xs) → done ≡ old ++ map f xs
put_all f old done xs i last are = are ∙ ap (λ ys. old ++ map f ys) (take_all i xs last)
