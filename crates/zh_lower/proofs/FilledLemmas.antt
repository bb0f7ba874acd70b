-- Lists of divisors that are filled place by place.
use Rattle.std.proofs.Common.{◌≡◌, ℕ, ◌+◌, ◌^◌, ◌<◌, ◌≤◌, List, map, replicate, length, get_or, set, inl, inr, refl, ap, ◌∙◌, arith}
use Rattle.std.proofs.lemmas.Bool.{cases_eq}
use Rattle.std.proofs.lemmas.List.{get_or-replicate, get_or-set_other, get_or-set_same, length-replicate, length-set}
use Rattle.std.specs.List.{range_with_len}
use Rattle.std.proofs.lemmas.List.FromFn.{fill_by_all, get_or-map-range_with_len, length-map-range_with_len}
use Rattle.std.proofs.lemmas.List.Elements.{All-from_get_or, All-set}
use Rattle.zh_matrices.specs.Divisors.{AreWithin, millionths}
use Rattle.zh_matrices.specs.Question.{Question}
use Rattle.zh_lower.specs.States.{middle_row, start, started_columns}
use Rattle.zh_lower.proofs.LineLemmas.{IsRenewedBy}

-- what is true of each place so far, and of one more
pub each_set : (P : ℕ → ℕ → Type 0) (xs : List ℕ) (i value : ℕ) → i < length xs → P i value → ((k : ℕ) → k < i → P k (get_or xs k 0)) →
    (k : ℕ) → k < i + 1 → P k (get_or (set xs i value) k 0)
each_set P xs i value within here done k lt = elim (cases_eq k i) [
  | inl is ↦ rw (is, get_or-set_same xs i value 0 within) here
  | inr other ↦ rw (get_or-set_other xs i k value 0 other) (done k (omega arith))
]

pub AreWithin-set : (n most i value : ℕ) (xs : List ℕ) → 1 ≤ value → value ≤ most → AreWithin n most xs →
    AreWithin n most (set xs i value)
AreWithin-set n most i value xs one small divisors = record {
  one_each = length-set xs i value ∙ divisors.one_each;
  from_1 = All-set (λ x. 1 ≤ x) xs i value one divisors.from_1;
  at_most = All-set (λ x. x ≤ most) xs i value small divisors.at_most;
}

pub AreWithin-filled : (n most : ℕ) (xs : List ℕ) → length xs ≡ n → ((d : ℕ) → d < n → 1 ≤ get_or xs d 0) →
    ((d : ℕ) → d < n → get_or xs d 0 ≤ most) → AreWithin n most xs
AreWithin-filled n most xs long one small = record {
  one_each = long;
  from_1 = All-from_get_or (λ x. 1 ≤ x) xs 0 (λ d lt. one d (omega arith));
  at_most = All-from_get_or (λ x. x ≤ most) xs 0 (λ d lt. small d (omega arith));
}

-- the first i of n divisors are renewed, and the others are unchanged
pub record AreRenewed (n most : ℕ) (f : ℕ → ℕ) (before xs : List ℕ) (i : ℕ) : Type 0 where
  pub done : (k : ℕ) → k < i → get_or xs k 0 ≡ f k
  pub rest : (k : ℕ) → i ≤ k → get_or xs k 0 ≡ get_or before k 0
  pub divisors : AreWithin n most xs

pub none_renewed : (n most : ℕ) (f : ℕ → ℕ) (xs : List ℕ) → AreWithin n most xs → AreRenewed n most f xs xs 0
none_renewed n most f xs divisors = record { done = λ k lt. absurd (omega (arith, lt)); rest = λ k le. refl; divisors = divisors }

pub one_renewed : (n most : ℕ) (f : ℕ → ℕ) (before xs : List ℕ) (i value : ℕ) → i < n → IsRenewedBy most value (f i) →
    AreRenewed n most f before xs i → AreRenewed n most f before (set xs i value) (i + 1)
one_renewed n most f before xs i value lt by renewed = record {
  done = each_set (λ k x. x ≡ f k) xs i value (omega (arith, renewed.divisors.one_each)) by.is renewed.done;
  rest = λ k le. get_or-set_other xs i k value 0 (omega arith) ∙ renewed.rest k (omega arith);
  divisors = AreWithin-set n most i value xs by.from_1 by.at_most renewed.divisors;
}

pub one_kept : (n most : ℕ) (f : ℕ → ℕ) (before xs : List ℕ) (i : ℕ) → get_or before i 0 ≡ f i →
    AreRenewed n most f before xs i → AreRenewed n most f before xs (i + 1)
one_kept n most f before xs i is renewed = record {
  done = λ k lt. elim (cases_eq k i) [
    | inl here ↦ rw here (renewed.rest i (omega arith) ∙ is)
    | inr other ↦ renewed.done k (omega arith)
  ];
  rest = λ k le. renewed.rest k (omega arith);
  divisors = renewed.divisors;
}

pub all_renewed : (n most : ℕ) (f : ℕ → ℕ) (before xs : List ℕ) (i : ℕ) → n ≤ i → AreRenewed n most f before xs i →
    xs ≡ map f (range_with_len 0 n)
all_renewed n most f before xs i all renewed =
    fill_by_all f xs n 0 renewed.divisors.one_each (λ k lt. renewed.done k (omega arith))

-- the columns of the start, all at 1, are within the limits
pub AreWithin-started : (q : Question) (xs : List ℕ) → xs ≡ started_columns q → AreWithin q.columns (10 ^ 12) xs
AreWithin-started q xs is =
    let long : length xs ≡ q.columns = ap length is ∙ length-map-range_with_len (λ g. 1000000) 0 q.columns in
    let at : (g : ℕ) → g < q.columns → get_or xs g 0 ≡ 1000000
    = λ g lt. ap (λ ys. get_or ys g 0) is ∙ get_or-map-range_with_len (λ g. 1000000) 0 q.columns g g 0 lt (omega arith) in
    AreWithin-filled q.columns (10 ^ 12) xs long (λ g lt. omega (arith, at g lt)) (λ g lt. omega (arith, at g lt))

-- the columns and rows of the start, as the code makes them
pub started-replicate : (q : Question) → replicate q.columns 1000000 ≡ started_columns q
started-replicate q =
    fill_by_all (λ g. 1000000) (replicate q.columns 1000000) q.columns 0 (length-replicate q.columns 1000000)
    (λ g lt. get_or-replicate q.columns g 1000000 0 lt)

pub start-is : (q : Question) (before of_rows of_columns : List ℕ) →
    of_rows ≡ map (middle_row q (millionths before of_columns)) (range_with_len 0 q.rows) →
    of_columns ≡ started_columns q → millionths of_rows of_columns ≡ start q
start-is q before of_rows of_columns rows columns =
    ap (λ xs. millionths xs of_columns) rows
    ∙ ap (λ xs. millionths (map (middle_row q (millionths before xs)) (range_with_len 0 q.rows)) xs) columns
