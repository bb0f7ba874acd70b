-- How many returns are in, with one municipality or one list more each time.
use Rattle.std.proofs.Common.{◌≡◌, ◌≤◌, ◌+◌, ℕ, Bool, true, false, List, [], ◌∷◌, ◌++◌, filter, Option, Some, None, IfSome, unwrap_or, count_by, sum_by, refl, sym, ap, ◌∙◌, arith, length-append}
use Rattle.std.specs.List.{range_with_len}
use Rattle.std.proofs.lemmas.List.{append-nil, map-id}
use Rattle.std.proofs.lemmas.List.Elements.{filter-append}
use Rattle.std.proofs.lemmas.List.FromFn.{map-range_with_len_more}
use Rattle.std.proofs.lemmas.List.Sums.{sum_by_push}
use Rattle.zh_returns.specs.Limits.{IsEntry, most_votes}
use Rattle.zh_returns.specs.Tally.{Tally}
use Rattle.zh_returns.specs.declared.entry.Entry.{Entry}
use Rattle.zh_tables.specs.Progress.{AreFew, both, one_if, progress_of, progress_over, entry_votes}
use Rattle.zh_tables.specs.declared.progress.Progress.{Progress}

pub range_more : (n : ℕ) → range_with_len 1 (n + 1) ≡ range_with_len 1 n ++ (n + 1) ∷ []
range_more n =
    let next : 1 + n ≡ n + 1 = omega arith in
    sym (map-id (range_with_len 1 (n + 1))) ∙ map-range_with_len_more (λ k. k) 1 n (n + 1) next ∙ ap (λ (l : List ℕ). l ++ (n + 1) ∷ []) (map-id (range_with_len 1 n))

pub sum_next : (f : ℕ → ℕ) (n : ℕ) → sum_by f (range_with_len 1 (n + 1)) ≡ sum_by f (range_with_len 1 n) + f (n + 1)
sum_next f n = ap (sum_by f) (range_more n) ∙ sum_by_push f (range_with_len 1 n) (n + 1)

pub count_next : (p : ℕ → Bool) (n : ℕ) → count_by p (range_with_len 1 (n + 1)) ≡ count_by p (range_with_len 1 n) + one_if (p (n + 1))
count_next p n = sum_next (λ k. one_if (p k)) n

filter_next : (p : ℕ → Bool) (n : ℕ) → filter p (range_with_len 1 (n + 1)) ≡ filter p (range_with_len 1 n) ++ filter p ((n + 1) ∷ [])
filter_next p n = ap (filter p) (range_more n) ∙ filter-append p (range_with_len 1 n) ((n + 1) ∷ [])

-- these municipalities, and one more
over_push : (tally : Tally) (ms : List ℕ) (m : ℕ) → progress_over tally (ms ++ m ∷ []) ≡ both (progress_over tally ms) (progress_of tally m)
over_push tally ms m =
    let held = sum_by_push (λ k. (progress_of tally k).held) ms m in
    let due = sum_by_push (λ k. (progress_of tally k).due) ms m in
    let missing = sum_by_push (λ k. (progress_of tally k).missing) ms m in
    let votes = sum_by_push (λ k. (progress_of tally k).votes) ms m in
    let municipalities = length-append ms (m ∷ []) in
    let begun = sum_by_push (λ k. (progress_of tally k).begun) ms m in
    let closed = sum_by_push (λ k. (progress_of tally k).closed) ms m in
    λ i. record { held = held i; due = due i; missing = missing i; votes = votes i; municipalities = municipalities i; begun = begun i; closed = closed i }

-- the next municipality is in the region, or is not
pub over_next : (tally : Tally) (p : ℕ → Bool) (n : ℕ) (old : Progress) → old ≡ progress_over tally (filter p (range_with_len 1 n)) → p (n + 1) ≡ true
    → both old (progress_of tally (n + 1)) ≡ progress_over tally (filter p (range_with_len 1 (n + 1)))
over_next tally p n old is one =
    let kept : filter p ((n + 1) ∷ []) ≡ (n + 1) ∷ [] = rw one refl in
    let ms : filter p (range_with_len 1 (n + 1)) ≡ filter p (range_with_len 1 n) ++ (n + 1) ∷ [] = filter_next p n ∙ ap (λ (l : List ℕ). filter p (range_with_len 1 n) ++ l) kept in
    ap (λ (q : Progress). both q (progress_of tally (n + 1))) is ∙ sym (ap (progress_over tally) ms ∙ over_push tally (filter p (range_with_len 1 n)) (n + 1))

pub over_other : (tally : Tally) (p : ℕ → Bool) (n : ℕ) (old : Progress) → old ≡ progress_over tally (filter p (range_with_len 1 n)) → p (n + 1) ≡ false
    → old ≡ progress_over tally (filter p (range_with_len 1 (n + 1)))
over_other tally p n old is other =
    let none : filter p ((n + 1) ∷ []) ≡ [] = rw other refl in
    let ms : filter p (range_with_len 1 (n + 1)) ≡ filter p (range_with_len 1 n) = filter_next p n ∙ ap (λ (l : List ℕ). filter p (range_with_len 1 n) ++ l) none ∙ append-nil (filter p (range_with_len 1 n)) in
    is ∙ sym (ap (progress_over tally) ms)

pub few_both : (n : ℕ) (a b : Progress) → AreFew n a → AreFew 1 b → AreFew (n + 1) (both a b)
few_both n a b few one = record {
  held = omega (arith, few.held, one.held);
  due = omega (arith, few.due, one.due);
  missing = omega (arith, few.missing, one.missing);
  votes = omega (arith, few.votes, one.votes);
  municipalities = omega (arith, few.municipalities, one.municipalities);
  begun = omega (arith, few.begun, one.begun);
  closed = omega (arith, few.closed, one.closed);
}

pub few_more : (n k : ℕ) (a : Progress) → AreFew n a → n ≤ k → AreFew k a
few_more n k a few more = record {
  held = omega (arith, few.held);
  due = omega (arith, few.due);
  missing = omega (arith, few.missing);
  votes = omega (arith, few.votes);
  municipalities = omega (arith, few.municipalities);
  begun = omega (arith, few.begun);
  closed = omega (arith, few.closed);
}

-- the count so far, and what the next number adds to it
pub count_step : (p : ℕ → Bool) (n a b : ℕ) → a ≡ count_by p (range_with_len 1 n) → b ≡ one_if (p (n + 1)) → a + b ≡ count_by p (range_with_len 1 (n + 1))
count_step p n a b is adds = (λ i. is i + adds i) ∙ sym (count_next p n)

pub sum_step : (f : ℕ → ℕ) (n a b : ℕ) → a ≡ sum_by f (range_with_len 1 n) → b ≡ f (n + 1) → a + b ≡ sum_by f (range_with_len 1 (n + 1))
sum_step f n a b is adds = (λ i. is i + adds i) ∙ sym (sum_next f n)

pub one_few : (b : Bool) → one_if b ≤ 1
one_few true = omega arith
one_few false = omega arith

pub votes_few : (held : Option Entry) → IfSome held IsEntry → entry_votes held ≤ most_votes
votes_few None limits = omega arith
votes_few (Some entry) limits = at entry.votes limits.votes
  where
    at : (votes : Option ℕ) → IfSome votes (λ n. n ≤ most_votes) → unwrap_or votes 0 ≤ most_votes
    at None few = omega arith
    at (Some n) few = few
