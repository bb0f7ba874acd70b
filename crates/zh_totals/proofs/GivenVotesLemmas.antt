-- Sums of given votes.
use Rattle.std.proofs.Common.{◌≡◌, ℕ, ◌+◌, ◌-◌, ◌*◌, ◌^◌, ◌≤◌, List, [], ◌∷◌, ◌++◌, length, get_or, inl, inr, sym, ap, ◌∙◌, arith, length-append}
use Rattle.std.proofs.lemmas.Bool.{cases_lt}
use Rattle.std.proofs.lemmas.List.{get_or_append_left}
use Rattle.std.proofs.Math.Seq.{get_or-append_seam}
use Rattle.zh_districts.specs.Canton.{IsCanton}
use Rattle.zh_divisors.proofs.CallerLemmas.{sum_to-suc, sum_to-ext}
use Rattle.zh_divisors.specs.Sums.{sum_to}
use Rattle.zh_totals.specs.GivenVotes.{AreRowSums, votes_from, votes_of_rows}
use Rattle.zh_totals.specs.Inside.{AreConstituencies}
use Rattle.zh_totals.specs.Totals.{AreTotals, VoteTotals, all_votes, constituency_votes, votes_in}

-- the votes of a constituency are those of its row
row_votes : (totals : VoteTotals) (d : ℕ) → constituency_votes totals (d + 1) ≡ votes_from totals.votes (d * length totals.canton.groups) (length totals.canton.groups)
row_votes totals d =
    sum_to-ext (length totals.canton.groups) (λ i. votes_in totals (d + 1) (i + 1)) (λ j. get_or totals.votes (d * length totals.canton.groups + j) 0) (λ i lt.
    let row : d + 1 - 1 ≡ d = omega arith in
    let column : i + 1 - 1 ≡ i = omega arith in
    ap (λ r. get_or totals.votes (r * length totals.canton.groups + (i + 1 - 1)) 0) row
    ∙ ap (λ c. get_or totals.votes (d * length totals.canton.groups + c) 0) column)

pub all_rows : (totals : VoteTotals) → all_votes totals ≡ votes_of_rows totals.votes (length totals.canton.groups) (length totals.canton.constituencies)
all_rows totals =
    sum_to-ext (length totals.canton.constituencies) (λ i. constituency_votes totals (i + 1)) (λ d. votes_from totals.votes (d * length totals.canton.groups) (length totals.canton.groups)) (λ d lt.
    row_votes totals d)

-- the sums of the rows are those of the constituencies
pub row_sums_are : (totals : VoteTotals) (sums : List ℕ) → AreRowSums totals.votes (length totals.canton.groups) (length totals.canton.constituencies) sums →
    AreConstituencies totals sums
row_sums_are totals sums are = record { one_each = are.one_each; votes = λ d lt. are.each d lt ∙ sym (row_votes totals d) }

-- the totals are within their limits
pub given_totals : (totals : VoteTotals) (sums : List ℕ) → IsCanton totals.canton →
    length totals.votes ≡ length totals.canton.constituencies * length totals.canton.groups →
    AreRowSums totals.votes (length totals.canton.groups) (length totals.canton.constituencies) sums → AreTotals totals
given_totals totals sums canton one_each are = record { canton = canton; one_each = one_each; most = omega (arith, all_rows totals, are.most) }

-- one more row
pub row_added : (votes : List ℕ) (columns n : ℕ) (before after : List ℕ) (sum : ℕ) → AreRowSums votes columns n before →
    sum ≡ votes_from votes (n * columns) columns → votes_of_rows votes columns n + sum ≤ 10 ^ 14 → after ≡ before ++ sum ∷ [] →
    AreRowSums votes columns (n + 1) after
row_added votes columns n before after sum are is most put =
    let more : votes_of_rows votes columns (n + 1) ≡ votes_of_rows votes columns n + votes_from votes (n * columns) columns
    = sum_to-suc n (λ d. votes_from votes (d * columns) columns) in
    rw put (record {
      one_each = omega (arith, length-append before (sum ∷ []), are.one_each);
      each = λ d lt. elim (cases_lt d n) [
        | inl old ↦ get_or_append_left before (sum ∷ []) 0 d (omega (arith, are.one_each)) ∙ are.each d old
        | inr new ↦
            let last : d ≡ length before = omega (arith, are.one_each) in
            let row : d ≡ n = omega arith in
            ap (λ k. get_or (before ++ sum ∷ []) k 0) last ∙ (get_or-append_seam before sum [] 0 ∙ (is ∙ ap (λ r. votes_from votes (r * columns) columns) (sym row)))
      ];
      most = omega (arith, most, more, is);
    })
