-- How large a voter sum can be.
use Rattle.std.proofs.Common.{◌≡◌, ℕ, ◌+◌, ◌-◌, ◌^◌, ◌<◌, ◌≤◌, ◌∙◌, ◌++◌, ◌∷◌, All, List, [], length, length-append, get_or, refl, ap, sym, inl, inr, arith}
use Rattle.std.proofs.Math.Seq.{get_or-append_seam}
use Rattle.std.proofs.lemmas.Bool.{cases_eq}
use Rattle.std.proofs.lemmas.List.{get_or_append_left}
use Rattle.std.proofs.lemmas.List.Elements.{All-nil, All-push}
use Rattle.zh_divisors.proofs.CallerLemmas.{sum_to-fewer, sum_to-le}
use Rattle.zh_divisors.specs.Sums.{sum_to}
use Rattle.zh_totals.specs.Totals.{VoteTotals, AreTotals, votes_in, constituency_votes}
use Rattle.zh_totals.proofs.CallerLemmas.{group_within}
use Rattle.zh_upper.specs.VoterNumbers.{AreVoterSums, voter_number, voter_sum}
use Rattle.zh_upper.proofs.CallerLemmas.{voter_number-le}

-- the voter number of the list of group g in the constituency at place i
abbrev pub number_at : VoteTotals → List ℕ → ℕ → ℕ → ℕ
number_at totals seats g i = voter_number (votes_in totals (i + 1) g) (get_or seats i 0)

-- the voter numbers of a group in the first n constituencies add up to at most 10^14
pub voter_sum-small : (totals : VoteTotals) (seats : List ℕ) (g n : ℕ) → AreTotals totals → length seats ≡ length totals.canton.constituencies →
    All (λ r. 1 ≤ r) seats → 1 ≤ g → g ≤ length totals.canton.groups → n ≤ length totals.canton.constituencies →
    sum_to n (number_at totals seats g) ≤ 10 ^ 14
voter_sum-small totals seats g n limits one_each seated from_one there within =
    let as_many : (i : ℕ) → i < n → number_at totals seats g i ≤ constituency_votes totals (i + 1)
    = λ i lt. omega (arith, voter_number-le (votes_in totals (i + 1) g) (get_or seats i 0) (seated i 0 (omega arith)), group_within totals (i + 1) g from_one there) in
    omega (
      arith,
      limits.most,
      sum_to-le n (number_at totals seats g) (λ i. constituency_votes totals (i + 1)) as_many,
      sum_to-fewer n (length totals.canton.constituencies) (λ i. constituency_votes totals (i + 1)) within,
    )

-- the voter sums of the first n groups
pub record AreVoterSumsTo (totals : VoteTotals) (seats sums : List ℕ) (n : ℕ) : Type 0 where
  pub one_each : length sums ≡ n
  pub each : (g : ℕ) → 1 ≤ g → g ≤ n → get_or sums (g - 1) 0 ≡ voter_sum totals seats g
  pub small : All (λ v. v ≤ 10 ^ 14) sums

pub no_sums : (totals : VoteTotals) (seats sums : List ℕ) → sums ≡ [] → AreVoterSumsTo totals seats sums 0
no_sums totals seats sums none = rw none (record { one_each = refl; each = λ g low high. absurd (omega (arith, low, high)); small = All-nil (λ v. v ≤ 10 ^ 14) })

-- the voter sums with one more group
pub one_sum_more : (totals : VoteTotals) (seats before after : List ℕ) (n sum : ℕ) → AreVoterSumsTo totals seats before n → after ≡ before ++ sum ∷ [] →
    sum ≡ voter_sum totals seats (n + 1) → sum ≤ 10 ^ 14 → AreVoterSumsTo totals seats after (n + 1)
one_sum_more totals seats before after n sum are put is small =
    rw put (record {
      one_each = omega (arith, are.one_each, length-append before (sum ∷ []));
      each = λ g low high. elim (cases_eq g (n + 1)) [
        | inl last ↦
            let place : g - 1 ≡ length before = omega (arith, last, are.one_each) in
            ap (λ (k : ℕ). get_or (before ++ sum ∷ []) k 0) place ∙ (get_or-append_seam before sum [] 0 ∙ (is ∙ ap (voter_sum totals seats) (sym last)))
        | inr other ↦ get_or_append_left before (sum ∷ []) 0 (g - 1) (omega (arith, low, high, other, are.one_each)) ∙ are.each g low (omega (arith, high, other))
      ];
      small = All-push (λ v. v ≤ 10 ^ 14) before sum are.small small;
    })

-- the voter sums of the first n groups, if these are all
pub all_sums : (totals : VoteTotals) (seats sums : List ℕ) (n : ℕ) → AreVoterSumsTo totals seats sums n → n ≡ length totals.canton.groups → AreVoterSums totals seats sums
all_sums totals seats sums n are last = record { one_each = are.one_each ∙ last; each = λ g low high. are.each g low (omega (arith, high, last)) }
