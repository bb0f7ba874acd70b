-- Tables of logarithms, and the prices that they give.
use Rattle.std.proofs.Common.{◌≡◌, ℕ, ◌+◌, ◌-◌, ◌*◌, ◌^◌, ◌<◌, ◌≤◌, List, length, get_or, slice_index, arith}
use Rattle.std.proofs.lemmas.List.Elements.{All-from_get_or}
use Rattle.std.proofs.lemmas.Nat.{mul-add-lt}
use Rattle.zh_decided.specs.Logarithms.{IsLog}
use Rattle.zh_decided.proofs.RoundingLemmas.{HasFactor, factor}
use Rattle.zh_decided.proofs.LogLemmas.{apart_by_factor}
use Rattle.zh_matrices.specs.Question.{Question, cell}
use Rattle.zh_decided.specs.Prices.{AreLogs, Logs, seat_price}
use Rattle.zh_decided.specs.Tables.{AreOddLogs, AreLogTables, AreVoteLogs}

-- the logarithm of 131073 / 131072 is at least 8192 units
pub near-factor : HasFactor 131072 8192
near-factor = factor 131072 8192 (omega arith) (omega arith)

-- an odd number up to 801 and the next one differ by more than this factor
pub odds-apart : (j k l : ℕ) → j ≤ 400 → IsLog 0 2 (2 * j + 1) k → IsLog 0 2 (2 * (j + 1) + 1) l → k + 8190 < l
odds-apart j k l few L M =
    omega (arith, apart_by_factor 131072 8192 0 2 0 2 (2 * j + 1) (2 * (j + 1) + 1) k l near-factor L M (omega arith))

pub are-logs : (votes of_votes of_odds : List ℕ) → AreVoteLogs votes of_votes → AreOddLogs of_odds → length of_odds ≡ 401 →
    AreLogs (record { of_votes = of_votes; of_odds = of_odds })
are-logs votes of_votes of_odds V O long = record {
  enough = omega arith;
  small_votes = All-from_get_or (λ x. x ≤ 2 ^ 36) of_votes 0 (λ k lt. V.small k (omega (arith, V.one_each)));
  small_odds = All-from_get_or (λ x. x ≤ 2 ^ 36) of_odds 0 (λ k lt. O.small k lt);
  rising = λ j lt. omega (
    arith,
    odds-apart j (slice_index of_odds j) (slice_index of_odds (j + 1)) (omega arith) (O.logs j (omega arith))
        (O.logs (j + 1) lt),
  );
}

pub are-tables : (q : Question) (of_votes of_odds : List ℕ) → length q.votes ≡ q.rows * q.columns → AreVoteLogs q.votes of_votes →
    AreOddLogs of_odds → length of_odds ≡ 401 → AreLogTables q (record { of_votes = of_votes; of_odds = of_odds })
are-tables q of_votes of_odds sized V O long = record {
  one_each = omega (arith, V.one_each);
  votes = λ d g dm gn some. V.logs (d * q.columns + g) (omega (arith, mul-add-lt d q.columns g q.rows dm gn)) some;
  odds = λ j few. O.logs j (omega arith);
  of_votes = V;
  of_odds = O;
  odd_numbers = long;
}

-- the price of a seat, by the logarithms that it is made of
pub price-is : (q : Question) (l : Logs) → AreLogs l → AreLogTables q l → (d g j : ℕ) → d < q.rows → g < q.columns →
    seat_price l (d * q.columns + g) j + cell q.columns l.of_votes d g ≡ 2 ^ 60 + slice_index l.of_odds j
price-is q l A T d g j dm gn =
    let small : get_or l.of_votes (d * q.columns + g) 0 ≤ 2 ^ 36
    = A.small_votes (d * q.columns + g) 0 (omega (arith, T.one_each, mul-add-lt d q.columns g q.rows dm gn)) in
    omega arith

-- the next seat of a cell costs at least 8190 units more than its last one, which is more than the slacks
pub next-dearer : (q : Question) (l : Logs) → AreLogs l → AreLogTables q l → (d g s : ℕ) → d < q.rows → g < q.columns → 0 < s → s ≤ 400 →
    seat_price l (d * q.columns + g) (s - 1) + 8190 ≤ seat_price l (d * q.columns + g) s
next-dearer q l A T d g s dm gn some few =
    let one : s - 1 + 1 ≡ s = omega arith in
    let apart : slice_index l.of_odds (s - 1) + 8190 < slice_index l.of_odds s
    = odds-apart (s - 1) (slice_index l.of_odds (s - 1)) (slice_index l.of_odds s) (omega arith) (T.odds (s - 1) (omega arith))
    (rw one (T.odds s few)) in
    omega (arith, price-is q l A T d g s dm gn, price-is q l A T d g (s - 1) dm gn)
