-- What each outcome gives.
use Rattle.std.proofs.Common.{◌≡◌, ℕ, ◌-◌, ◌<◌, ◌≤◌, List, Result, Ok, Err, IfOk, slice_index, refl, ap, inl, inr, arith}
use Rattle.std.proofs.lemmas.Bool.{cases_lt}
use Rattle.std.specs.Prelude.{IsErrOf}
use Rattle.zh_matrices.specs.Divisors.{AreWithinLimits, Divisors, millionths}
use Rattle.zh_lower.specs.Outcomes.{ComesToTie, IsProper, NoneBefore}
use Rattle.zh_lower.specs.Reasons.{HandsOver, HasReason, fault_of}
use Rattle.zh_lower.specs.SearchRooms.{divisors_of}
use Rattle.zh_divisors.proofs.CallerLemmas.{positive_term, term-le-sum_to}
use Rattle.zh_matrices.specs.Question.{AreSeatTotals, IsFirstWithoutVotes, Question, cell, row_votes}
use Rattle.zh_matrices.specs.SeatMatrix.{IsStrict, IsWeak, SeatMatrix}
use Rattle.zh_lower.specs.Seating.{LowerOutcome, NoneFound}
use Rattle.zh_lower.specs.Shown.{IsShown}
use Rattle.zh_lower.specs.declared.lower.LowerFault.{LowerFault}
use Rattle.zh_lower.specs.States.{state}
use Rattle.zh_lower.specs.Ties.{IsLowerTie}
use Rattle.zh_lower.specs.declared.fallback.Decided.{Decided}
use Rattle.zh_lower.specs.declared.lower.LowerFault.TheVariants as faults
use Rattle.zh_lower.specs.declared.lower.NoLower.{NoLower}
use Rattle.zh_lower.specs.declared.lower.NoLower.TheVariants.{Exhausted, NoVotes, Tied, Unbalanced}
use Rattle.zh_lower.specs.declared.tie.Tie.{Tie}
use Rattle.zh_matrices.proofs.CallerLemmas.{no_seats, only_seats, weakened}
use Rattle.zh_decided.specs.Decisions.{LeavesNone}
use Rattle.zh_decided.specs.Rooms.{found}
use Rattle.zh_decided.specs.Ways.{AreBalanced}
use Rattle.zh_decided.proofs.CallerLemmas.{fits-weak}
use Rattle.zh_lower.proofs.FallbackLemmas.{balanced, none_given}
use Rattle.zh_lower.proofs.TieLemmas.{same-tie, tie-is-end}

votes_there : (q : Question) → IsProper q → (d : ℕ) → ¬ IsFirstWithoutVotes q d
votes_there q proper d first = first.none (proper.row_votes (d - 1) (omega (arith, first.from_1, first.there)))

tied-none : (q : Question) (d g : ℕ) → ComesToTie q d g → (x : Divisors) (seats : List ℕ) → ¬ IsStrict q x seats
tied-none q d g is =
    let ways = is.tied.ways in
    no_seats q is.divisors is.tied.seats is.tied.others ways.one_way ways.other_way ways.differ

-- neither a state of the search nor the decision gives seats
none_found : (q : Question) (reason : NoLower) → IsProper q → NoneFound q → fault_of reason ≡ faults.Exhausted → HasReason q reason →
    HandsOver q (Err reason)
none_found q reason proper none name is = record {
  outcome = rw name (record {
    seats = tt;
    fault = none;
    no_votes = λ d first. absurd (votes_there q proper d first);
    tied = λ d g comes. absurd (tie-is-end q d g comes none.none_before);
  });
  reason = is;
}

pub exhausted : (q : Question) (decided : Decided) → IsProper q → NoneBefore q 2001 → LeavesNone q decided.decision →
    HasReason q (Exhausted decided) → HandsOver q (Err (Exhausted decided))
exhausted q decided proper none leaves is =
    none_found q (Exhausted decided) proper (record {
      none_before = none;
      none_given = none_given q (found decided.findings) decided.decision leaves is.1;
      in_vain = inr (record { findings = found decided.findings; decision = decided.decision; decides = is.0; tried = is.1 });
    }) refl is

-- the row totals and the column totals have different sums
pub unbalanced : (q : Question) → IsProper q → ¬ AreBalanced q → HandsOver q (Err Unbalanced)
unbalanced q proper fails =
    none_found q Unbalanced proper (record {
      none_before = λ k lt. record {
        none = λ seats strict. fails (balanced q (state q k) seats (weakened q (state q k) seats strict));
        not_tied = λ seats others ways. fails (balanced q (state q k) seats ways.one_way);
      };
      none_given = λ rows columns seats given. fails (balanced q (millionths rows columns) seats (weakened q (millionths rows columns) seats given.strict));
      in_vain = inl fails;
    }) refl fails

-- the search reaches a tie
tied_there : (q : Question) (d g e f : ℕ) → ComesToTie q d g → ComesToTie q e f → faults.Tied d g ≡ faults.Tied e f
tied_there q d g e f one other = let (row, column) = same-tie q d g e f one other in rw (row, column) refl

pub tied : (q : Question) (tie : Tie) → IsLowerTie q tie → HandsOver q (Err (Tied tie))
tied q tie is =
    let comes : ComesToTie q tie.row tie.column = record { divisors = divisors_of tie.divisors; reached = is.reached; tied = is.tied } in
    record {
      outcome = record {
        seats = tt;
        fault = comes;
        no_votes = λ d first. absurd (votes_there q is.proper d first);
        tied = λ d g other. inl (ap (λ fault. Err fault) (tied_there q tie.row tie.column d g comes other));
      };
      reason = is;
    }

-- if a row has no votes, no matrix follows
no_weak : (q : Question) (d : ℕ) (x : Divisors) (seats : List ℕ) → AreSeatTotals q.rows q.row_totals → IsFirstWithoutVotes q d → ¬ IsWeak q x seats
no_weak q d x seats totals first weak =
    let dm : d - 1 < q.rows = omega (arith, first.from_1, first.there) in
    let some : 1 ≤ slice_index q.row_totals (d - 1) = totals.from_1 (d - 1) 0 (omega (arith, totals.one_each)) in
    let sum = weak.rows_add_up (d - 1) dm in
    let (g, gn, positive) = positive_term q.columns (cell q.columns seats (d - 1)) (omega (arith, sum, some)) in
    let term = term-le-sum_to q.columns (row_votes q (d - 1)) g gn in
    let votes : row_votes q (d - 1) g ≡ 0 = elim (cases_lt 0 (row_votes q (d - 1) g)) [
      | inl lt ↦ absurd (first.none (omega (arith, lt, term)))
      | inr le ↦ omega arith
    ] in
    let none = (fits-weak q x seats weak).on_votes (d - 1) g dm gn votes in
    absurd (omega (arith, none, positive))

row_not_before : (q : Question) (d e : ℕ) → IsFirstWithoutVotes q d → IsFirstWithoutVotes q e → e ≤ d
row_not_before q d e one other =
    elim (cases_lt (d - 1) (e - 1)) [
      | inl lt ↦ absurd (one.none (other.before (d - 1) lt))
      | inr le ↦ omega (arith, le, one.from_1)
    ]

-- the first row without votes
pub without_votes : (q : Question) (d : ℕ) → AreSeatTotals q.rows q.row_totals → IsFirstWithoutVotes q d → HandsOver q (Err (NoVotes d))
without_votes q d totals first = record {
  outcome = record {
    seats = tt;
    fault = first;
    no_votes = λ e other.
        let same : d ≡ e = omega (arith, row_not_before q d e first other, row_not_before q e d other first) in
        inl (ap (λ row. Err (faults.NoVotes row)) same);
    tied = λ e g comes. absurd (no_weak q d comes.divisors comes.tied.seats totals first comes.tied.ways.one_way);
  };
  reason = tt;
}

-- the seats and divisors that were found
pub seated : (q : Question) (lower : SeatMatrix) (seats of_rows of_columns : List ℕ) → IsProper q →
    lower ≡ record { seats = seats; divisors = millionths of_rows of_columns } → IsStrict q (millionths of_rows of_columns) seats →
    AreWithinLimits q of_rows of_columns → IsShown q (millionths of_rows of_columns) → HandsOver q (Ok lower)
seated q lower seats of_rows of_columns proper is strict limits shown = record {
  outcome = record {
    seats = rw is (record { strict = strict; in_millionths = refl; limits = limits; shown = shown });
    fault = tt;
    no_votes = λ d first. absurd (votes_there q proper d first);
    tied = λ d g comes. absurd (tied-none q d g comes (millionths of_rows of_columns) seats strict);
  };
  reason = tt;
}

-- memory can be refused before any row is looked at
pub memory_refused : (q : Question) → LowerOutcome q (Err faults.Memory)
memory_refused q = record { seats = tt; fault = tt; no_votes = λ d first. inr refl; tied = λ d g comes. inr refl }

-- no other seats follow
pub only_answer : (q : Question) (result : Result SeatMatrix LowerFault) → LowerOutcome q result →
    IfOk result (λ lower. (x : Divisors) (seats : List ℕ) → IsWeak q x seats → seats ≡ lower.seats)
only_answer q (Ok lower) found = λ x seats weak. only_seats q lower.divisors x lower.seats seats found.seats.strict weak
only_answer q (Err fault) found = tt

-- at a tie, no seats follow strictly
pub no_answer : (q : Question) (result : Result SeatMatrix LowerFault) (d g : ℕ) → LowerOutcome q result → IsErrOf result (faults.Tied d g) →
    (x : Divisors) (seats : List ℕ) → ¬ IsStrict q x seats
no_answer q result d g found is =
    let found_tied : LowerOutcome q (Err (faults.Tied d g)) = rw is at found in
    tied-none q d g found_tied.fault
