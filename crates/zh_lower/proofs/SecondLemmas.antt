-- The middle of the divisors that give some seats.
use Rattle.std.proofs.Common.{◌≡◌, ℕ, ◌/◌, ◌^◌, ◌≤◌, Bool, true, false, ◌↔◌, IsTrue, List, length, inl, inr, sym, ap, ◌∙◌, arith}
use Rattle.std.proofs.lemmas.Bool.{false≢true}
use Rattle.std.specs.Bool.{OnFalse, OnTrue}
use Rattle.zh_matrices.specs.Divisors.{AreWithin, Divisors, millionths}
use Rattle.zh_lower.specs.Outcomes.{HasNone}
use Rattle.zh_matrices.specs.Question.{Question}
use Rattle.zh_lower.specs.Extremes.{ComeTo, Enclose, Give}
use Rattle.zh_lower.specs.Second.{HaveNoSecond, IsMiddle, IsSecond, IsSecondFor, IsSecondWithin, middle_from, scaled_down}
use Rattle.zh_matrices.specs.SeatMatrix.{IsStrict}
use Rattle.zh_lower.proofs.ExtremeLemmas.{IsGreatest-of}
use Rattle.zh_lower.proofs.RoundLemmas.{only-columns, only-rows}
use Rattle.zh_matrices.proofs.CallerLemmas.{only_seats, weakened}

-- divisors within a limit are within a greater one
pub AreWithin-more : (n top most : ℕ) (xs : List ℕ) → top ≤ most → AreWithin n top xs → AreWithin n most xs
AreWithin-more n top most xs less within = record {
  one_each = within.one_each;
  from_1 = within.from_1;
  at_most = λ k d lt. omega (arith, within.at_most k d lt);
}

pub follow-true : (result : Bool) (claim other : Type 0) → (claim → other) → OnTrue result claim → OnTrue result other
follow-true true claim other step given = step given
follow-true false claim other step given = tt

pub follow-false : (result : Bool) (claim other : Type 0) → (claim → other) → OnFalse result claim → OnFalse result other
follow-false true claim other step given = tt
follow-false false claim other step given = step given

-- the seats are the only ones
pub only_strict : (q : Question) (x : Divisors) (seats : List ℕ) → IsStrict q x seats →
    (y : Divisors) (others : List ℕ) → IsStrict q y others → others ≡ seats
only_strict q x seats strict y others also = only_seats q x y seats others strict (weakened q y others also)

-- the middle from columns that are scaled down
pub IsMiddle-scaled : (q : Question) (scale : ℕ) (greatest seats columns : List ℕ) (x : Divisors) → x ≡ middle_from q columns →
    columns ≡ scaled_down scale greatest → IsStrict q x seats → IsMiddle q scale greatest x
IsMiddle-scaled q scale greatest seats columns x is scaled strict = inl (is ∙ ap (λ cs. middle_from q cs) scaled, (seats, strict))

-- the middle from the greatest columns, if those scaled down give no seats
pub IsMiddle-unscaled : (q : Question) (scale : ℕ) (greatest seats scaled columns : List ℕ) (x y : Divisors) (result : Bool) →
    ((z : Divisors) (others : List ℕ) → IsStrict q z others → others ≡ seats) →
    x ≡ middle_from q scaled → scaled ≡ scaled_down scale greatest → (IsTrue result ↔ IsStrict q x seats) → result ≡ false →
    y ≡ middle_from q columns → columns ≡ greatest → IsMiddle q scale greatest y
IsMiddle-unscaled q scale greatest seats scaled columns x y result only is scaled_is tells fails also same =
    let at : x ≡ middle_from q (scaled_down scale greatest) = is ∙ ap (λ cs. middle_from q cs) scaled_is in
    let none : HasNone q (middle_from q (scaled_down scale greatest)) = λ others strict.
    let here : IsStrict q x others = rw at strict in
    let passes : IsTrue result = tells.1 (rw (only x others here) at here) in
    cc in
    inr (also ∙ ap (λ cs. middle_from q cs) same, none)

-- if neither middle gives the only seats, there is no middle that does
pub none-in-middle : (q : Question) (scale : ℕ) (greatest seats scaled columns : List ℕ) (x y : Divisors) (passes also_passes : Bool) →
    x ≡ middle_from q scaled → scaled ≡ scaled_down scale greatest → (IsTrue passes ↔ IsStrict q x seats) → passes ≡ false →
    y ≡ middle_from q columns → columns ≡ greatest → (IsTrue also_passes ↔ IsStrict q y seats) → also_passes ≡ false →
    (z : Divisors) → IsMiddle q scale greatest z → ¬ IsStrict q z seats
none-in-middle q scale greatest seats scaled columns x y passes also_passes is scaled_is tells fails also same also_tells also_fails z (inl middle) strict =
    let at : x ≡ z = is ∙ ap (λ cs. middle_from q cs) scaled_is ∙ sym middle.0 in
    false≢true (sym fails ∙ tells.1 (rw at strict))
none-in-middle q scale greatest seats scaled columns x y passes also_passes is scaled_is tells fails also same also_tells also_fails z (inr middle) strict =
    let at : y ≡ z = also ∙ ap (λ cs. middle_from q cs) same ∙ sym middle.0 in
    false≢true (sym also_fails ∙ also_tells.1 (rw at strict))

-- the divisors that the rounds reach, and the middle from them
pub within-of : (q : Question) (top : ℕ) (seats least greatest : List ℕ) (x : Divisors) → Enclose q top seats least greatest →
    AreWithin q.rows (10 ^ 18) least → AreWithin q.columns top greatest → ComeTo q top seats 1000 (millionths least greatest) →
    IsStrict q (millionths least greatest) seats → IsMiddle q (top / 1000000) greatest x → IsStrict q x seats → IsSecondWithin q top seats x
within-of q top seats least greatest x enclose rows columns rounds extreme middle strict =
    let give : Give q top seats least greatest = record { rows = rows; columns = columns; strict = extreme } in
    record {
      rows = least;
      columns = greatest;
      rounds = rounds;
      give = give;
      greatest = IsGreatest-of q top seats least greatest enclose give;
      middle = middle;
      strict = strict;
    }

same-rows : (q : Question) (top : ℕ) (seats rows columns others other_columns : List ℕ) → length rows ≡ q.rows → length columns ≡ q.columns →
    ComeTo q top seats 1000 (millionths rows columns) → Give q top seats others other_columns →
    ComeTo q top seats 1000 (millionths others other_columns) → rows ≡ others
same-rows q top seats rows columns others other_columns long wide rounds give also =
    only-rows q top seats 1000 (millionths others other_columns) (millionths rows columns) also rounds give.rows.one_each long

same-columns : (q : Question) (top : ℕ) (seats rows columns others other_columns : List ℕ) → length rows ≡ q.rows → length columns ≡ q.columns →
    ComeTo q top seats 1000 (millionths rows columns) → Give q top seats others other_columns →
    ComeTo q top seats 1000 (millionths others other_columns) → columns ≡ other_columns
same-columns q top seats rows columns others other_columns long wide rounds give also =
    only-columns q top seats 1000 (millionths others other_columns) (millionths rows columns) also rounds give.columns.one_each wide

-- there is no middle if the divisors that the rounds reach do not give the seats
pub none-strict : (q : Question) (top : ℕ) (seats rows columns : List ℕ) → length rows ≡ q.rows → length columns ≡ q.columns →
    ComeTo q top seats 1000 (millionths rows columns) → ¬ IsStrict q (millionths rows columns) seats →
    (x : Divisors) → ¬ IsSecondWithin q top seats x
none-strict q top seats rows columns long wide rounds fails x second =
    fails (rw (
      same-rows q top seats rows columns second.rows second.columns long wide rounds second.give second.rounds,
      same-columns q top seats rows columns second.rows second.columns long wide rounds second.give second.rounds,
    ) second.give.strict)

-- there is none if no middle from them gives the seats
pub none-middle : (q : Question) (top : ℕ) (seats rows columns : List ℕ) → length rows ≡ q.rows → length columns ≡ q.columns →
    ComeTo q top seats 1000 (millionths rows columns) →
    ((x : Divisors) → IsMiddle q (top / 1000000) columns x → ¬ IsStrict q x seats) →
    (x : Divisors) → ¬ IsSecondWithin q top seats x
none-middle q top seats rows columns long wide rounds none x second =
    none x (rw (same-columns q top seats rows columns second.rows second.columns long wide rounds second.give second.rounds) second.middle)
    second.strict

-- there is none if there is none for either top
pub none-for : (q : Question) (seats : List ℕ) → ((y : Divisors) → ¬ IsSecondWithin q (10 ^ 9) seats y) →
    ((y : Divisors) → ¬ IsSecondWithin q (10 ^ 12) seats y) → HaveNoSecond q seats
none-for q seats none also x (inl within) = none x within
none-for q seats none also x (inr (before, within)) = also x within

pub second-strict : (q : Question) (seats : List ℕ) (x : Divisors) → IsSecondFor q seats x → IsStrict q x seats
second-strict q seats x (inl within) = within.strict
second-strict q seats x (inr (none, within)) = within.strict

-- if the only seats have no middle, no seats have one
pub none-second : (q : Question) (seats : List ℕ) (z : Divisors) → IsStrict q z seats → HaveNoSecond q seats → (x : Divisors) → ¬ IsSecond q x
none-second q seats z strict none x (others, second) =
    let same : others ≡ seats = only_strict q z seats strict x others (second-strict q others x second) in none x (rw (← same) second)

-- the seats that were tried follow from their middle
pub tried-strict : (q : Question) (seats taken : List ℕ) (x : Divisors) (result : Bool) → taken ≡ seats → OnTrue result (IsSecondFor q seats x) →
    IsTrue result → IsStrict q x taken
tried-strict q seats taken x true same second passes = rw same (second-strict q seats x second)
tried-strict q seats taken x false same second passes = absurd (false≢true passes)
