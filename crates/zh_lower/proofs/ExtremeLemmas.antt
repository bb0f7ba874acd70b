-- Rows that rise, and columns that fall, only as far as they have to.
use Rattle.std.proofs.Common.{◌≡◌, ℕ, ◌+◌, ◌-◌, ◌*◌, ◌/◌, ◌^◌, ◌<◌, ◌≤◌, max, min, List, length, get_or, set, inl, inr, sym, ◌∙◌, arith}
use Rattle.std.proofs.lemmas.Bool.{cases_eq}
use Rattle.std.proofs.lemmas.List.{ext_get_or, get_or-set_other, get_or-set_same}
use Rattle.std.proofs.lemmas.Nat.{le-div}
use Rattle.std.proofs.Math.Nat.{mul-le-mul_left, mul-le-mul_right, mul-div-le, div-le_self, le_antisymm}
use Rattle.zh_matrices.specs.Divisors.{millionths}
use Rattle.zh_matrices.specs.Question.{Question, cell}
use Rattle.zh_lower.specs.Extremes.{Enclose, Give, IsAbove, IsBelow, NoneGive}
use Rattle.zh_lower.specs.Second.{IsGreatest}
use Rattle.zh_matrices.proofs.CallerLemmas.{only_seats, weakened}

-- a quotient below a half stays below it with a larger divisor
pub still_below : (n a m m' c : ℕ) → m ≤ m' → n < a * (m * c) → n < a * (m' * c)
still_below n a m m' c le below = omega (arith, mul-le-mul_left a (mul-le-mul_right c le))

-- a quotient above a half stays above it with a smaller divisor
pub still_above : (n a r m m' : ℕ) → m' ≤ m → a * (r * m) < n → a * (r * m') < n
still_above n a r m m' le above = omega (arith, mul-le-mul_left a (mul-le-mul_left r le))

-- n / (a c) + 1 is the least number x with n < a x c
pub least_below : (n a c : ℕ) → 0 < a * c → n < a * ((n / (a * c) + 1) * c)
least_below n a c positive =
    let divided : n < a * c * (n / (a * c) + 1) = omega arith in
    omega (arith, divided)

-- (n - 1) / (a r) is the greatest number x with a r x < n
pub greatest_above : (n a r : ℕ) → 0 < a * r → 1 ≤ n → a * (r * ((n - 1) / (a * r))) < n
greatest_above n a r positive some =
    let divided : a * r * ((n - 1) / (a * r)) ≤ n - 1 = mul-div-le (n - 1) (a * r) in
    omega (arith, divided)

pub greatest_greatest : (n a r other : ℕ) → 0 < a * r → a * (r * other) < n → other ≤ (n - 1) / (a * r)
greatest_greatest n a r other positive above =
    let regrouped : other * (a * r) ≤ n - 1 = omega (arith, above) in
    le-div other (n - 1) (a * r) positive regrouped

pub raised-below : (n a c divisor result : ℕ) → 0 < a * c → result ≡ max divisor (n / (a * c) + 1) → n < a * (result * c)
raised-below n a c divisor result positive is =
    let more : n / (a * c) + 1 ≤ result = omega arith in
    still_below n a (n / (a * c) + 1) result c more (least_below n a c positive)

pub lowered-above : (n a r divisor result : ℕ) → 0 < a * r → result ≡ min ((n - 1) / (a * r)) divisor → 1 ≤ result →
    a * (r * result) < n
lowered-above n a r divisor result positive is some =
    let less : result ≤ (n - 1) / (a * r) = omega arith in
    let one : 1 ≤ n = omega (arith, div-le_self (n - 1) (a * r)) in
    still_above n a r ((n - 1) / (a * r)) result less (greatest_above n a r positive one)

pub lowered-greatest : (n a r divisor result other : ℕ) → 0 < a * r → result ≡ min ((n - 1) / (a * r)) divisor → other ≤ divisor →
    a * (r * other) < n → other ≤ result
lowered-greatest n a r divisor result other positive is within above = omega (arith, greatest_greatest n a r other positive above)

-- row divisors that give the seats keep every quotient below the half above its seats, also with greater column divisors
IsBelow-given : (q : Question) (top d : ℕ) (seats of_columns rows columns : List ℕ) → Give q top seats rows columns → d < q.rows →
    ((g : ℕ) → g < q.columns → get_or columns g 0 ≤ get_or of_columns g 0) → IsBelow q seats of_columns d (get_or rows d 0)
IsBelow-given q top d seats of_columns rows columns give dw above g gw =
    let strict = (give.strict.each_rounds d g dw gw).below_upper in
    let more = mul-le-mul_left (2 * cell q.columns seats d g + 1) (mul-le-mul_left (get_or rows d 0) (above g gw)) in
    omega (arith, strict, more)

IsAbove-given : (q : Question) (top g : ℕ) (seats of_rows rows columns : List ℕ) → Give q top seats rows columns → g < q.columns →
    ((d : ℕ) → d < q.rows → get_or of_rows d 0 ≤ get_or rows d 0) → IsAbove q seats of_rows g (get_or columns g 0)
IsAbove-given q top g seats of_rows rows columns give gw below d dw some =
    let strict = (give.strict.each_rounds d g dw gw).above_lower some in
    let less = mul-le-mul_left (2 * cell q.columns seats d g - 1) (mul-le-mul_right (get_or columns g 0) (below d dw)) in
    omega (arith, strict, less)

-- a row rises only as far as its cells require
pub Enclose-row : (q : Question) (top d value : ℕ) (seats of_rows of_columns : List ℕ) → d < q.rows → length of_rows ≡ q.rows →
    ((other : ℕ) → get_or of_rows d 0 ≤ other → IsBelow q seats of_columns d other → value ≤ other) →
    Enclose q top seats of_rows of_columns → Enclose q top seats (set of_rows d value) of_columns
Enclose-row q top d value seats of_rows of_columns dw long least enclose rows columns give =
    let before = enclose rows columns give in
    record {
      rows = λ e ew. elim (cases_eq e d) [
        | inl is ↦ rw (is, get_or-set_same of_rows d value 0 (omega arith))
            (least (get_or rows d 0) (before.rows d dw) (IsBelow-given q top d seats of_columns rows columns give dw before.columns))
        | inr other ↦ rw (get_or-set_other of_rows d e value 0 other) (before.rows e ew)
      ];
      columns = before.columns;
    }

pub NoneGive-row : (q : Question) (top d value : ℕ) (seats of_rows of_columns : List ℕ) → d < q.rows → 10 ^ 18 < value →
    ((other : ℕ) → get_or of_rows d 0 ≤ other → IsBelow q seats of_columns d other → value ≤ other) →
    Enclose q top seats of_rows of_columns → NoneGive q top seats
NoneGive-row q top d value seats of_rows of_columns dw out least enclose rows columns give =
    let before = enclose rows columns give in
    let within : get_or rows d 0 ≤ 10 ^ 18 = give.rows.at_most d 0 (omega (arith, give.rows.one_each)) in
    omega (arith, within, out, least (get_or rows d 0) (before.rows d dw) (IsBelow-given q top d seats of_columns rows columns give dw before.columns))

-- a column falls only as far as its cells require
pub Enclose-column : (q : Question) (top g value : ℕ) (seats of_rows of_columns : List ℕ) → g < q.columns → length of_columns ≡ q.columns →
    ((other : ℕ) → other ≤ get_or of_columns g 0 → IsAbove q seats of_rows g other → other ≤ value) →
    Enclose q top seats of_rows of_columns → Enclose q top seats of_rows (set of_columns g value)
Enclose-column q top g value seats of_rows of_columns gw long greatest enclose rows columns give =
    let before = enclose rows columns give in
    record {
      rows = before.rows;
      columns = λ f fw. elim (cases_eq f g) [
        | inl is ↦ rw (is, get_or-set_same of_columns g value 0 (omega arith))
            (greatest (get_or columns g 0) (before.columns g gw) (IsAbove-given q top g seats of_rows rows columns give gw before.rows))
        | inr other ↦ rw (get_or-set_other of_columns g f value 0 other) (before.columns f fw)
      ];
    }

pub NoneGive-column : (q : Question) (top g : ℕ) (seats of_rows of_columns : List ℕ) → g < q.columns →
    ((other : ℕ) → other ≤ get_or of_columns g 0 → IsAbove q seats of_rows g other → other ≤ 0) →
    Enclose q top seats of_rows of_columns → NoneGive q top seats
NoneGive-column q top g seats of_rows of_columns gw greatest enclose rows columns give =
    let before = enclose rows columns give in
    let positive : 1 ≤ get_or columns g 0 = give.columns.from_1 g 0 (omega (arith, give.columns.one_each)) in
    omega (arith, positive, greatest (get_or columns g 0) (before.columns g gw) (IsAbove-given q top g seats of_rows rows columns give gw before.rows))

-- columns that enclose all those that give the seats, and give them too, are the greatest
pub IsGreatest-of : (q : Question) (top : ℕ) (seats of_rows of_columns : List ℕ) → Enclose q top seats of_rows of_columns →
    Give q top seats of_rows of_columns → IsGreatest q top of_columns
IsGreatest-of q top seats of_rows of_columns enclose give = record {
  give = record { seats = seats; of_rows = of_rows; give = give };
  greatest = λ others some g gw.
      let same : some.seats ≡ seats
      = only_seats q (millionths of_rows of_columns) (millionths some.of_rows others) seats some.seats give.strict
      (weakened q (millionths some.of_rows others) some.seats some.give.strict) in
      let also : Give q top seats some.of_rows others = rw same at some.give in
      (enclose some.of_rows others also).columns g gw;
}

-- the greatest columns are unique
pub same_greatest : (q : Question) (top : ℕ) (one other : List ℕ) → IsGreatest q top one → IsGreatest q top other → other ≡ one
same_greatest q top one other greatest also =
    ext_get_or 0 other one (also.give.give.columns.one_each ∙ sym greatest.give.give.columns.one_each) (λ g lt.
    let gw : g < q.columns = omega (arith, also.give.give.columns.one_each) in
    le_antisymm (greatest.greatest other also.give g gw) (also.greatest one greatest.give g gw))
