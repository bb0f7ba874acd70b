-- Places and cells.
use Rattle.std.proofs.Common.{◌≡◌, ℕ, ◌+◌, ◌*◌, ◌-◌, ◌/◌, ◌%◌, ◌^◌, ◌<◌, ◌≤◌, Bool, false, true, None, Some, ◌↔◌, IsTrue, List, All, length, get_or, inl, inr, sym, ap, ◌∙◌, arith}
use Rattle.std.proofs.lemmas.Bool.{cases_lt}
use Rattle.std.proofs.lemmas.List.Elements.{All-from_get_or}
use Rattle.std.proofs.lemmas.List.{ext_get_or}
use Rattle.std.proofs.lemmas.List.Quantifiers.{position-Some}
use Rattle.std.proofs.lemmas.List.Sums.{fails_before_first}
use Rattle.std.proofs.lemmas.Grind.{common_steps}
use Rattle.std.specs.List.{position, position_or_len}
use Rattle.std.proofs.lemmas.List.FromFn.{get_or-map-range_with_len, length-map-range_with_len}
use Rattle.std.proofs.Math.Nat.{div-add-mod', mul-pos, mul-le-mul_right, le_antisymm, min-eq_right, min-le_left}
use Rattle.zh_divisors.specs.Line.{half_up}
use Rattle.zh_divisors.specs.Rounding.{Rounds}
use Rattle.zh_divisors.proofs.CallerLemmas.{column_of, half_up-at_least, half_up-at_most, place-div, place-mod, row_of, term-le-sum_to}
use Rattle.zh_matrices.specs.Divisors.{Divisors}
use Rattle.zh_lower.specs.Outcomes.{HasHalf, HasNone, IsFirstHalf, IsProper}
use Rattle.zh_lower.specs.Places.{HasNoHalf, is_half_at, no_quotient, product_at, quotient_at, quotients, rounded, rounded_at}
use Rattle.zh_matrices.specs.Question.{Question, cell}
use Rattle.zh_matrices.specs.SeatMatrix.{IsStrict}
use Rattle.zh_lower.specs.declared.quotient.Quotient.{Quotient}

-- if n / p rounds to s without a half, s is n / p rounded half up
half_up-rounds : (n p s : ℕ) → 0 < p → Rounds n p s → half_up n p ≡ s
half_up-rounds n p s positive rounds = elim (cases_lt 0 s) [
  | inl some ↦
      let odd : 2 * (s - 1) + 1 ≡ 2 * s - 1 = omega arith in
      let least = half_up-at_least n p (s - 1) positive (rw odd (omega (arith, rounds.above_lower some))) in
      le_antisymm (half_up-at_most n p s positive rounds.below_upper) (omega (arith, least))
  | inr none ↦ omega (arith, half_up-at_most n p s positive rounds.below_upper)
]

-- seats that follow strictly are the rounded quotients
strict_at : (q : Question) (x : Divisors) (seats : List ℕ) → IsProper q → x.scale ≡ 1000000 → IsStrict q x seats →
    (k : ℕ) → k < q.rows * q.columns → get_or seats k 0 ≡ rounded_at q x k
strict_at q x seats proper scale strict k within =
    let d : ℕ = k / q.columns in
    let g : ℕ = k % q.columns in
    let dw : d < q.rows = row_of q.rows q.columns k within in
    let gw : g < q.columns = column_of q.rows q.columns k within in
    let place : d * q.columns + g ≡ k = div-add-mod' k q.columns in
    let rounds = rw (place, scale) at (strict.each_rounds d g dw gw) in
    let total : get_or q.row_totals d 0 ≤ 400 = proper.row_totals.at_most_400 d 0 (omega (arith, proper.row_totals.one_each)) in
    let few : cell q.columns seats d g ≤ 400
    = omega (arith, term-le-sum_to q.columns (cell q.columns seats d) g gw, strict.rows_add_up d dw) in
    let few_here : get_or seats k 0 ≤ 400 = rw place at few in
    let is = half_up-rounds (get_or q.votes k 0 * 10 ^ 12) (product_at q x k) (get_or seats k 0)
    (mul-pos (strict.row_divisors d dw) (strict.column_divisors g gw)) rounds in
    rw is (sym (min-eq_right few_here))

strict_is : (q : Question) (x : Divisors) (seats : List ℕ) → IsProper q → x.scale ≡ 1000000 → IsStrict q x seats → seats ≡ rounded q x
strict_is q x seats proper scale strict =
    let long : length (rounded q x) ≡ q.rows * q.columns = length-map-range_with_len (rounded_at q x) 0 (q.rows * q.columns) in
    ext_get_or 0 seats (rounded q x) (strict.one_each ∙ sym long) (λ k lt.
    let within : k < q.rows * q.columns = omega (arith, strict.one_each) in
    strict_at q x seats proper scale strict k within
    ∙ sym (get_or-map-range_with_len (rounded_at q x) 0 (q.rows * q.columns) k k 0 within (omega arith)))

pub half_there : (q : Question) (x : Divisors) (d g : ℕ) → x.scale ≡ 1000000 → g < q.columns → HasHalf q x d g → IsTrue (is_half_at q x (d * q.columns + g))
half_there q x d g scale lt half = rw (place-div d g q.columns lt, place-mod d g q.columns lt) (rw scale at half)

-- the stored quotient of a place
pub quotient-is : (q : Question) (x : Divisors) (xs : List Quotient) (k : ℕ) → xs ≡ quotients q x → k < q.rows * q.columns →
    get_or xs k no_quotient ≡ quotient_at q x k
quotient-is q x xs k is within =
    ap (λ ys. get_or ys k no_quotient) is
    ∙ get_or-map-range_with_len (quotient_at q x) 0 (q.rows * q.columns) k k no_quotient within (omega arith)

pub length-quotients : (q : Question) (x : Divisors) (xs : List Quotient) → xs ≡ quotients q x → length xs ≡ q.rows * q.columns
length-quotients q x xs is = ap length is ∙ length-map-range_with_len (quotient_at q x) 0 (q.rows * q.columns)

-- the first place on a half
pub record IsFirstHalfPlace (q : Question) (x : Divisors) (place : ℕ) : Type 0 where
  pub within : place < q.rows * q.columns
  pub half : IsTrue (is_half_at q x place)
  pub before : (k : ℕ) → k < place → ¬ IsTrue (is_half_at q x k)

pub IsFirstHalfPlace-of : (q : Question) (x : Divisors) (xs : List Quotient) (k : ℕ) → xs ≡ quotients q x →
    position (λ quotient. quotient.is_half) xs ≡ Some k → IsFirstHalfPlace q x k
IsFirstHalfPlace-of q x xs k is found =
    let long : length xs ≡ q.rows * q.columns = length-quotients q x xs is in
    let (lt, half, before) = position-Some (λ quotient. quotient.is_half) xs k no_quotient found in
    let within : k < q.rows * q.columns = omega arith in
    record {
      within = within;
      half = sym (ap (λ quotient. quotient.is_half) (quotient-is q x xs k is within)) ∙ half;
      before = λ j earlier here.
          let there : j < q.rows * q.columns = omega arith in
          let no = sym (ap (λ quotient. quotient.is_half) (quotient-is q x xs j is there)) ∙ before j earlier in
          let yes : is_half_at q x j ≡ true = here in
          cc;
    }

-- no place is on a half
position-None : {X : Type 0} (p : X → Bool) (xs : List X) (k : ℕ) (d : X) → position p xs ≡ None → k < length xs → p (get_or xs k d) ≡ false
position-None p xs k d none lt =
    let all : length xs ≤ position_or_len p xs = grind (arith, common_steps) in
    fails_before_first p xs k d (omega arith)

pub HasNoHalf-of : (q : Question) (x : Divisors) (xs : List Quotient) → xs ≡ quotients q x →
    position (λ quotient. quotient.is_half) xs ≡ None → HasNoHalf q x
HasNoHalf-of q x xs is none k within here =
    let there : k < length xs = omega (arith, length-quotients q x xs is) in
    let no = sym (ap (λ quotient. quotient.is_half) (quotient-is q x xs k is within))
    ∙ position-None (λ quotient. quotient.is_half) xs k no_quotient none there in
    let yes : is_half_at q x k ≡ true = here in
    cc

-- the row and the column of a place, both counted from 1
pub IsFirstHalf-of : (q : Question) (x : Divisors) (k d g : ℕ) → x.scale ≡ 1000000 → IsFirstHalfPlace q x k →
    d ≡ k / q.columns + 1 → g ≡ k % q.columns + 1 → IsFirstHalf q x d g
IsFirstHalf-of q x k d g scale first d_is g_is =
    let row : d - 1 ≡ k / q.columns = omega arith in
    let column : g - 1 ≡ k % q.columns = omega arith in
    let dw : k / q.columns < q.rows = row_of q.rows q.columns k first.within in
    let gw : k % q.columns < q.columns = column_of q.rows q.columns k first.within in
    let place : k / q.columns * q.columns + k % q.columns ≡ k = div-add-mod' k q.columns in
    record {
      row_from_1 = omega arith;
      row = omega arith;
      column_from_1 = omega arith;
      column = omega arith;
      half = rw (row, column, place, scale) first.half;
      rows_before = λ e f above fw half.
          let before : e < k / q.columns = omega arith in
          let rows = mul-le-mul_right q.columns before in
          first.before (e * q.columns + f) (omega (arith, place, rows, fw)) (half_there q x e f scale fw half);
      columns_before = λ f left half.
          let before : f < k % q.columns = omega arith in
          let here : HasHalf q x (k / q.columns) f = rw row at half in
          first.before (k / q.columns * q.columns + f) (omega (arith, place))
          (half_there q x (k / q.columns) f scale (omega arith) here);
    }

-- the rounded quotients are at most 400
pub rounded-few : (q : Question) (x : Divisors) → All (λ s. s ≤ 400) (rounded q x)
rounded-few q x = All-from_get_or (λ s. s ≤ 400) (rounded q x) 0 (λ k lt.
    let within : k < q.rows * q.columns = omega (arith, length-map-range_with_len (rounded_at q x) 0 (q.rows * q.columns)) in
    rw (get_or-map-range_with_len (rounded_at q x) 0 (q.rows * q.columns) k k 0 within (omega arith)) (min-le_left 400 _))

-- if the rounded quotients do not follow strictly, no seats do
pub HasNone-tested : (q : Question) (x : Divisors) (seats : List ℕ) (result : Bool) → IsProper q → x.scale ≡ 1000000 →
    seats ≡ rounded q x → (IsTrue result ↔ IsStrict q x seats) → result ≡ false → HasNone q x
HasNone-tested q x seats result proper scale is tells fails = λ other strict.
    let same : other ≡ seats = strict_is q x other proper scale strict ∙ sym is in
    let passes : IsTrue result = tells.1 (rw same at strict) in
    cc
