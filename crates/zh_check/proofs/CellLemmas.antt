-- Quotients that round, and the lists by place.
use Rattle.std.proofs.Common.{◌≡◌, ℕ, zero, suc, ◌+◌, ◌-◌, ◌*◌, ◌/◌, ◌%◌, ◌<◌, ◌≤◌, Bool, true, false, List, length, get_or, sym, ap, ◌∙◌, inl, inr, arith}
use Rattle.std.specs.Prelude.{◌↔◌}
use Rattle.std.proofs.lemmas.Bool.{cases_lt}
use Rattle.std.proofs.lemmas.List.Sums.{count_by_more_no, count_by_more_yes}
use Rattle.std.proofs.lemmas.Nat.{div-add-mod', mul-le}
use Rattle.zh_districts.specs.Canton.{Canton, stands}
use Rattle.zh_divisors.specs.Rounding.{Rounds}
use Rattle.zh_divisors.proofs.CallerLemmas.{column_of, row_of}
use Rattle.zh_check.specs.Cells.{DoSeatsFollow, LiesOnHalf, line_of_list}
use Rattle.zh_check.specs.Reading.{standing, votes_read}
use Rattle.zh_check.specs.declared.lists.ShownList.{ShownList}
use Rattle.zh_check.proofs.SizeLemmas.{length-standing, length-votes}
use Rattle.zh_check.proofs.TableLemmas.{in_square}

-- a number times 2 s - 1, for a positive s
below_twice : (s p n : ℕ) → (1 ≤ s → 2 * (s * p) < 2 * n + p) → 1 ≤ s → (2 * s - 1) * p < 2 * n
below_twice zero p n lt some = absurd (omega (arith, some))
below_twice (suc s) p n lt some =
    let odd : 2 * suc s - 1 ≡ 2 * s + 1 = omega arith in
    let less : 2 * (suc s * p) < 2 * n + p = lt some in
    rw odd (omega (arith, less))

-- a quotient rounds to the nearest number
pub rounds_down : (n p w r : ℕ) → n ≡ w * p + r → 2 * r < p → Rounds n p w
rounds_down n p w r is lt = record {
  below_upper = omega (arith, is, lt);
  above_lower = below_twice w p n (λ some. omega (arith, is, lt));
}

pub rounds_up : (n p w r : ℕ) → n ≡ w * p + r → r < p → p < 2 * r → Rounds n p (w + 1)
rounds_up n p w r is small lt = record {
  below_upper = omega (arith, is, small);
  above_lower = below_twice (w + 1) p n (λ some. omega (arith, is, small, lt));
}

pub on_half : (n p w r : ℕ) → n ≡ w * p + r → 2 * r ≡ p → 0 < p → LiesOnHalf n p
on_half n p w r is same positive = record { positive = positive; whole = w; half = omega (arith, is, same) }

-- a quotient rounds to only one number, and to none if it is on a half
between : (a b p : ℕ) → 2 * (a * p) < (2 * b + 1) * p + p → a ≤ b
between a b p lt = elim (cases_lt b a) [
  | inr le ↦ le
  | inl more ↦
      let k : ℕ = a - (b + 1) in
      let is : a ≡ b + 1 + k = omega (arith, more) in
      let apart : 2 * ((b + 1 + k) * p) < (2 * b + 1) * p + p = rw is at lt in
      absurd (omega (arith, apart))
]

lower_of : (n p s : ℕ) → Rounds n p s → 2 * (s * p) < 2 * n + p
lower_of n p zero is = omega (arith, is.below_upper)
lower_of n p (suc s) is =
    let odd : 2 * suc s - 1 ≡ 2 * s + 1 = omega arith in
    let less : (2 * s + 1) * p < 2 * n = rw odd at (is.above_lower (omega arith)) in
    omega (arith, less)

at_most : (n p s t : ℕ) → Rounds n p s → Rounds n p t → s ≤ t
at_most n p s t S T = between s t p (omega (arith, lower_of n p s S, T.below_upper))

pub one_rounding : (n p s t : ℕ) → Rounds n p s → Rounds n p t → s ≡ t
one_rounding n p s t S T = omega (arith, at_most n p s t S T, at_most n p t s T S)

pub half_not : (n p s : ℕ) → LiesOnHalf n p → ¬ Rounds n p s
half_not n p s half S =
    let w : ℕ = half.whole in
    let low : s ≤ w = between s w p (omega (arith, lower_of n p s S, half.half)) in
    let high : w + 1 ≤ s = between (w + 1) s p (omega (arith, half.half, S.below_upper)) in
    omega (arith, low, high)

pub divisor_not : (n p s : ℕ) → p ≡ 0 → ¬ Rounds n p s
divisor_not n p s none S =
    let above : 2 * n < (2 * s + 1) * p = S.below_upper in
    let nothing : (2 * s + 1) * p ≡ (2 * s + 1) * 0 = ap (λ q. (2 * s + 1) * q) none in
    omega (arith, above, nothing)

no_product : (list : ShownList) → list.column_divisor ≡ 0 → list.row_divisor * list.column_divisor ≡ 0
no_product list none = ap (λ c. list.row_divisor * c) none ∙ omega arith

-- the seats follow if and only if they are that number
pub follow_to : (list : ShownList) (s : ℕ) → Rounds (list.votes * (1000000 * 1000000)) (list.row_divisor * list.column_divisor) s → (s ≡ list.seats) ↔ DoSeatsFollow list
follow_to list s is =
    let n : ℕ = list.votes * (1000000 * 1000000) in
    let p : ℕ = list.row_divisor * list.column_divisor in (
      λ same. record { none = λ no. absurd (divisor_not n p s (no_product list no) is); rounds = λ some. rw (← same) is },
      λ follow. elim (cases_lt 0 list.column_divisor) [
        | inl some ↦ one_rounding n p s list.seats is (follow.rounds some)
        | inr none ↦ absurd (divisor_not n p s (no_product list (omega (arith, none))) is)
      ],
    )

pub follow_half : (list : ShownList) → LiesOnHalf (list.votes * (1000000 * 1000000)) (list.row_divisor * list.column_divisor) → ¬ DoSeatsFollow list
follow_half list half follow = elim (cases_lt 0 list.column_divisor) [
  | inl some ↦ half_not (list.votes * (1000000 * 1000000)) (list.row_divisor * list.column_divisor) list.seats half (follow.rounds some)
  | inr none ↦ omega (arith, half.positive, no_product list (omega (arith, none)))
]

-- whether the list at a place stands
standing_at : (canton : Canton) (k : ℕ) → k < length canton.constituencies * length canton.groups →
    get_or (standing canton) k false ≡ stands canton (k / length canton.groups + 1) (k % length canton.groups + 1)
standing_at canton k lt =
    let m : ℕ = length canton.constituencies in
    let n : ℕ = length canton.groups in
    ap (λ p. get_or (standing canton) p false) (sym (div-add-mod' k n)) ∙ in_square (stands canton) n m (k / n) (k % n) false (row_of m n k lt) (column_of m n k lt)

-- the line of the next list
pub next_line_stands : (canton : Canton) (k : ℕ) → k < length canton.constituencies * length canton.groups → get_or (standing canton) k false ≡ true →
    line_of_list canton (k + 1) ≡ line_of_list canton k + 1
next_line_stands canton k lt here =
    let more = count_by_more_yes (λ (s : Bool). s) (standing canton) k false (omega (arith, lt, length-standing canton)) here in
    omega (arith, more)

pub next_line_hidden : (canton : Canton) (k : ℕ) → k < length canton.constituencies * length canton.groups → get_or (standing canton) k false ≡ false →
    line_of_list canton (k + 1) ≡ line_of_list canton k
next_line_hidden canton k lt away =
    let same = count_by_more_no (λ (s : Bool). s) (standing canton) k false (omega (arith, lt, length-standing canton)) away in
    omega (arith, same)

-- the place of some votes is that of a list, and there are few places
pub place_there : (canton : Canton) (text votes : List ℕ) (k : ℕ) → votes ≡ votes_read canton text → k < length votes →
    k < length canton.constituencies * length canton.groups
place_there canton text votes k read lt = omega (arith, lt, ap length read, length-votes canton text)

pub few_places : (m n k : ℕ) → m ≤ 69 → n ≤ 69 → k < m * n → k < 4761
few_places m n k few_rows few_columns lt = let most : m * n ≤ 69 * 69 = mul-le m n 69 69 few_rows few_columns in omega (arith, lt, most)

-- whether the list at a place stands, given the number of groups
pub stands_here : (canton : Canton) (k groups : ℕ) (b : Bool) → groups ≡ length canton.groups → k < length canton.constituencies * length canton.groups →
    b ≡ stands canton (k / groups + 1) (k % groups + 1) → get_or (standing canton) k false ≡ b
stands_here canton k groups b same lt is =
    standing_at canton k lt ∙ (ap (λ n. stands canton (k / n + 1) (k % n + 1)) (sym same) ∙ sym is)
