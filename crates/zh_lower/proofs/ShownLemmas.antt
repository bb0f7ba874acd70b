-- Of the divisors that are shown, only one set gives seats.
use Rattle.std.proofs.Common.{◌≡◌, ℕ, ◌/◌, ◌^◌, List, inl, inr, sym, ap, subst, ◌∙◌, arith}
use Rattle.zh_matrices.specs.Divisors.{Divisors, millionths}
use Rattle.zh_lower.specs.Outcomes.{IsReached, NoneBefore}
use Rattle.zh_matrices.specs.Question.{Question}
use Rattle.zh_lower.specs.Second.{IsMiddle, IsSecond, IsSecondWithin}
use Rattle.zh_lower.specs.Shown.{IsSecondOrThird, IsMadeReadable, IsShown, IsThird}
use Rattle.zh_decided.specs.Boxes.{GiveWithin}
use Rattle.zh_decided.proofs.CallerLemmas.{only-columns, only-rows}
use Rattle.zh_matrices.specs.SeatMatrix.{IsStrict, SeatMatrix}
use Rattle.zh_lower.proofs.ExtremeLemmas.{same_greatest}
use Rattle.zh_matrices.proofs.CallerLemmas.{only_seats, weakened}
use Rattle.zh_lower.proofs.ReachedLemmas.{only_matrix}

same_middle : (q : Question) (scale : ℕ) (columns : List ℕ) (x y : Divisors) → IsMiddle q scale columns x → IsMiddle q scale columns y → y ≡ x
same_middle q scale columns x y (inl (one, strict)) (inl (other, also)) = other ∙ sym one
same_middle q scale columns x y (inr (one, none)) (inr (other, also)) = other ∙ sym one
same_middle q scale columns x y (inl (one, (seats, strict))) (inr (other, none)) = absurd (none seats (rw one at strict))
same_middle q scale columns x y (inr (one, none)) (inl (other, (seats, strict))) = absurd (none seats (rw other at strict))

same_within : (q : Question) (top : ℕ) (seats others : List ℕ) (x y : Divisors) → IsSecondWithin q top seats x →
    IsSecondWithin q top others y → y ≡ x
same_within q top seats others x y one other =
    let columns : other.columns ≡ one.columns = same_greatest q top one.columns other.columns one.greatest other.greatest in
    same_middle q (top / 1000000) one.columns x y one.middle (rw columns at other.middle)

-- the same seats cannot have a middle within a top and have none
not_both : (q : Question) (top most : ℕ) (seats others : List ℕ) (x y : Divisors) → IsSecondWithin q top seats x →
    ((z : Divisors) → ¬ IsSecondWithin q top others z) → IsSecondWithin q most others y → ⊥
not_both q top most seats others x y one none other =
    let same : others ≡ seats = only_seats q x y seats others one.strict (weakened q y others other.strict) in
    none x (rw (← same) at one)

same_second : (q : Question) (x y : Divisors) → IsSecond q x → IsSecond q y → y ≡ x
same_second q x y (seats, inl one) (others, inl other) = same_within q (10 ^ 9) seats others x y one other
same_second q x y (seats, inr (none, one)) (others, inr (also, other)) = same_within q (10 ^ 12) seats others x y one other
same_second q x y (seats, inl one) (others, inr (none, other)) = absurd (not_both q (10 ^ 9) (10 ^ 12) seats others x y one none other)
same_second q x y (seats, inr (none, one)) (others, inl other) = absurd (not_both q (10 ^ 9) (10 ^ 12) others seats y x other none one)

none_reached : (q : Question) (x : Divisors) (seats : List ℕ) → IsReached q x → NoneBefore q 2001 → ¬ IsStrict q x seats
none_reached q x seats reached none strict = (none reached.half_steps (omega (arith, reached.few))).none seats (rw (← reached.divisors) strict)

same_matrix : (q : Question) (one other : SeatMatrix) → other.divisors ≡ one.divisors → IsStrict q one.divisors one.seats →
    IsStrict q other.divisors other.seats → other ≡ one
same_matrix q one other divisors S T =
    let seats : other.seats ≡ one.seats
    = only_seats q one.divisors other.divisors one.seats other.seats S (weakened q other.divisors other.seats T) in
    ap (λ x. record { seats = other.seats; divisors = x }) divisors ∙ ap (λ s. record { seats = s; divisors = one.divisors }) seats

-- the divisors of the decision
same_readable : (q : Question) (seats rows columns : List ℕ) (x y : Divisors) → IsMadeReadable q seats rows columns x →
    IsMadeReadable q seats rows columns y → y ≡ x
same_readable q seats rows columns x y (inl one) (inl other) = same_middle q 1000000 columns x y one.0 other.0
same_readable q seats rows columns x y (inr one) (inr other) = other.0 ∙ sym one.0
same_readable q seats rows columns x y (inl one) (inr other) = absurd (other.1 x one.0 one.1)
same_readable q seats rows columns x y (inr one) (inl other) = absurd (one.1 y other.0 other.1)

same_third : (q : Question) (x y : Divisors) → IsThird q x → IsThird q y → y ≡ x
same_third q x y one other =
    let seats : other.seats ≡ one.seats
    = only_seats q (millionths one.rows one.columns) (millionths other.rows other.columns) one.seats other.seats one.give.strict
    (weakened q (millionths other.rows other.columns) other.seats other.give.strict) in
    let give : GiveWithin q other.rows other.columns one.seats
    = subst (λ (s : List ℕ). GiveWithin q other.rows other.columns s) seats other.give in
    let rows : other.rows ≡ one.rows = only-rows q one.rows one.columns other.rows other.columns one.seats one.give give in
    let columns : other.columns ≡ one.columns = only-columns q one.rows one.columns other.rows other.columns one.seats one.give give in
    same_readable q one.seats one.rows one.columns x y one.readable (rw (seats, rows, columns) at other.readable)

same_later : (q : Question) (x y : Divisors) → IsSecondOrThird q x → IsSecondOrThird q y → y ≡ x
same_later q x y (inl one) (inl other) = same_second q x y one other
same_later q x y (inr one) (inr other) = same_third q x y one.1 other.1
same_later q x y (inl one) (inr other) = absurd (other.0 x one)
same_later q x y (inr one) (inl other) = absurd (one.0 y other)

shown_matrix : (q : Question) (one other : SeatMatrix) → IsStrict q one.divisors one.seats → IsStrict q other.divisors other.seats →
    IsShown q one.divisors → IsShown q other.divisors → other ≡ one
shown_matrix q one other S T (inl reached) (inl also) = only_matrix q one other reached S also T
shown_matrix q one other S T (inl reached) (inr (none, later)) = absurd (none_reached q one.divisors one.seats reached none S)
shown_matrix q one other S T (inr (none, later)) (inl reached) = absurd (none_reached q other.divisors other.seats reached none T)
shown_matrix q one other S T (inr (none, later)) (inr (also, other_later)) =
    same_matrix q one other (same_later q one.divisors other.divisors later other_later) S T

pub only_shown : (q : Question) (one other : SeatMatrix) → IsShown q one.divisors → IsStrict q one.divisors one.seats →
    IsShown q other.divisors → IsStrict q other.divisors other.seats → other ≡ one
only_shown q one other one_shown S other_shown T = shown_matrix q one other S T one_shown other_shown
