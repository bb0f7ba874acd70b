-- The only matrix that the search reaches.
use Rattle.std.proofs.Common.{◌≡◌, ap, ◌∙◌}
use Rattle.zh_lower.specs.Outcomes.{IsReached}
use Rattle.zh_matrices.specs.Question.{Question}
use Rattle.zh_matrices.specs.SeatMatrix.{IsStrict, SeatMatrix}
use Rattle.zh_matrices.proofs.CallerLemmas.{only_seats, weakened}
use Rattle.zh_lower.proofs.StateLemmas.{same-reached}

-- of all divisors that the search reaches, only one set gives seats, and it gives only one matrix
pub only_matrix : (q : Question) (one other : SeatMatrix) → IsReached q one.divisors → IsStrict q one.divisors one.seats →
    IsReached q other.divisors → IsStrict q other.divisors other.seats → other ≡ one
only_matrix q one other one_reached S other_reached T =
    let divisors : other.divisors ≡ one.divisors
    = same-reached q one.divisors other.divisors one.seats other.seats one_reached S other_reached T in
    let seats : other.seats ≡ one.seats
    = only_seats q one.divisors other.divisors one.seats other.seats S (weakened q other.divisors other.seats T) in
    ap (λ x. record { seats = other.seats; divisors = x }) divisors ∙ ap (λ s. record { seats = s; divisors = one.divisors }) seats
