-- The lemmas that crates above can use.
use Rattle.std.proofs.Common.{ℕ, ◌+◌, ◌*◌, ◌<◌, ◌≤◌, arith}
use Rattle.std.proofs.Math.Nat.{mul-le-mul_left, div-lt_iff_lt-mul}
use Rattle.zh_upper.specs.VoterNumbers.{voter_number}
pub use Rattle.zh_upper.proofs.RefusalLemmas.{one_upper_refusal, upper_named, upper_read_back}

-- the voter number of a list is at most its votes
pub voter_number-le : (votes seats : ℕ) → 1 ≤ seats → voter_number votes seats ≤ votes
voter_number-le votes seats seated =
    let at_least : votes * 1 ≤ votes * seats = mul-le-mul_left votes seated in
    let below : voter_number votes seats < votes + 1 = (div-lt_iff_lt-mul {k = 2 * seats} (omega arith)).1 (omega arith) in
    omega arith
