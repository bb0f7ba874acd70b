-- From logarithms to the rounding of one cell: votes v, an odd number o of halves, the square S of the scale, and divisors R
-- and C.
use Rattle.std.proofs.Common.{◌≡◌, ℕ, ◌+◌, ◌*◌, ◌<◌, ◌≤◌, arith}
use Rattle.zh_decided.specs.Logarithms.{IsLog}
use Rattle.zh_decided.proofs.RoundingLemmas.{HasFactor}
use Rattle.zh_decided.proofs.LogLemmas.{less_by_logs, logs_in_order, nearly_less_by_logs, of_product}

pub votes-log : (v S V w : ℕ) → IsLog 0 2 (2 * v) V → IsLog 0 2 S w → IsLog 0 4 (2 * (v * S)) (V + w)
votes-log v S V w L K = let shape : 2 * v * S ≡ 2 * (v * S) = omega arith in rw shape at (of_product 0 2 0 2 (2 * v) S V w L K)

pub halves-log : (e b o R C O r c : ℕ) → IsLog 0 2 o O → IsLog e b R r → IsLog e b C c → IsLog (2 * e) (2 + 2 * b) (o * (R * C)) (O + (r + c))
halves-log e b o R C O r c L LR LC =
    let errors : 0 + (e + e) ≡ 2 * e = omega arith in
    let errors-below : 2 + (b + b) ≡ 2 + 2 * b = omega arith in
    rw (errors, errors-below) at (of_product 0 2 (e + e) (b + b) o (R * C) O (r + c) L (of_product e b e b R C r c LR LC))

-- a next seat is too expensive by the errors of the logarithms and of the rounding
pub below-upper : (e v o S R C V O w r c : ℕ) → IsLog 0 2 (2 * v) V → IsLog 0 2 S w → IsLog 0 2 o O → IsLog e 2 R r → IsLog e 2 C c →
    V + w + 4 + 2 * e ≤ O + (r + c) → 2 * (v * S) < o * (R * C)
below-upper e v o S R C V O w r c L K M LR LC le =
    less_by_logs 0 4 (2 * e) 6 (2 * (v * S)) (o * (R * C)) (V + w) (O + (r + c)) (votes-log v S V w L K) (halves-log e 2 o R C O r c M LR LC) le

-- a last seat is cheap enough
pub above-lower : (e v o S R C V O w r c : ℕ) → IsLog 0 2 (2 * v) V → IsLog 0 2 S w → IsLog 0 2 o O → IsLog e 2 R r → IsLog e 2 C c →
    O + (r + c) + 6 ≤ V + w → o * (R * C) < 2 * (v * S)
above-lower e v o S R C V O w r c L K M LR LC le =
    less_by_logs (2 * e) 6 0 4 (o * (R * C)) (2 * (v * S)) (O + (r + c)) (V + w) (halves-log e 2 o R C O r c M LR LC) (votes-log v S V w L K)
    (omega arith)

-- the same up to the factor (f + 1) / f
pub nearly-below-upper : (f s e v o S R C V O w r c : ℕ) → HasFactor f s → IsLog 0 2 (2 * v) V → IsLog 0 2 S w → IsLog 0 2 o O → IsLog e 2 R r →
    IsLog e 2 C c → V + w + 4 + 2 * e ≤ O + (r + c) + s → f * (2 * (v * S)) < (f + 1) * (o * (R * C))
nearly-below-upper f s e v o S R C V O w r c H L K M LR LC le =
    nearly_less_by_logs f s 0 4 (2 * e) 6 (2 * (v * S)) (o * (R * C)) (V + w) (O + (r + c)) H (votes-log v S V w L K)
    (halves-log e 2 o R C O r c M LR LC) le

pub nearly-above-lower : (f s e v o S R C V O w r c : ℕ) → HasFactor f s → IsLog 0 2 (2 * v) V → IsLog 0 2 S w → IsLog 0 2 o O → IsLog e 2 R r →
    IsLog e 2 C c → O + (r + c) + 6 ≤ V + w + s → f * (o * (R * C)) < (f + 1) * (2 * (v * S))
nearly-above-lower f s e v o S R C V O w r c H L K M LR LC le =
    nearly_less_by_logs f s (2 * e) 6 0 4 (o * (R * C)) (2 * (v * S)) (O + (r + c)) (V + w) H (halves-log e 2 o R C O r c M LR LC)
    (votes-log v S V w L K) (omega arith)

-- from the rounding of a cell back to logarithms; those of divisors are less than one unit too low
pub dear : (v o S R C V O w r c : ℕ) → IsLog 0 2 (2 * v) V → IsLog 0 2 S w → IsLog 0 2 o O → IsLog 0 1 R r → IsLog 0 1 C c →
    2 * (v * S) < o * (R * C) → V + w < O + (r + c) + 4
dear v o S R C V O w r c L K M LR LC lt =
    omega (
      arith,
      logs_in_order 0 4 0 4 (2 * (v * S)) (o * (R * C)) (V + w) (O + (r + c)) (votes-log v S V w L K) (halves-log 0 1 o R C O r c M LR LC) (omega arith),
    )

pub cheap : (v o S R C V O w r c : ℕ) → IsLog 0 2 (2 * v) V → IsLog 0 2 S w → IsLog 0 2 o O → IsLog 0 1 R r → IsLog 0 1 C c →
    o * (R * C) < 2 * (v * S) → O + (r + c) < V + w + 4
cheap v o S R C V O w r c L K M LR LC lt =
    omega (
      arith,
      logs_in_order 0 4 0 4 (o * (R * C)) (2 * (v * S)) (O + (r + c)) (V + w) (halves-log 0 1 o R C O r c M LR LC) (votes-log v S V w L K) (omega arith),
    )
