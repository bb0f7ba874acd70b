-- Numbers of at most 64 bits, digit by digit.
use Rattle.std.proofs.Common.{◌≡◌, ℕ, ◌+◌, ◌-◌, ◌*◌, true, false, cond, List, [], ◌∷◌, ◌++◌, refl}
use Rattle.std.specs.Char.{is_ascii_digit}
use Rattle.zh_check.specs.Lines.{digits_after}

pub after_append : (xs ys : List ℕ) (n : ℕ) → digits_after n (xs ++ ys) ≡ digits_after (digits_after n xs) ys
after_append [] ys n = refl
after_append (x ∷ xs) ys n =
    elim (is_ascii_digit x) as (λ b. cond b (digits_after (n * 10 + (x - 48)) (xs ++ ys)) (digits_after n (xs ++ ys))
    ≡ digits_after (cond b (digits_after (n * 10 + (x - 48)) xs) (digits_after n xs)) ys) [
      | true ↦ after_append xs ys (n * 10 + (x - 48))
      | false ↦ after_append xs ys n
    ]
