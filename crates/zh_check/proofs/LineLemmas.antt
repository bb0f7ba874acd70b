-- Where a byte is found.
use Rattle.std.proofs.Common.{◌≡◌, ℕ, ◌≤◌, Bool, cond, List, length, Some, None, sym, ap, ◌∙◌, ltb-false}
use Rattle.std.specs.Prelude.{nat_lt, position}
use Rattle.std.specs.List.{position_or_len}
use Rattle.std.proofs.lemmas.Bool.{false_from_ne_true}
use Rattle.std.proofs.lemmas.Option.{cond_some}

pub found_at : {X : Type 0} (p : X → Bool) (xs : List X) (k : ℕ) → position p xs ≡ Some k → position_or_len p xs ≡ k
found_at p xs k e = (cond_some (nat_lt (position_or_len p xs) (length xs)) (position_or_len p xs) k e).1

pub not_found : {X : Type 0} (p : X → Bool) (xs : List X) → position p xs ≡ None → length xs ≤ position_or_len p xs
not_found p xs e =
    ltb-false (position_or_len p xs) (length xs) (false_from_ne_true (nat_lt (position_or_len p xs) (length xs)) (λ is.
    let some : Some (position_or_len p xs) ≡ None = ap (λ b. cond b (Some (position_or_len p xs)) None) (sym is) ∙ e in
    absurd (cc)))
