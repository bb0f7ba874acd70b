-- Bytes that are appended to a text.
use Rattle.std.proofs.Common.{◌≡◌, ◌++◌, ℕ, List, Result, Ok, Err, OnOk, if◌then◌else◌, is_ok, ap, ◌∙◌, append_assoc}

-- one part is appended, then another unless an error stops it
pub put_after : {E : Type 0} (result : Result (Unit {0}) E) (old mid new a b : List ℕ) → mid ≡ old ++ a
    → new ≡ (if is_ok result then mid ++ b else mid) → OnOk result (new ≡ old ++ (a ++ b))
put_after (Ok done) old mid new a b one other = other ∙ (ap (λ t. t ++ b) one ∙ append_assoc old a b)
put_after (Err fault) old mid new a b one other = tt

-- the same without errors
pub put_more : (old mid new a b : List ℕ) → mid ≡ old ++ a → new ≡ mid ++ b → new ≡ old ++ (a ++ b)
put_more old mid new a b one other = other ∙ (ap (λ t. t ++ b) one ∙ append_assoc old a b)
