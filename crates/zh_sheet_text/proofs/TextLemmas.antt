-- Text that is put together piece by piece.
use Rattle.std.proofs.Common.{◌≡◌, ℕ, List, ◌++◌, Result, Ok, Err, OnOk, ap, ◌∙◌, append_assoc}

-- one last piece is appended, unless an error stops it
pub put_last : {T E : Type 0} (result : Result T E) (before old new pieces last : List ℕ) → old ≡ before ++ pieces → OnOk result (new ≡ old ++ last) → OnOk result (new ≡ before ++ (pieces ++ last))
put_last (Ok value) before old new pieces last h k = k ∙ ap (λ (l : List ℕ). l ++ last) h ∙ append_assoc before pieces last
put_last (Err error) before old new pieces last h k = tt

-- three pieces are appended
pub put_three : (before one two new a b c : List ℕ) → one ≡ before ++ a → two ≡ one ++ b → new ≡ two ++ c → new ≡ before ++ (a ++ b ++ c)
put_three before one two new a b c first second third =
    third
    ∙ (ap (λ (l : List ℕ). l ++ c) (second ∙ (ap (λ (l : List ℕ). l ++ b) first ∙ append_assoc before a b)) ∙ append_assoc before (a ++ b) c)
