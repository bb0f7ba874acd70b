-- What is read from bytes.
use Rattle.std.specs.Prelude.{◌≡◌, ℕ, List, Option, IfSome, IfNone}

-- the result fits and has these bytes; if there is none, nothing that fits has these bytes
pub record Decodes {A : Type 0} (fits : A → Type 0) (spelling : A → List ℕ) (bytes : List ℕ) (result : Option A) : Type 0 where
  pub read : IfSome result (λ x. fits x × (spelling x ≡ bytes))
  pub refused : IfNone result ((x : A) → fits x → spelling x ≡ bytes → ⊥)
