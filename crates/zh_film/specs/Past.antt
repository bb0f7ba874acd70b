-- The values of a `Past`, a list that only clauses read.
use Rattle.std.specs.Prelude.{ℕ, List, [], ◌∷◌, length}
use Rattle.zh_film.specs.declared.past.Past.{Past}
use Rattle.zh_film.specs.declared.past.Past.TheVariants.{Start, After'}

-- the values, the latest first
abbrev pub items : {T : Type 0} → Past T → List T
items Start = []
items (After' value shape before) = value.value ∷ items before

-- the number of values
abbrev pub number : {T : Type 0} → Past T → ℕ
number past = length (items past)
