-- The names of refusals and faults, as replies and reports spell them. 32 is the space.
use Rattle.std.specs.Prelude.{◌≡◌, ◌≤◌, ℕ, List, ◌∷◌, ◌++◌, length, decimal}
use Rattle.zh_text.specs.declared.name.Name.{Name}
use Rattle.zh_text.specs.declared.name.Name.TheVariants.{Words, Number, Pair}

-- the bytes of a name
abbrev pub name_text : Name → List ℕ
name_text (Words words) = words.now
name_text (Number words number) = words.now ++ 32 ∷ decimal number
name_text (Pair words one other) = words.now ++ 32 ∷ decimal one ++ 32 ∷ decimal other

-- the words of the name have at most 14 bytes
abbrev pub HasShortWords : Name → Type 0
HasShortWords (Words words) = length words.now ≤ 14
HasShortWords (Number words number) = length words.now ≤ 14
HasShortWords (Pair words one other) = length words.now ≤ 14

-- the name is spelled by these bytes, and its words are short
abbrev pub ArePartsOf : List ℕ → Name → Type 0
ArePartsOf bytes name = (bytes ≡ name_text name) × HasShortWords name
