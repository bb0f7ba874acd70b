-- The words of a line, each separated from the next by one space, 32.
use Rattle.std.specs.Prelude.{◌==◌, ◌^◌, ◌<◌, ℕ, List, [], ◌∷◌, ◌++◌, decimal}
use Rattle.std.specs.List.{AllByRecursion, before_first}

-- the bytes up to the first space, or all of them
abbrev pub first_word : List ℕ → List ℕ
first_word bytes = before_first (λ byte. byte == 32) bytes

-- the numbers are below 2 ^ 32
abbrev pub AreNumerals : List ℕ → Type 0
AreNumerals numbers = AllByRecursion (λ n. n < 2 ^ 32) numbers

-- the numerals, each after a space
abbrev pub numerals : List ℕ → List ℕ
numerals [] = []
numerals (n ∷ numbers) = 32 ∷ decimal n ++ numerals numbers
