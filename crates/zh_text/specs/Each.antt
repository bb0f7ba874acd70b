-- Lists built from one part for each number.
use Rattle.std.specs.Prelude.{ℕ, List}
use Rattle.std.specs.List.{flat_map, range_with_len}

-- the lists f 1 to f n, joined in order
abbrev pub each_to : {A : Type 0} → ℕ → (ℕ → List A) → List A
each_to n f = flat_map f (range_with_len 1 n)
