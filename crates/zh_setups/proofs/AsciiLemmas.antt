-- Texts of bytes below 128.
use Rattle.std.proofs.Common.{◌≡◌, ◌<◌, ℕ, zero, suc, true, ltb, List, [], ◌∷◌, get_or, lit<}
use Rattle.std.specs.List.{list_all}
use Rattle.std.specs.Str.{is_utf8}
use Rattle.std.proofs.lemmas.Bool.{ltb-true, and_parts}
use Rattle.std.proofs.lemmas.Str.{IsUtf8-from_ascii, is_utf8-from_IsUtf8}

below_128 : (bytes : List ℕ) → list_all (λ b. ltb b 128) bytes ≡ true → (i : ℕ) → get_or bytes i 0 < 128
below_128 [] h i = lit< tt
below_128 (b ∷ bytes) h zero = ltb-true b 128 (and_parts (ltb b 128) (list_all (λ b. ltb b 128) bytes) h).0
below_128 (b ∷ bytes) h (suc i) = below_128 bytes (and_parts (ltb b 128) (list_all (λ b. ltb b 128) bytes) h).1 i

-- are UTF-8
pub ascii : (bytes : List ℕ) → list_all (λ b. ltb b 128) bytes ≡ true → is_utf8 bytes ≡ true
ascii bytes h = is_utf8-from_IsUtf8 bytes (IsUtf8-from_ascii bytes (below_128 bytes h))
