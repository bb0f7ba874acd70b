-- The keys of places.
use Rattle.std.proofs.Common.{◌≡◌, ◌≢◌, ◌≤◌, ◌+◌, ◌/◌, ◌%◌, ℕ, true, false, ap, refl, arith}
use Rattle.std.specs.Ordering.{eq_by_cmp}
use Rattle.zh_returns.specs.Keys.{key_cmp}
use Rattle.zh_returns.proofs.KeyLemmas.{keys_equal}
use Rattle.zh_returns.specs.Tables.{key_of, place_of}

-- different places have different keys
pub places_equal : (a b : ℕ) → key_of a ≡ key_of b → a ≡ b
places_equal a b is =
    let municipalities : a / 32 + 1 ≡ b / 32 + 1 = ap (λ (key : ℕ × ℕ). key.0) is in
    let lists : a % 32 + 1 ≡ b % 32 + 1 = ap (λ (key : ℕ × ℕ). key.1) is in
    omega arith

-- the keys of different places do not pass the test of equality
pub other_key : (a b : ℕ) → a ≢ b → eq_by_cmp key_cmp (key_of a) (key_of b) ≡ false
other_key a b ne =
    elim (eq_by_cmp key_cmp (key_of a) (key_of b)) as (λ v. eq_by_cmp key_cmp (key_of a) (key_of b) ≡ v → v ≡ false) [
      | true ↦ λ is. absurd (ne (places_equal a b (keys_equal _ _ is)))
      | false ↦ λ is. refl
    ] refl

-- the key of a key's place is the key
pub key_of-place_of : (municipality list : ℕ) → 1 ≤ municipality → 1 ≤ list → list ≤ 32 → key_of (place_of municipality list) ≡ (municipality, list)
key_of-place_of municipality list from_one list_from_one within =
    let first : place_of municipality list / 32 + 1 ≡ municipality = omega arith in
    let second : place_of municipality list % 32 + 1 ≡ list = omega arith in
    λ i. (first i, second i)
