-- Numbers read from their bytes.
use Rattle.std.proofs.Common.{◌≡◌, ◌<◌, ◌≤◌, ◌+◌, ◌-◌, ◌∙◌, ℕ, List, [], ◌∷◌, ◌++◌, length, get_or, take, drop, ap, refl, arith, inl, inr}
use Rattle.std.specs.Int.{w16, w32, w64, to_be_bytes}
use Rattle.std.proofs.lemmas.Bool.{cases_lt}
use Rattle.std.proofs.lemmas.List.{get_or-take, get_or-drop, get_or_past, length-drop, length-take, take_rest}
use Rattle.std.proofs.lemmas.Nat.{be_bytes_2, be_bytes_4, be_bytes_8}
use Rattle.byteorder.specs.Endian.{big_number}

-- the first bytes of bytes are bytes
pub first_fit : (n : ℕ) (bytes : List ℕ) → ((i : ℕ) → get_or bytes i 0 < 256) → (i : ℕ) → get_or (take n bytes) i 0 < 256
first_fit n bytes fit i = elim (cases_lt i n) [
  | inl below ↦ omega (arith, get_or-take n bytes i 0 below, fit i)
  | inr above ↦ omega (arith, get_or_past (take n bytes) i 0 (omega (arith, length-take n bytes)))
]

pub two_read : (bytes : List ℕ) (n : ℕ) → 2 ≤ length bytes → ((i : ℕ) → get_or bytes i 0 < 256) → n ≡ big_number 2 bytes → to_be_bytes w16 n ≡ take 2 bytes
two_read (a ∷ b ∷ bytes) n room fit is = be_bytes_2 (a ∷ b ∷ []) n refl (first_fit 2 (a ∷ b ∷ bytes) fit) (is ∙ omega arith)
two_read _ n room fit is = absurd (omega arith)

pub four_read : (bytes : List ℕ) (n : ℕ) → 4 ≤ length bytes → ((i : ℕ) → get_or bytes i 0 < 256) → n ≡ big_number 4 bytes → to_be_bytes w32 n ≡ take 4 bytes
four_read (a ∷ b ∷ c ∷ d ∷ bytes) n room fit is = be_bytes_4 (a ∷ b ∷ c ∷ d ∷ []) n refl (first_fit 4 (a ∷ b ∷ c ∷ d ∷ bytes) fit) (is ∙ omega arith)
four_read _ n room fit is = absurd (omega arith)

pub eight_read : (bytes : List ℕ) (n : ℕ) → 8 ≤ length bytes → ((i : ℕ) → get_or bytes i 0 < 256) → n ≡ big_number 8 bytes → to_be_bytes w64 n ≡ take 8 bytes
eight_read (a ∷ b ∷ c ∷ d ∷ e ∷ f ∷ g ∷ h ∷ bytes) n room fit is = be_bytes_8 (a ∷ b ∷ c ∷ d ∷ e ∷ f ∷ g ∷ h ∷ []) n refl (first_fit 8 (a ∷ b ∷ c ∷ d ∷ e ∷ f ∷ g ∷ h ∷ bytes) fit) (is ∙ omega arith)
eight_read _ n room fit is = absurd (omega arith)

-- eleven bytes, split into the fields of a row
eleven : (bytes : List ℕ) → length bytes ≡ 11 → take 2 bytes ++ (get_or bytes 2 0 ∷ (take 4 (drop 3 bytes) ++ take 4 (drop 7 bytes))) ≡ bytes
eleven (a ∷ b ∷ c ∷ d ∷ e ∷ f ∷ g ∷ h ∷ i ∷ j ∷ k ∷ []) whole = refl
eleven _ whole = absurd (omega arith)

-- a row read from its bytes
pub row_read : (bytes : List ℕ) (m n v : ℕ) → length bytes ≡ 11 → ((i : ℕ) → get_or bytes i 0 < 256) →
    m ≡ big_number 2 bytes → n ≡ big_number 4 (take (length bytes - 3) (drop 3 bytes)) → v ≡ big_number 4 (take (length bytes - 7) (drop 7 bytes)) →
    to_be_bytes w16 m ++ (get_or bytes 2 0 ∷ (to_be_bytes w32 n ++ to_be_bytes w32 v)) ≡ bytes
row_read bytes m n v whole fit em en ev =
    let fit3 : (i : ℕ) → get_or (drop 3 bytes) i 0 < 256 = λ i. omega (arith, get_or-drop 3 bytes i 0, fit (3 + i)) in
    let fit7 : (i : ℕ) → get_or (drop 7 bytes) i 0 < 256 = λ i. omega (arith, get_or-drop 7 bytes i 0, fit (7 + i)) in
    let room3 : 4 ≤ length (drop 3 bytes) = omega (arith, length-drop 3 bytes) in
    let room7 : 4 ≤ length (drop 7 bytes) = omega (arith, length-drop 7 bytes) in
    let municipality = two_read bytes m (omega arith) fit em in
    let number = four_read (drop 3 bytes) n room3 fit3 (en ∙ ap (big_number 4) (take_rest bytes 3)) in
    let votes = four_read (drop 7 bytes) v room7 fit7 (ev ∙ ap (big_number 4) (take_rest bytes 7)) in
    ap (λ (front : List ℕ). front ++ (get_or bytes 2 0 ∷ (to_be_bytes w32 n ++ to_be_bytes w32 v))) municipality
    ∙ ap (λ (back : List ℕ). take 2 bytes ++ (get_or bytes 2 0 ∷ (back ++ to_be_bytes w32 v))) number
    ∙ ap (λ (back : List ℕ). take 2 bytes ++ (get_or bytes 2 0 ∷ (take 4 (drop 3 bytes) ++ back))) votes
    ∙ eleven bytes whole
