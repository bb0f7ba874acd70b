-- The bytes of the closed municipalities.
use Rattle.std.proofs.Common.{◌≡◌, ◌<◌, ◌≤◌, ◌+◌, ◌-◌, ◌*◌, ◌/◌, ◌%◌, ◌^◌, ◌∙◌, ℕ, zero, suc, Bool, true, false, not, List, [], ◌∷◌, length, get_or, take, drop, map, sym, ap, refl, arith, inl, inr}
use Rattle.std.specs.List.{slice_index, list_all}
use Rattle.std.specs.FinSet as set_of
use Rattle.std.proofs.lemmas.Bool.{false≢true, cases_lt}
use Rattle.std.proofs.lemmas.List.{ext_get_or, length-map, get_or-map, get_or-take, get_or-drop, get_or_past, length-take, length-drop}
use Rattle.zh_returns.specs.Limits.{IsTally}
use Rattle.zh_districts.specs.Spelling.{mask_of}
use Rattle.zh_returns.specs.Payload.{numbers, closed_byte}
use Rattle.zh_returns.specs.Tables.{bit_of, closed_of}
use Rattle.zh_returns.specs.Tally.{Tally}
use Rattle.zh_returns.proofs.BitLemmas.{bit_of-mask_of, mask_of-bits}
use Rattle.zh_returns.proofs.FlagLemmas.{contains-closed_of}
use Rattle.zh_returns.proofs.NumbersLemmas.{length-numbers, get_or-numbers, get_or-count}
use Rattle.zh_districts.proofs.CallerLemmas.{municipality_within}

-- whether each of these municipalities is closed
get_or-closed : (closed : ℕ → Bool) (first n k : ℕ) → k < n → get_or (map closed (numbers first n)) k false ≡ closed (first + k)
get_or-closed closed first n k within =
    let inside : k < length (numbers first n) = omega (arith, length-numbers first n) in
    get_or-map closed (numbers first n) k 0 false inside ∙ ap closed (get_or-numbers first n k 0 within)

length-closed : (closed : ℕ → Bool) (first n : ℕ) → length (map closed (numbers first n)) ≡ n
length-closed closed first n = length-map (numbers first n) closed ∙ length-numbers first n

-- consecutive flags say whether consecutive municipalities are closed
flags_in_row : (flags : List Bool) (m n : ℕ) → m + n ≤ length flags → take n (drop m flags) ≡ map (set_of.contains (closed_of flags)) (numbers (m + 1) n)
flags_in_row flags m n room =
    let len : length (take n (drop m flags)) ≡ n = omega (arith, length-take n (drop m flags), length-drop m flags) in
    ext_get_or false _ _ (len ∙ sym (length-closed (set_of.contains (closed_of flags)) (m + 1) n)) (λ k within.
    let inside : k < n = omega arith in
    let number : m + k ≡ (m + 1 + k) - 1 = omega arith in
    get_or-take n (drop m flags) k false inside ∙ get_or-drop m flags k false
    ∙ ap (λ (i : ℕ). get_or flags i false) number
    ∙ sym (contains-closed_of flags (m + 1 + k) (omega arith))
    ∙ sym (get_or-closed (set_of.contains (closed_of flags)) (m + 1) n k inside)
    )

-- bytes that contain eight flags each are those of the closed municipalities
pub packed : (flags : List Bool) (bytes : List ℕ) (tally : Tally) → tally.closed ≡ closed_of flags → length flags ≡ 8 * length bytes →
    ((byte : ℕ) → byte < length bytes → slice_index bytes byte ≡ mask_of (take 8 (drop (8 * byte) flags))) → bytes ≡ map (closed_byte tally) (numbers 0 (length bytes))
packed flags bytes tally closed whole each =
    let n = length bytes in
    ext_get_or 0 _ _ (sym (length-map (numbers 0 n) (closed_byte tally) ∙ length-numbers 0 n)) (λ k within.
    let inside : k < length (numbers 0 n) = omega (arith, length-numbers 0 n) in
    let room : 8 * k + 8 ≤ length flags = omega arith in
    each k within
    ∙ ap mask_of (flags_in_row flags (8 * k) 8 room)
    ∙ ap (λ c. mask_of (map (set_of.contains c) (numbers (8 * k + 1) 8))) (sym closed)
    ∙ ap (closed_byte tally) (sym (get_or-count n k 0 within))
    ∙ sym (get_or-map (closed_byte tally) (numbers 0 n) k 0 0 inside)
    )

-- if flags are the bits of bytes, eight flags each make these bytes again
pub unpacked : (flags : List Bool) (bytes : List ℕ) → length flags ≡ 8 * length bytes → ((i : ℕ) → get_or bytes i 0 < 256) →
    ((place : ℕ) → place < length flags → get_or flags place false ≡ bit_of (slice_index bytes (place / 8)) (place % 8)) →
    (byte : ℕ) → byte < length bytes → slice_index bytes byte ≡ mask_of (take 8 (drop (8 * byte) flags))
unpacked flags bytes whole fit each byte within =
    let len : length (take 8 (drop (8 * byte) flags)) ≡ 8 = omega (arith, length-take 8 (drop (8 * byte) flags), length-drop (8 * byte) flags) in
    let small : slice_index bytes byte < 2 ^ length (take 8 (drop (8 * byte) flags)) = rw len (fit byte) in
    sym (mask_of-bits (take 8 (drop (8 * byte) flags)) (slice_index bytes byte) small (λ k below.
    let inside : k < 8 = omega arith in
    let at : (8 * byte + k) / 8 ≡ byte = omega arith in
    let bit : (8 * byte + k) % 8 ≡ k = omega arith in
    get_or-take 8 (drop (8 * byte) flags) k false inside ∙ get_or-drop (8 * byte) flags k false
    ∙ each (8 * byte + k) (omega arith)
    ∙ ap (λ (i : ℕ). bit_of (slice_index bytes i) ((8 * byte + k) % 8)) at
    ∙ ap (λ (i : ℕ). bit_of (slice_index bytes byte) i) bit
    ))

-- a bit of the bytes of a count says whether the municipality is closed
pub closed_bit : (tally : Tally) (n place : ℕ) → place < 8 * n → bit_of (slice_index (map (closed_byte tally) (numbers 0 n)) (place / 8)) (place % 8) ≡ set_of.contains tally.closed (place + 1)
closed_bit tally n place within =
    let byte = place / 8 in
    let small : byte < n = omega arith in
    let inside : byte < length (numbers 0 n) = omega (arith, length-numbers 0 n) in
    let here : 8 * byte + 1 + place % 8 ≡ place + 1 = omega arith in
    ap (λ (b : ℕ). bit_of b (place % 8)) (get_or-map (closed_byte tally) (numbers 0 n) byte 0 0 inside ∙ ap (closed_byte tally) (get_or-count n byte 0 small))
    ∙ bit_of-mask_of (map (set_of.contains tally.closed) (numbers (8 * byte + 1) 8)) (place % 8)
    ∙ get_or-closed (set_of.contains tally.closed) (8 * byte + 1) 8 (place % 8) (omega arith)
    ∙ ap (set_of.contains tally.closed) here

-- no flag is set if and only if the test says so
none_set-all : (flags : List Bool) → ((k : ℕ) → get_or flags k false ≡ false) → list_all not flags ≡ true
none_set-all [] each = refl
none_set-all (true ∷ flags) each = absurd (false≢true (sym (each 0)))
none_set-all (false ∷ flags) each = none_set-all flags (λ k. each (suc k))

pub none_set-at : (flags : List Bool) (k : ℕ) → list_all not flags ≡ true → get_or flags k false ≡ false
none_set-at [] k all = refl
none_set-at (true ∷ flags) k all = absurd (false≢true all)
none_set-at (false ∷ flags) zero all = refl
none_set-at (false ∷ flags) (suc k) all = none_set-at flags k all

pub never : (b : Bool) → (b ≡ true → ⊥) → b ≡ false
never true not_so = absurd (not_so refl)
never false not_so = refl

-- in the bytes of a count, no bit above the last municipality is set
pub none_above : (tally : Tally) (flags : List Bool) (n : ℕ) → IsTally tally → length flags ≡ 8 * n →
    ((place : ℕ) → place < length flags → get_or flags place false ≡ bit_of (slice_index (map (closed_byte tally) (numbers 0 n)) (place / 8)) (place % 8)) →
    list_all not (drop (length tally.canton.municipalities) flags) ≡ true
none_above tally flags n limits whole each =
    let last = length tally.canton.municipalities in
    none_set-all (drop last flags) (λ k. get_or-drop last flags k false ∙ above (last + k) (omega arith))
  where
    above : (place : ℕ) → length tally.canton.municipalities ≤ place → get_or flags place false ≡ false
    above place beyond = elim (cases_lt place (length flags)) [
      | inl inside ↦
          each place inside ∙ closed_bit tally n place (omega arith)
          ∙ never (set_of.contains tally.closed (place + 1)) (λ is. let there = municipality_within tally.canton (place + 1) (limits.closed (place + 1) is) in omega arith)
      | inr outside ↦ get_or_past flags place false outside
    ]
