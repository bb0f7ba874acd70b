-- Two counts for one set-up with the same bytes are the same count.
use Rattle.std.proofs.Common.{◌≡◌, ◌<◌, ◌≤◌, ◌+◌, ◌*◌, ◌/◌, ◌%◌, ◌∙◌, ◌⊎◌, ℕ, zero, suc, true, false, List, ◌∷◌, length}
use Rattle.std.proofs.Common.{get_or, take, drop, map, Option, Some, None, sym, ap, refl, arith, inl, inr}
use Rattle.std.specs.Prelude.{IfSome}
use Rattle.std.specs.Int.{w64, from_be_bytes}
use Rattle.std.specs.List.{flat_map, slice_index, slice_get}
use Rattle.std.specs.Cmp.{nat_cmp_total}
use Rattle.std.specs.FinMap as map_of
use Rattle.std.specs.FinSet as set_of
use Rattle.std.proofs.lemmas.Bool.{cases_lt}
use Rattle.std.proofs.lemmas.List.{get_or-drop, get_or-take}
use Rattle.std.proofs.lemmas.Option.{slice_get-get_or}
use Rattle.std.proofs.lemmas.Map.Lookups.{exact_unsigned}
use Rattle.std.proofs.lemmas.Nat.{from_be_bytes-to_be_bytes_8}
use Rattle.zh_districts.specs.Canton.{Canton, IsCanton, has_municipality, stands, constituency_of}
use Rattle.zh_returns.specs.declared.command.Format.{Format}
use Rattle.zh_returns.specs.declared.command.Format.TheVariants.{One, Two}
use Rattle.zh_returns.specs.declared.entry.Entry.{Entry}
use Rattle.zh_returns.specs.Limits.{IsTally, IsEntry, IsSaidIn}
use Rattle.zh_returns.specs.EntryBytes.{entry_spelling}
use Rattle.zh_returns.specs.Origin.{IsOriginOf}
use Rattle.zh_returns.specs.Payload.{payload_spelling, format_byte, zeros, closed_byte, numbers, table_of, IsPayload}
use Rattle.zh_returns.specs.Tables.{place_of, bit_of}
use Rattle.zh_returns.specs.Tally.{Tally, held}
use Rattle.zh_returns.proofs.BlockLemmas.{block_at}
use Rattle.zh_returns.proofs.KeyLemmas.{exact_keys, keys_total}
use Rattle.zh_returns.proofs.ClosedBytesLemmas.{closed_bit, never}
use Rattle.zh_returns.proofs.EntryBytesLemmas.{entries_wide, entry_once}
use Rattle.zh_returns.proofs.PlaceLemmas.{key_of-place_of}
use Rattle.zh_returns.proofs.TallyTableLemmas.{length-table_of, at_table_of, if_weaker}
use Rattle.zh_returns.proofs.PayloadLemmas.{parts}
use Rattle.zh_districts.proofs.CallerLemmas.{municipality_within, list_within}

-- a key that has a place in the table
record HasPlace (municipality list : ℕ) : Type 0 where
  from_one : 1 ≤ municipality
  within : municipality ≤ 512
  list_from_one : 1 ≤ list
  list_within : list ≤ 32

has_place : (municipality list : ℕ) → HasPlace municipality list ⊎ (HasPlace municipality list → ⊥)
has_place m l = elim (cases_lt 0 m) [
  | inr none_m ↦ inr (λ place. let from = place.from_one in omega arith)
  | inl one_m ↦ elim (cases_lt m 513) [
    | inr past_m ↦ inr (λ place. let within = place.within in omega arith)
    | inl in_m ↦ elim (cases_lt 0 l) [
      | inr none_l ↦ inr (λ place. let from = place.list_from_one in omega arith)
      | inl one_l ↦ elim (cases_lt l 33) [
        | inr past_l ↦ inr (λ place. let within = place.list_within in omega arith)
        | inl in_l ↦ inl (record { from_one = omega arith; within = omega arith; list_from_one = omega arith; list_within = omega arith })
      ]
    ]
  ]
]

-- nothing is held under a key without a place
nothing_outside : (canton : Canton) (m l : ℕ) (h : Option Entry) → IsCanton canton → IfSome h (λ _. stands canton (constituency_of canton m) l ≡ true) →
    IfSome h (λ _. has_municipality canton m ≡ true) → (HasPlace m l → ⊥) → h ≡ None
nothing_outside canton m l None limits list there outside = refl
nothing_outside canton m l (Some entry) limits list there outside =
    let municipality = municipality_within canton m there in
    let group = list_within canton (constituency_of canton m) l list in
    let municipalities = limits.municipalities in
    let groups = limits.groups in
    absurd (outside (record { from_one = municipality.0; within = omega arith; list_from_one = group.0; list_within = omega arith }))

none_held : (tally : Tally) (m l : ℕ) → IsTally tally → (HasPlace m l → ⊥) → held tally m l ≡ None
none_held tally m l limits outside = nothing_outside tally.canton m l (held tally m l) limits.canton (limits.lists m l) (limits.municipalities m l) outside

-- the bytes at the place of a key spell what is held under the key
spelled_at : (tally : Tally) (m l : ℕ) → HasPlace m l → take 16 (drop (16 * place_of m l) (flat_map entry_spelling (table_of tally 512))) ≡ entry_spelling (held tally m l)
spelled_at tally m l place =
    let from = place.from_one in
    let within = place.within in
    let list_from = place.list_from_one in
    let list_in = place.list_within in
    let small : place_of m l < 32 * 512 = omega arith in
    let inside : place_of m l < length (table_of tally 512) = omega (arith, length-table_of tally 512) in
    block_at entry_spelling 16 entries_wide (table_of tally 512) (place_of m l) None inside
    ∙ ap entry_spelling (at_table_of tally 512 (place_of m l) small ∙ ap (map_of.get tally.entries) (key_of-place_of m l from list_from list_in))

same_held : (a b : Tally) → IsTally a → IsTally b → flat_map entry_spelling (table_of a 512) ≡ flat_map entry_spelling (table_of b 512) → (m l : ℕ) → held a m l ≡ held b m l
same_held a b limits_a limits_b same m l = elim (has_place m l) [
  | inl place ↦
      entry_once Two (held a m l) (held b m l) (limits_a.entries m l) (limits_b.entries m l) (
      sym (spelled_at a m l place) ∙ ap (λ (all : List ℕ). take 16 (drop (16 * place_of m l) all)) same ∙ spelled_at b m l place
      )
  | inr outside ↦ none_held a m l limits_a outside ∙ sym (none_held b m l limits_b outside)
]

-- no municipality outside the table is closed
open_outside : (tally : Tally) (m : ℕ) → IsTally tally → ((1 ≤ m) × (m ≤ 512) → ⊥) → set_of.contains tally.closed m ≡ false
open_outside tally m limits outside =
    let municipalities = limits.canton.municipalities in
    never (set_of.contains tally.closed m) (λ is. let there = municipality_within tally.canton m (limits.closed m is) in outside (there.0, omega arith))

same_closed : (a b : Tally) → IsTally a → IsTally b → map (closed_byte a) (numbers 0 64) ≡ map (closed_byte b) (numbers 0 64) → (m : ℕ) → set_of.contains a.closed m ≡ set_of.contains b.closed m
same_closed a b limits_a limits_b same zero = open_outside a 0 limits_a (λ is. omega arith) ∙ sym (open_outside b 0 limits_b (λ is. omega arith))
same_closed a b limits_a limits_b same (suc m) =
    let next : m + 1 ≡ suc m = omega arith in
    elim (cases_lt m 512) [
      | inl inside ↦
          ap (set_of.contains a.closed) (sym next) ∙ sym (closed_bit a 64 m (omega arith))
          ∙ ap (λ (bytes : List ℕ). bit_of (slice_index bytes (m / 8)) (m % 8)) same
          ∙ closed_bit b 64 m (omega arith) ∙ ap (set_of.contains b.closed) next
      | inr outside ↦ open_outside a (suc m) limits_a (λ is. omega arith) ∙ sym (open_outside b (suc m) limits_b (λ is. omega arith))
    ]

-- the bytes of different formats are different
pub format_once : (f g : Format) → (format_byte f ∷ zeros 174) ≡ (format_byte g ∷ zeros 174) → f ≡ g
format_once One One same = refl
format_once One Two same = absurd (let first = ap (λ (bytes : List ℕ). get_or bytes 0 0) same in omega arith)
format_once Two One same = absurd (let first = ap (λ (bytes : List ℕ). get_or bytes 0 0) same in omega arith)
format_once Two Two same = refl

pub one_format : (f g : Format) (a b : Tally) → payload_spelling f a ≡ payload_spelling g b → f ≡ g
one_format f g a b same = format_once f g (sym (parts f a (payload_spelling g b) same).says ∙ (parts g b (payload_spelling g b) refl).says)

-- byte 72 says the format
pub format_at : (format : Format) (tally : Tally) → slice_get (payload_spelling format tally) 72 ≡ Some (format_byte format)
format_at format tally =
    let bytes : List ℕ = payload_spelling format tally in
    let p = parts format tally bytes refl in
    let byte : get_or bytes 72 0 ≡ format_byte format =
    sym (get_or-drop 64 (drop 8 bytes) 0 0 ∙ get_or-drop 8 bytes 64 0) ∙ sym (get_or-take 175 (drop 64 (drop 8 bytes)) 0 0 (omega arith)) ∙ ap (λ (b : List ℕ). get_or b 0 0) p.says
    in
    slice_get-get_or bytes 72 0 (omega (arith, p.whole)) ∙ ap Some byte

pub tally_once : (f g : Format) (a b : Tally) → IsTally a → IsTally b → a.canton ≡ b.canton → payload_spelling f a ≡ payload_spelling g b → a ≡ b
tally_once f g a b limits_a limits_b canton same =
    let of_a = parts f a (payload_spelling g b) same in
    let of_b = parts g b (payload_spelling g b) refl in
    let entries : a.entries ≡ b.entries = map_of.same_map keys_total exact_keys a.entries b.entries (λ key. same_held a b limits_a limits_b (sym of_a.entries ∙ of_b.entries) key.0 key.1) in
    let closed : a.closed ≡ b.closed = set_of.same_set nat_cmp_total exact_unsigned a.closed b.closed (same_closed a b limits_a limits_b (sym of_a.closed ∙ of_b.closed)) in
    let accepted : a.accepted ≡ b.accepted =
    sym (from_be_bytes-to_be_bytes_8 a.accepted limits_a.accepted) ∙ ap (λ (bytes : List ℕ). from_be_bytes w64 (take 8 bytes)) same
    ∙ from_be_bytes-to_be_bytes_8 b.accepted limits_b.accepted
    in
    λ i. record { canton = canton i; entries = entries i; closed = closed i; accepted = accepted i }

-- format Two can name the origins of every count within its limits
pub said_in_two : (tally : Tally) → IsTally tally → IsSaidIn Two tally
said_in_two tally limits m l = if_weaker IsEntry (λ entry. IsOriginOf Two entry.origin) (held tally m l) (λ entry is. is.origin) (limits.entries m l)

byte_once : (f g : Format) → format_byte f ≡ format_byte g → f ≡ g
byte_once One One same = refl
byte_once One Two same = absurd (omega arith)
byte_once Two One same = absurd (omega arith)
byte_once Two Two same = refl

some_once : (m n : ℕ) → Some m ≡ Some n → m ≡ n
some_once m n same = cc

-- the bytes of a count say its format
pub format_said : (f g : Format) (tally : Tally) (bytes : List ℕ) → IsPayload f tally bytes → slice_get bytes 72 ≡ Some (format_byte g) → f ≡ g
format_said f g tally bytes payload says =
    byte_once f g (some_once (format_byte f) (format_byte g) (sym (format_at f tally) ∙ ap (λ (b : List ℕ). slice_get b 72) payload.spelling ∙ says))
