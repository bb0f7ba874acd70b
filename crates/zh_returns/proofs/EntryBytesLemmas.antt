-- The bytes of entries.
use Rattle.std.proofs.Common.{◌≡◌, ◌<◌, ◌≤◌, ◌+◌, ◌-◌, ◌*◌, ◌^◌, ◌∙◌, ℕ, lit<, cond, List, length, get_or, take, drop, set, Option, Some, None, sym, ap, subst, refl, arith, inl, inr}
use Rattle.std.specs.Prelude.{IfSome, is_some, unwrap_or}
use Rattle.std.specs.Int.{w32, from_be_bytes, to_be_bytes}
use Rattle.std.specs.List.{flat_map}
use Rattle.std.proofs.lemmas.Bool.{cases_lt}
use Rattle.std.proofs.lemmas.Nat.{from_be_bytes-to_be_bytes_4}
use Rattle.std.proofs.lemmas.List.{get_or-set_same, get_or-set_other}
use Rattle.zh_districts.specs.Canton.{Canton}
use Rattle.zh_returns.specs.declared.command.Format.{Format}
use Rattle.zh_returns.specs.declared.entry.Entry.{Entry}
use Rattle.zh_returns.specs.declared.entry.EntryFields.{EntryFields}
use Rattle.zh_returns.specs.EntryBytes.{entry_spelling, fields_of, fields_spelling}
use Rattle.zh_returns.specs.Limits.{IsEntryOf, most_votes}
use Rattle.zh_returns.specs.Tables.{IsHeldAt, IsTable, key_of}
use Rattle.zh_returns.proofs.BlockLemmas.{HasWidth, block_at}
use Rattle.zh_returns.proofs.OriginLemmas.{origin_once}

-- an entry takes sixteen bytes
pub entries_wide : HasWidth entry_spelling 16
unfolding entry_spelling
entries_wide = record { at = λ held. refl }

number_once : (n m : ℕ) → n < 2 ^ 32 → m < 2 ^ 32 → to_be_bytes w32 n ≡ to_be_bytes w32 m → n ≡ m
number_once n m small_n small_m same =
    sym (from_be_bytes-to_be_bytes_4 n small_n) ∙ ap (from_be_bytes w32) same ∙ from_be_bytes-to_be_bytes_4 m small_m

-- the numbers fit into four bytes
record HasRoom (fields : EntryFields) : Type 0 where
  number : fields.number < 2 ^ 32
  votes : fields.votes < 2 ^ 32

-- fields with the same bytes are the same
fields_once : (f g : EntryFields) → HasRoom f → HasRoom g → fields_spelling f ≡ fields_spelling g → f ≡ g
fields_once f g room_f room_g same =
    let state = ap (λ (bytes : List ℕ). get_or bytes 0 0) same in
    let origin = origin_once f.origin g.origin (ap (λ (bytes : List ℕ). take 3 (drop 1 bytes)) same) in
    let number = number_once f.number g.number room_f.number room_g.number (ap (λ (bytes : List ℕ). take 4 (drop 4 bytes)) same) in
    let votes = number_once f.votes g.votes room_f.votes room_g.votes (ap (λ (bytes : List ℕ). take 4 (drop 8 bytes)) same) in
    λ i. record { state = state i; origin = origin i; number = number i; votes = votes i }

abbrev state_of : Option ℕ → ℕ
state_of votes = cond (is_some votes) 1 2

-- the state and the votes determine what an entry has
votes_once : (a b : Option ℕ) → state_of a ≡ state_of b → unwrap_or a 0 ≡ unwrap_or b 0 → a ≡ b
votes_once None None state votes = refl
votes_once None (Some w) state votes = absurd (omega arith)
votes_once (Some v) None state votes = absurd (omega arith)
votes_once (Some v) (Some w) state votes = ap Some votes

no_state : (votes : Option ℕ) → 0 ≡ state_of votes → ⊥
no_state None is = omega arith
no_state (Some v) is = omega arith

held_once : (h k : Option Entry) → fields_of h ≡ fields_of k → h ≡ k
held_once None None same = refl
held_once None (Some entry) same = absurd (no_state entry.votes (ap (λ (f : EntryFields). f.state) same))
held_once (Some entry) None same = absurd (no_state entry.votes (sym (ap (λ (f : EntryFields). f.state) same)))
held_once (Some entry) (Some other) same =
    let votes = votes_once entry.votes other.votes (ap (λ (f : EntryFields). f.state) same) (ap (λ (f : EntryFields). f.votes) same) in
    λ i. Some (record { origin = (same i).origin; number = (same i).number; votes = votes i })

-- the numbers of an entry within its limits fit into four bytes
entry_room : (format : Format) (held : Option Entry) → IfSome held (IsEntryOf format) → HasRoom (fields_of held)
entry_room format None limits = record { number = lit< tt; votes = lit< tt }
entry_room format (Some entry) limits = record { number = limits.number.1; votes = small entry.votes limits.votes }
  where
    small : (votes : Option ℕ) → IfSome votes (λ v. v ≤ most_votes) → unwrap_or votes 0 < 2 ^ 32
    small None few = omega arith
    small (Some v) few = omega arith

-- so entries within their limits with the same bytes are the same
pub entry_once : (format : Format) (h k : Option Entry) → IfSome h (IsEntryOf format) → IfSome k (IsEntryOf format) → entry_spelling h ≡ entry_spelling k → h ≡ k
unfolding entry_spelling
entry_once format h k limits_h limits_k same =
    held_once h k (fields_once (fields_of h) (fields_of k) (entry_room format h limits_h) (entry_room format k limits_k) same)

-- what is held at the places so far, and at one more
pub held_more : (format : Format) (canton : Canton) (table : List (Option Entry)) (i : ℕ) (held : Option Entry) → i < length table → IfSome held (IsHeldAt format canton (key_of i)) →
    ((k : ℕ) → k < i → IfSome (get_or table k None) (IsHeldAt format canton (key_of k))) → (k : ℕ) → k < i + 1 → IfSome (get_or (set table i held) k None) (IsHeldAt format canton (key_of k))
held_more format canton table i held within here before k small = elim (cases_lt k i) [
  | inl below ↦ subst (λ h. IfSome h (IsHeldAt format canton (key_of k))) (sym (get_or-set_other table i k held None (omega arith))) (before k below)
  | inr at ↦
      let e : i ≡ k = omega arith in
      subst (λ j. IfSome (get_or (set table i held) j None) (IsHeldAt format canton (key_of j))) e (
      subst (λ h. IfSome h (IsHeldAt format canton (key_of i))) (sym (get_or-set_same table i held None within)) here
      )
]

-- if the bytes at one place are not those of an entry there, the table has other bytes
pub place_refused : (format : Format) (canton : Canton) (bytes : List ℕ) (other : List (Option Entry)) (i : ℕ) → i < length other
    → IsTable format canton other → flat_map entry_spelling other ≡ bytes →
    ((held : Option Entry) → IfSome held (IsHeldAt format canton (key_of i)) → entry_spelling held ≡ take (16 * i + 16 - 16 * i) (drop (16 * i) bytes) → ⊥) → ⊥
place_refused format canton bytes other i within limits spelled refused =
    let width : 16 ≡ 16 * i + 16 - 16 * i = omega arith in
    refused (get_or other i None) (limits i) (
    sym (block_at entry_spelling 16 entries_wide other i None within) ∙ ap (λ (all : List ℕ). take 16 (drop (16 * i) all)) spelled
    ∙ ap (λ (n : ℕ). take n (drop (16 * i) bytes)) width
    )
