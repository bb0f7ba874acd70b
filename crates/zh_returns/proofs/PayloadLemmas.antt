-- The bytes of a count, part by part.
use Rattle.std.proofs.Common.{◌≡◌, ◌<◌, ◌≤◌, ◌+◌, ◌-◌, ◌*◌, ◌^◌, ◌∙◌, ℕ, Bool, true, false, not, List, ◌∷◌, ◌++◌, length, get_or, take}
use Rattle.std.proofs.Common.{drop, map, Option, None, sym, ap, arith, rules, tests, inl, inr, length-append, append_assoc}
use Rattle.std.specs.Int.{w64, to_be_bytes}
use Rattle.std.specs.List.{flat_map, list_all}
use Rattle.std.specs.FinSet as set_of
use Rattle.std.proofs.lemmas.Bool.{false≢true, cases_lt}
use Rattle.std.proofs.lemmas.List.{take_at, drop_at, take-append-drop, length-map, get_or-drop}
use Rattle.zh_districts.specs.Canton.{Canton, IsCanton, has_municipality, stands, constituency_of}
use Rattle.zh_districts.proofs.CallerLemmas.{placed}
use Rattle.zh_returns.specs.declared.command.Format.{Format}
use Rattle.zh_returns.specs.declared.command.Format.TheVariants.{One, Two}
use Rattle.zh_returns.specs.declared.entry.Entry.{Entry}
use Rattle.zh_returns.specs.Limits.{IsTally, IsEntry, IsEntryOf, IsSaidIn}
use Rattle.zh_returns.specs.EntryBytes.{entry_spelling}
use Rattle.zh_returns.specs.Origin.{IsOriginOf}
use Rattle.zh_returns.specs.Payload.{payload_spelling, payload_length, format_byte, zeros, closed_byte, numbers, table_of}
use Rattle.zh_returns.specs.Tables.{tally_from, closed_of, key_of, IsTable, IsHeldAt}
use Rattle.zh_returns.specs.Tally.{Tally}
use Rattle.zh_returns.proofs.BlockLemmas.{length-blocks}
use Rattle.zh_returns.proofs.ClosedBytesLemmas.{none_set-at}
use Rattle.zh_returns.proofs.EntryBytesLemmas.{entries_wide}
use Rattle.zh_returns.proofs.FlagLemmas.{contains-closed_of, closed_from_one}
use Rattle.zh_returns.proofs.TallyTableLemmas.{length-table_of, each_key, if_weaker}
use Rattle.zh_returns.proofs.OriginLemmas.{origin_within}
use Rattle.zh_returns.proofs.NumbersLemmas.{length-numbers}
use Rattle.zh_returns.proofs.ZeroLemmas.{length-zeros}

-- four parts and what follows them
four_parts : (a b c d rest : List ℕ) → a ++ (b ++ (c ++ (d ++ rest))) ≡ (a ++ (b ++ (c ++ d))) ++ rest
four_parts a b c d rest =
    sym (append_assoc a (b ++ (c ++ d)) rest ∙ ap (λ (t : List ℕ). a ++ t) (append_assoc b (c ++ d) rest ∙ ap (λ (t : List ℕ). b ++ t) (append_assoc c d rest)))

-- four parts that are those of a count are its bytes
pub parts_are : (format : Format) (tally : Tally) (a b c d rest after : List ℕ) → a ≡ to_be_bytes w64 tally.accepted → b
    ≡ map (closed_byte tally) (numbers 0 64) → c ≡ (format_byte format ∷ zeros 174) →
    d ≡ flat_map entry_spelling (table_of tally 512) → rest ≡ after → a ++ (b ++ (c ++ (d ++ rest))) ≡ payload_spelling format tally ++ after
parts_are format tally a b c d rest after ea eb ec ed er =
    four_parts a b c d rest
    ∙ ap (λ (t : List ℕ). (t ++ (b ++ (c ++ d))) ++ rest) ea
    ∙ ap (λ (t : List ℕ). (to_be_bytes w64 tally.accepted ++ (t ++ (c ++ d))) ++ rest) eb
    ∙ ap (λ (t : List ℕ). (to_be_bytes w64 tally.accepted ++ (map (closed_byte tally) (numbers 0 64) ++ (t ++ d))) ++ rest) ec
    ∙ ap (λ (t : List ℕ). (to_be_bytes w64 tally.accepted ++ (map (closed_byte tally) (numbers 0 64) ++ ((format_byte format ∷ zeros 174) ++ t))) ++ rest) ed
    ∙ ap (λ (t : List ℕ). payload_spelling format tally ++ t) er

pub length-format : (format : Format) → length (format_byte format ∷ zeros 174) ≡ 175
length-format One = let e = length-zeros 174 in omega arith
length-format Two = let e = length-zeros 174 in omega arith

-- the parts of bytes that are those of a count
pub record Parts (format : Format) (tally : Tally) (bytes : List ℕ) : Type 0 where
  pub closed : take 64 (drop 8 bytes) ≡ map (closed_byte tally) (numbers 0 64)
  pub says : take 175 (drop 64 (drop 8 bytes)) ≡ (format_byte format ∷ zeros 174)
  pub entries : drop 175 (drop 64 (drop 8 bytes)) ≡ flat_map entry_spelling (table_of tally 512)
  pub whole : length bytes ≡ payload_length

pub parts : (format : Format) (tally : Tally) (bytes : List ℕ) → payload_spelling format tally ≡ bytes → Parts format tally bytes
parts format tally bytes spelled =
    let c : List ℕ = format_byte format ∷ zeros 174 in
    let b : List ℕ = map (closed_byte tally) (numbers 0 64) in
    let d : List ℕ = flat_map entry_spelling (table_of tally 512) in
    let lb : length b ≡ 64 = length-map (numbers 0 64) (closed_byte tally) ∙ length-numbers 0 64 in
    let lc = length-format format in
    let ld : length d ≡ 262144 = length-blocks entry_spelling 16 entries_wide (table_of tally 512) ∙ ap (λ (n : ℕ). 16 * n) (length-table_of tally 512) in
    let one : drop 8 bytes ≡ b ++ (c ++ d) = ap (drop 8) (sym spelled) in
    let two : drop 64 (drop 8 bytes) ≡ c ++ d = ap (drop 64) one ∙ drop_at b (c ++ d) 64 lb in
    record {
      closed = ap (take 64) one ∙ take_at b (c ++ d) 64 lb;
      says = ap (take 175) two ∙ take_at c d 175 lc;
      entries = ap (drop 175) two ∙ drop_at c d 175 lc;
      whole = ap length (sym spelled) ∙ omega (arith, length-append b (c ++ d), length-append c d);
    }

-- bytes whose parts are those of a count are the bytes of the count
pub parts_read : (format : Format) (tally : Tally) (bytes : List ℕ) → to_be_bytes w64 tally.accepted ≡ take 8 bytes → map (closed_byte tally) (numbers 0 64) ≡ take 64 (drop 8 bytes) →
    (format_byte format ∷ zeros 174) ≡ take 175 (drop 64 (drop 8 bytes)) → flat_map entry_spelling (table_of tally 512) ≡ drop 175 (drop 64 (drop 8 bytes)) → payload_spelling format tally ≡ bytes
parts_read format tally bytes ea eb ec ed =
    ap (λ (t : List ℕ). t ++ (map (closed_byte tally) (numbers 0 64) ++ ((format_byte format ∷ zeros 174) ++ flat_map entry_spelling (table_of tally 512)))) ea
    ∙ ap (λ (t : List ℕ). take 8 bytes ++ (t ++ ((format_byte format ∷ zeros 174) ++ flat_map entry_spelling (table_of tally 512)))) eb
    ∙ ap (λ (t : List ℕ). take 8 bytes ++ (take 64 (drop 8 bytes) ++ (t ++ flat_map entry_spelling (table_of tally 512)))) ec
    ∙ ap (λ (t : List ℕ). take 8 bytes ++ (take 64 (drop 8 bytes) ++ (take 175 (drop 64 (drop 8 bytes)) ++ t))) ed
    ∙ ap (λ (t : List ℕ). take 8 bytes ++ (take 64 (drop 8 bytes) ++ t)) (take-append-drop 175 (drop 64 (drop 8 bytes)))
    ∙ ap (λ (t : List ℕ). take 8 bytes ++ t) (take-append-drop 64 (drop 8 bytes))
    ∙ take-append-drop 8 bytes

-- a municipality within the set-up
is_there : (canton : Canton) (m : ℕ) → 1 ≤ m → m ≤ length canton.municipalities → has_municipality canton m ≡ true
is_there canton m from_one within = search (rules, tests)

-- an entry within the limits of a format is within those of format Two
entry_within : (format : Format) (entry : Entry) → IsEntryOf format entry → IsEntry entry
entry_within format entry is = record { origin = origin_within format entry.origin is.origin; number = is.number; votes = is.votes }

-- the count in tables within their limits is within its limits
pub tables_within : (format : Format) (canton : Canton) (table : List (Option Entry)) (flags : List Bool) (accepted : ℕ) → IsCanton canton → IsTable format canton table →
    list_all not (drop (length canton.municipalities) flags) ≡ true → accepted < 2 ^ 64 → IsTally (tally_from canton table flags accepted)
tables_within format canton table flags accepted limits held none small = record {
  canton = limits;
  entries = λ m l. each_key (λ _. IsEntry) table (λ i. if_weaker (IsHeldAt format canton (key_of i)) IsEntry (get_or table i None) (λ entry is. entry_within format entry is.limits) (held i)) (m, l);
  lists = λ m l. each_key (λ key _. stands canton (constituency_of canton key.0) key.1 ≡ true) table
      (λ i. if_weaker (IsHeldAt format canton (key_of i)) (λ _. stands canton (constituency_of canton (key_of i).0) (key_of i).1 ≡ true)
      (get_or table i None) (λ entry is. (placed canton (key_of i).0 (key_of i).1 is.place).1) (held i)) (m, l);
  municipalities = λ m l. each_key (λ key _. has_municipality canton key.0 ≡ true) table
      (λ i. if_weaker (IsHeldAt format canton (key_of i)) (λ _. has_municipality canton (key_of i).0 ≡ true) (get_or table i None)
      (λ entry is. (placed canton (key_of i).0 (key_of i).1 is.place).0) (held i)) (m, l);
  closed = λ m is. closed_there m is;
  accepted = small;
}
  where
    closed_there : (m : ℕ) → set_of.contains (closed_of flags) m ≡ true → has_municipality canton m ≡ true
    closed_there m is =
        let from_one = closed_from_one flags m is in
        let set_there : get_or flags (m - 1) false ≡ true = sym (contains-closed_of flags m from_one) ∙ is in
        let last = length canton.municipalities in
        elim (cases_lt (m - 1) last) [
          | inl inside ↦ is_there canton m from_one (omega arith)
          | inr outside ↦
              let at : last + (m - 1 - last) ≡ m - 1 = omega arith in
              absurd (false≢true (
              sym (none_set-at (drop last flags) (m - 1 - last) none) ∙ get_or-drop last flags (m - 1 - last) false
              ∙ ap (λ (i : ℕ). get_or flags i false) at ∙ set_there
              ))
        ]

-- the format can name the origins of its entries
pub tables_said : (format : Format) (canton : Canton) (table : List (Option Entry)) (flags : List Bool) (accepted : ℕ)
    → IsTable format canton table → IsSaidIn format (tally_from canton table flags accepted)
tables_said format canton table flags accepted held m l =
    each_key (λ _ entry. IsOriginOf format entry.origin) table
    (λ i. if_weaker (IsHeldAt format canton (key_of i)) (λ entry. IsOriginOf format entry.origin) (get_or table i None)
    (λ entry is. is.limits.origin) (held i)) (m, l)
