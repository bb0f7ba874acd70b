use Rattle.std.proofs.Common.{◌≡◌, ◌<◌, ◌≤◌, ◌+◌, ◌*◌, ◌/◌, ◌%◌, ◌∙◌, ℕ, List, true, not, length, get_or, drop, take, map, ap, sym, subst, arith, refl}
use Rattle.std.specs.List.{list_all, flat_map, slice_index}
use Rattle.std.proofs.lemmas.Bool.{false≢true}
use Rattle.std.proofs.lemmas.List.{take_rest, take_all, length-take, get_or-drop}
use Rattle.zh_districts.specs.Canton.{Canton}
use Rattle.zh_returns.specs.EntryBytes.{entry_spelling}
use Rattle.zh_returns.specs.Payload.{table_of, closed_byte, numbers}
use Rattle.zh_returns.specs.Tables.{IsTable, tally_from, bit_of}
use Rattle.zh_returns.proofs.ClosedBytesLemmas.{none_above, packed, unpacked}
use Rattle.zh_returns.proofs.OnePayloadLemmas.{format_once}
use Rattle.zh_returns.proofs.TallyTableLemmas.{table_within, length-table_of, table_is}
use Rattle.zh_returns.proofs.NumeralLemmas.{eight_read, first_fit}
use Rattle.zh_returns.proofs.PayloadLemmas.{parts, parts_read, tables_within, tables_said}
use Rattle.zh_returns.proofs.payload.read_tables.Goals as goal
use Rattle.zh_returns.proofs.payload.read_tables.Goals.{then-not-none_set-via-then-not-none_set, then-not-none_set-via-else-not-none_set+then-not-read_entries}

pub returns-then-bytes-ne-PAYLOAD_LENGTH-clause-refused :
    goal.returns-then-bytes-ne-PAYLOAD_LENGTH-clause-refused
returns-then-bytes-ne-PAYLOAD_LENGTH-clause-refused c = λ format tally canton limits payload.
    c.if-bytes-ne-PAYLOAD_LENGTH.true ((parts format tally c.args.bytes.now payload.spelling).whole)

pub returns-in_default-clause-refused : goal.returns-in_default-clause-refused
returns-in_default-clause-refused c = λ format tally canton limits payload.
    c.in_default.ensures.refused format (
    sym (c.split_at-3.ensures.front ∙ ap (take 175) (c.split_at-2.ensures.back ∙ ap (drop 64) c.split_at.ensures.back) ∙ (parts format tally c.args.bytes.now payload.spelling).says)
    )

pub returns-then-not-none_set-clause-refused : goal.returns-then-not-none_set-clause-refused
returns-then-not-none_set-clause-refused c = λ format tally canton limits payload.
    let p = parts format tally c.args.bytes.now payload.spelling in
    let first = c.split_at.ensures.back in
    elim c.then-not-none_set.branch [
      | then-not-none_set-via-then-not-none_set w ↦
          let flags = c.read_flags.new.flags in
          let closed : c.split_at-2.result.0.now ≡ map (closed_byte tally) (numbers 0 64) = c.split_at-2.ensures.front ∙ ap (take 64) first ∙ p.closed in
          let whole : length flags ≡ 8 * 64 = c.read_flags.ensures.length ∙ c.requires.closed in
          let last : length tally.canton.municipalities ≡ c.municipalities-municipalities.result =
          ap (λ (s : Canton). length s.municipalities) canton ∙ sym c.municipalities-municipalities.ensures.count in
          let none = none_above tally flags 64 limits whole (λ place within.
          c.read_flags.ensures.flags place (omega (arith, c.read_flags.ensures.length)) ∙ ap (λ (b : List ℕ). bit_of (slice_index b (place / 8)) (place % 8)) closed
          ) in
          absurd (false≢true (
          sym w.if-not-none_set.true ∙ c.none_set.ensures ∙ ap (list_all not) (take_rest flags c.municipalities-municipalities.result)
          ∙ ap (λ (n : ℕ). list_all not (drop n flags)) (sym last) ∙ none
          ))
      | then-not-none_set-via-else-not-none_set+then-not-read_entries w ↦
          let one_format : c.in-Some.format ≡ format = format_once c.in-Some.format format (
          c.in-Some.ensures.read ∙ c.split_at-3.ensures.front ∙ ap (take 175) (c.split_at-2.ensures.back ∙ ap (drop 64) first) ∙ p.says
          ) in
          w.read_entries.ensures.refused w.if-not-read_entries.true (table_of tally 512)
          (length-table_of tally 512 ∙ sym c.requires.entries)
          (subst (λ f. IsTable f c.args.setup.now (table_of tally 512)) (sym one_format)
          (subst (λ s. IsTable format s (table_of tally 512)) canton (table_within format tally 512 limits payload.said)))
          (sym p.entries ∙ sym (c.split_at-3.ensures.back ∙ ap (drop 175) (c.split_at-2.ensures.back ∙ ap (drop 64) first)))
    ]

pub returns-clause-limits : goal.returns-clause-limits
returns-clause-limits c =
    let flags = c.read_flags.new.flags in
    let canton = c.args.setup.now in
    let none : list_all not (drop (length canton.municipalities) flags) ≡ true =
    ap (λ (n : ℕ). list_all not (drop n flags)) (sym c.municipalities-municipalities.ensures.count) ∙ ap (list_all not) (sym (take_rest flags c.municipalities-municipalities.result))
    ∙ sym c.none_set.ensures ∙ c.if-not-none_set.false in
    tables_within c.in-Some.format canton c.read_entries.new.table flags c.read_u64.result c.municipalities-municipalities.ensures.limits
    (c.read_entries.ensures.read c.if-not-read_entries.false).1 none (omega (arith, c.read_u64.type_inv))

pub returns-clause-read : goal.returns-clause-read
returns-clause-read c =
    let bytes = c.args.bytes.now in
    let format = c.in-Some.format in
    let flags = c.read_flags.new.flags in
    let table = c.read_entries.new.table in
    let canton = c.args.setup.now in
    let tally = tally_from canton table flags c.read_u64.result in
    let room : 8 ≤ length bytes = omega (arith, c.if-bytes-ne-PAYLOAD_LENGTH.false) in
    let fit : (i : ℕ) → get_or bytes i 0 < 256 = λ i. omega (arith, c.type_inv.bytes i) in
    let first_fits : (i : ℕ) → get_or c.split_at.result.0.now i 0 < 256 = subst (λ (b : List ℕ). (i : ℕ) → get_or b i 0 < 256) (sym c.split_at.ensures.front) (first_fit 8 bytes fit) in
    let accepted = eight_read c.split_at.result.0.now c.read_u64.result (omega (arith, c.split_at.ensures.front_len)) first_fits c.read_u64.ensures in
    let flag_bytes = c.split_at-2.result.0.now in
    let flag_bytes_are : flag_bytes ≡ take 64 (drop 8 bytes) = c.split_at-2.ensures.front ∙ ap (take 64) c.split_at.ensures.back in
    let flag_bytes_fit : (i : ℕ) → get_or flag_bytes i 0 < 256 =
    subst (λ (b : List ℕ). (i : ℕ) → get_or b i 0 < 256) (sym flag_bytes_are) (first_fit 64 (drop 8 bytes) (λ i. omega (arith, get_or-drop 8 bytes i 0, fit (8 + i)))) in
    let flag_count : length flag_bytes ≡ 64 = c.split_at-2.ensures.front_len in
    let whole : length flags ≡ 8 * length flag_bytes = c.read_flags.ensures.length ∙ c.requires.closed ∙ ap (λ (n : ℕ). 8 * n) (sym flag_count) in
    let flags_are = packed flags flag_bytes tally refl whole
    (unpacked flags flag_bytes whole flag_bytes_fit
    (λ place within. c.read_flags.ensures.flags place (omega (arith, c.read_flags.ensures.length)))) in
    let says_are : c.split_at-3.result.0.now ≡ take 175 (drop 64 (drop 8 bytes)) = c.split_at-3.ensures.front ∙ ap (take 175) (c.split_at-2.ensures.back ∙ ap (drop 64) c.split_at.ensures.back) in
    let entries = c.read_entries.ensures.read c.if-not-read_entries.false in (
      format,
      record {
        said = tables_said format canton table flags c.read_u64.result entries.1;
        spelling =
            parts_read format tally bytes
            (accepted ∙ ap (take 8) c.split_at.ensures.front ∙ take_all 8 (take 8 bytes) (omega (arith, length-take 8 bytes)))
            (ap (λ (n : ℕ). map (closed_byte tally) (numbers 0 n)) (sym flag_count) ∙ sym flags_are ∙ flag_bytes_are)
            (c.in-Some.ensures.read ∙ says_are)
            (
            ap (flat_map entry_spelling) (sym (table_is tally table 512 refl (c.read_entries.ensures.length ∙ c.requires.entries)))
            ∙ entries.0 ∙ c.split_at-3.ensures.back ∙ ap (drop 175) (c.split_at-2.ensures.back ∙ ap (drop 64) c.split_at.ensures.back)
            );
      },
    )
