use Rattle.std.proofs.Common.{◌≡◌, ◌∙◌, ◌++◌, ℕ, List, [], length, drop, map, ap, refl, arith}
use Rattle.std.specs.Int.{w64, to_be_bytes}
use Rattle.std.specs.List.{flat_map}
use Rattle.std.proofs.lemmas.List.{drop_all, drop-drop}
use Rattle.zh_returns.specs.declared.command.Format.TheVariants.{Two}
use Rattle.zh_returns.specs.EntryBytes.{entry_spelling}
use Rattle.zh_returns.specs.Payload.{closed_byte, numbers}
use Rattle.zh_returns.specs.Tables.{tally_from}
use Rattle.zh_returns.proofs.PayloadLemmas.{parts_are}
use Rattle.zh_returns.proofs.ClosedBytesLemmas.{packed}
use Rattle.zh_returns.proofs.TallyTableLemmas.{table_is}
use Rattle.zh_returns.proofs.payload.write_tables.Goals as goal

pub returns : goal.returns
returns c = λ canton.
    let tally = tally_from canton c.args.entries.now c.args.closed.now c.args.accepted in
    let out = c.args.out.now in
    let none : drop 8 c.split_at_mut-first.result.0.now ≡ [] = drop_all 8 c.split_at_mut-first.result.0.now (omega (arith, c.split_at_mut-first.ensures.front_len)) in
    let bytes : length c.write_flags.new.out ≡ 64 = c.write_flags.ensures.length ∙ c.split_at_mut-flags.ensures.front_len in
    let whole : length c.args.closed.now ≡ 512 = c.requires.closed in
    parts_are Two tally c.write_u64.new.buf c.write_flags.new.out c.write_format.new.out c.write_entries.new.out c.split_at_mut-table.result.1.now (drop 262391 out)
    (c.write_u64.ensures ∙ ap (λ (t : List ℕ). to_be_bytes w64 c.args.accepted ++ t) none)
    (
    packed c.args.closed.now c.write_flags.new.out tally refl (omega arith) (λ byte within. c.write_flags.ensures.bytes byte (omega (arith, c.write_flags.ensures.length)))
    ∙ ap (λ (n : ℕ). map (closed_byte tally) (numbers 0 n)) bytes
    )
    c.write_format.ensures
    (c.write_entries.ensures ∙ ap (flat_map entry_spelling) (table_is tally c.args.entries.now 512 refl c.requires.entries))
    (
    c.split_at_mut-table.ensures.back ∙ ap (drop 262144) (c.split_at_mut-format.ensures.back ∙ ap (drop 175) (c.split_at_mut-flags.ensures.back ∙ ap (drop 64) c.split_at_mut-first.ensures.back))
    ∙ ap (λ (t : List ℕ). drop 262144 (drop 175 t)) (drop-drop 64 8 out)
    ∙ ap (drop 262144) (drop-drop 175 72 out) ∙ drop-drop 262144 247 out
    )
