use Rattle.std.proofs.Common.{arith, rules, ◌∙◌, List, ℕ, OnOk, subst}
use Rattle.zh_record_text.specs.Records.{PutsText}
use Rattle.zh_csv.proofs.ExportLemmas.{record_plain, plain_record}
use Rattle.zh_csv.proofs.export.write_entry.Goals as goal

pub returns : goal.returns
returns g c =
    let plain = record_plain c.args.municipality c.args.list c.args.entry (omega arith) (omega arith) (search rules) (search rules) in
    let same = plain_record _ _ _ _ _ _ _ _ (c.as_bytes.ensures.value ∙ c.format.ensures.text) (c.as_bytes-2.ensures.value ∙ c.format-2.ensures.text) (c.as_bytes-3.ensures.value ∙ c.format-3.ensures.text) c.votes_field.ensures plain in
    subst (λ (text : List ℕ). OnOk c.write_record.result (PutsText g.W.Write.contents text c.args.writer.now c.write_record.new.writer)) same c.write_record.ensures
