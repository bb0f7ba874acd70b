use Rattle.std.proofs.Common.{rules, ◌∙◌}
use Rattle.csv.specs.Records.{fields_of}
use Rattle.zh_csv.proofs.FieldLemmas.{field_at-get_or, value_some, value_is}
use Rattle.zh_csv.proofs.records.field.Goals as goal

pub unwrap-requires : goal.unwrap-requires
unwrap-requires c = value_some _ (λ s. s.now) _ (c.get.ensures.value ∙ field_at-get_or (fields_of c.args.csv_record.now) c.args.place c.requires)

pub returns : goal.returns
returns c =
    let is = c.get.ensures.value ∙ field_at-get_or (fields_of c.args.csv_record.now) c.args.place c.requires in
    value_is _ (λ s. s.now) c.unwrap.result _ (search rules) is
