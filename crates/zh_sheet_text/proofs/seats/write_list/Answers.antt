use Rattle.std.proofs.Common.{List, [], ◌∷◌, ap, decimal, rules, subst, ◌≡◌, ◌∙◌, ℕ, OnOk}
use Rattle.std.specs.Option.{option_map_or}
use Rattle.zh_record_text.specs.Names.{name_of_constituency, name_of_group}
use Rattle.zh_record_text.specs.Records.{PutsText, TableRecord, record_text}
use Rattle.zh_sheet.specs.Readings.{list_seats}
use Rattle.zh_sheet_text.specs.Lists.{constituency_divisor, group_divisor, kind, list_quotient, list_voters}
use Rattle.zh_sheet_text.specs.SheetText.{divisor_text}
use Rattle.zh_totals.specs.Totals.{votes_in}
use Rattle.zh_sheet_text.proofs.seats.write_list.Goals as goal

pub returns : goal.returns
returns g c =
    let x = c.args.sheet.now in
    let d = c.args.constituency in
    let n = c.args.group in
    let first : c.as_bytes.result.now ≡ decimal d = c.as_bytes.ensures.value ∙ c.format.ensures.text in
    let second : c.as_bytes-2.result.now ≡ decimal n = c.as_bytes-2.ensures.value ∙ c.format-2.ensures.text in
    let votes : c.as_bytes-3.result.now ≡ decimal (votes_in x.totals d n) = search rules in
    let voters : c.as_slice.result.now ≡ option_map_or decimal (list_voters x d n) []
    = c.as_slice.ensures.value ∙ c.number_or_nothing-voters.ensures ∙ ap (λ o. option_map_or decimal o []) c.list_voters.ensures in
    let seats : c.as_bytes-4.result.now ≡ decimal (list_seats x d n) = c.as_bytes-4.ensures.value ∙ c.format-4.ensures.text ∙ ap decimal c.list_seats.ensures in
    let of_constituency : c.as_slice-2.result.now ≡ divisor_text (constituency_divisor x d)
    = c.as_slice-2.ensures.value ∙ c.millionths_text-of_constituency.ensures ∙ ap divisor_text (c.from.ensures ∙ c.constituency_divisor.ensures) in
    let found : c.map.result ≡ group_divisor x n = search rules in
    let of_group : c.as_slice-3.result.now ≡ option_map_or divisor_text (group_divisor x n) []
    = c.as_slice-3.ensures.value ∙ c.millionths_or_nothing-of_group.ensures ∙ ap (λ o. option_map_or divisor_text o []) found in
    let quotient : c.as_slice-4.result.now ≡ option_map_or divisor_text (list_quotient x d n) []
    = c.as_slice-4.ensures.value ∙ c.millionths_or_nothing-quotient.ensures ∙ ap (λ o. option_map_or divisor_text o []) c.list_quotient.ensures in
    let marked : c.as_bytes-5.result.now ≡ kind c.args.mark = c.as_bytes-5.ensures.value ∙ c.kind.ensures in
    let accepted : c.as_bytes-6.result.now ≡ decimal c.args.mark.accepted = c.as_bytes-6.ensures.value ∙ c.format-5.ensures.text in
    let constituency : c.as_bytes-7.result.now ≡ name_of_constituency x.totals.canton d = c.as_bytes-7.ensures.value ∙ c.constituency_name.ensures.name in
    let group : c.as_bytes-8.result.now ≡ name_of_group x.totals.canton n = c.as_bytes-8.ensures.value ∙ c.group_name.ensures.name in
    let same : (c.as_bytes.result.now ∷ c.as_bytes-2.result.now ∷ c.as_bytes-3.result.now ∷ c.as_slice.result.now ∷ c.as_bytes-4.result.now ∷ c.as_slice-2.result.now ∷ c.as_slice-3.result.now ∷ c.as_slice-4.result.now ∷ c.as_bytes-5.result.now ∷ c.as_bytes-6.result.now ∷ c.as_bytes-7.result.now ∷ c.as_bytes-8.result.now ∷ [])
    ≡ (decimal d ∷ decimal n ∷ decimal (votes_in x.totals d n) ∷ option_map_or decimal (list_voters x d n) [] ∷ decimal (list_seats x d n) ∷ divisor_text (constituency_divisor x d) ∷ option_map_or divisor_text (group_divisor x n) [] ∷ option_map_or divisor_text (list_quotient x d n) [] ∷ kind c.args.mark ∷ decimal c.args.mark.accepted ∷ name_of_constituency x.totals.canton d ∷ name_of_group x.totals.canton n ∷ [])
    = cc in
    subst (λ (fields : TableRecord). OnOk c.write_record.result (PutsText g.W.Write.contents (record_text fields) c.args.writer.now c.write_record.new.writer)) same c.write_record.ensures
