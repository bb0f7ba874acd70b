use Rattle.std.proofs.Common.{◌≡◌, ap, [], Some, true, false, inl, option_map, rules, arith}
use Rattle.csv.specs.Records.{fields_of}
use Rattle.std.proofs.lemmas.Result.{err_from_is_err_and}
use Rattle.zh_csv.specs.Front.{front_of}
use Rattle.zh_csv.specs.Fronts.{front_left}
use Rattle.zh_csv.proofs.CallerLemmas.{are_first}
use Rattle.zh_office.specs.Findings.{begun}
use Rattle.zh_office.specs.JudgementText.{finding_lines}
use Rattle.zh_office.proofs.FrontLemmas.{none_written}
use Rattle.zh_office.proofs.JudgedLemmas.{GaveFirst, reader_early}
use Rattle.zh_office.proofs.WholeLemmas.{judges_of, none_judges}
use Rattle.zh_office.proofs.judging.judge_records.Goals as goal

pub returns-in_err-next_record : goal.returns-in_err-next_record
returns-in_err-next_record g c =
    let p = err_from_is_err_and c.from_residual.result c.from_residual.ensures.1 in
    let early = reader_early c.in_err-next_record.field-0.0 p.0 p.2 in
    rw p.1 (record {
      records = [];
      first = λ bytes known.
          let starts = c.reader_of-reader.ensures (front_of bytes) (ap (option_map front_of) known) in
          are_first (front_left g.R.Read.remaining) (front_of bytes) [] c.reader_of-reader.result starts;
      enough = omega (arith, early.1);
      written = inl (none_written _ (g.W.Write.contents c.args.out.now) (finding_lines (begun c.args.count.now [])) early.0);
    })

pub returns-then-not-branch : goal.returns-then-not-branch
returns-then-not-branch g c =
    let gone : c.in_ok-next_record.field-0 ≡ false = search rules in
    none_judges c.args.count.now (λ bytes. g.R.Read.remaining c.args.text ≡ Some bytes) _ _ c.judge_none.result
    (λ bytes known.
    let starts = c.reader_of-reader.ensures (front_of bytes) (ap (option_map front_of) known) in
    rw (c.in_ok-next_record.was, gone) at (c.next_record.ensures (front_of bytes) [] starts))
    (c.judge_none.ensures c.args.count.now)

pub returns : goal.returns
returns g c =
    let found : c.in_ok-next_record.field-0 ≡ true = search rules in
    let Gave = GaveFirst (front_left g.R.Read.remaining) (fields_of c.next_record.new.csv_record) c.next_record.new.reader in
    judges_of c.args.count.now Gave (λ bytes. g.R.Read.remaining c.args.text ≡ Some bytes) _ _ c.judge_all.result
    (λ bytes known.
    let starts = c.reader_of-reader.ensures (front_of bytes) (ap (option_map front_of) known) in
    rw (c.in_ok-next_record.was, found) at (c.next_record.ensures (front_of bytes) [] starts))
    c.judge_all.ensures
