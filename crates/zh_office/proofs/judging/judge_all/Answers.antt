use Rattle.std.proofs.Common.{◌≡◌, [], ◌∷◌, Err, rules}
use Rattle.csv.specs.Records.{fields_of}
use Rattle.zh_csv.specs.Front.{front_of}
use Rattle.zh_csv.proofs.CallerLemmas.{are_first}
use Rattle.zh_office.specs.Judged.{AreFirstOf}
use Rattle.zh_office.proofs.JudgedLemmas.{GaveFirst}
use Rattle.zh_office.proofs.WholeLemmas.{first_broken, others_broken, last_judges}
use Rattle.zh_office.proofs.judging.judge_all.Goals as goal

pub returns-in_err-progress : goal.returns-in_err-progress
returns-in_err-progress g c =
    let is : c.from_residual.result ≡ Err c.in_err-progress.field-0.0 = search rules in
    let first = fields_of c.args.csv_record.now in
    let Gave = GaveFirst g.R.Read.remaining first c.args.reader.now in
    let begins : AreFirstOf Gave (first ∷ []) = λ bytes has. are_first g.R.Read.remaining (front_of bytes) (first ∷ []) c.args.reader.now has in
    rw is (first_broken c.args.count.now first Gave _ _ c.in_err-progress.field-0.0 begins c.in_err-progress.ensures.front)

pub returns-in_err-judge_others : goal.returns-in_err-judge_others
returns-in_err-judge_others g c =
    let is : c.from_residual-in_err-judge_others.result ≡ Err c.in_err-judge_others.field-0.0 = search rules in
    let first = fields_of c.args.csv_record.now in
    let Gave = GaveFirst g.R.Read.remaining first c.args.reader.now in
    let after = c.in_ok-progress.ensures.begun.0 c.args.count.now in
    let broken = rw c.in_err-judge_others.was at (c.judge_others.ensures first after) in
    rw is (others_broken c.args.count.now first Gave _ _ _ _ _ c.in_ok-progress.ensures.all broken)

pub returns : goal.returns
returns g c =
    let first = fields_of c.args.csv_record.now in
    let Gave = GaveFirst g.R.Read.remaining first c.args.reader.now in
    let after = c.in_ok-progress.ensures.begun.0 c.args.count.now in
    let judged = rw c.in_ok-judge_others.was at (c.judge_others.ensures first after) in
    let written = c.in_ok-progress.ensures.all in
    let last = c.write_forecast.ensures in
    last_judges c.args.count.now first Gave _ _ _ _ c.judge_others.new.progress c.write_forecast.result written judged
    (record { comes_to = last.comes_to; all = last.all; front = last.front })
