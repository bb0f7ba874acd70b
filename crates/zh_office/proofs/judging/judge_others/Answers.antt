use Rattle.std.proofs.Common.{◌≡◌, ◌≤◌, ◌+◌, ◌-◌, ◌^◌, refl, Err, true, false, rules, arith, subst, sym}
use Rattle.csv.specs.Records.{fields_of}
use Rattle.std.proofs.lemmas.Result.{err_from_is_err_and}
use Rattle.zh_csv.specs.Front.{front_of}
use Rattle.zh_office.specs.Findings.{forecast_with, judgement}
use Rattle.zh_office.specs.Rows.{row_in}
use Rattle.zh_office.specs.declared.judgement.Forecast.{Forecast}
use Rattle.zh_office.proofs.JudgedLemmas.{GivesNext, GivesNone, reader_early, judged_more, broken_at, broken_between}
use Rattle.zh_office.proofs.JudgedLemmas.{all_judged, forecast_within}
use Rattle.zh_office.proofs.judging.judge_others.Goals as goal

pub returns-in_err-next_record : goal.returns-in_err-next_record
returns-in_err-next_record g c first after =
    let p = err_from_is_err_and c.from_residual.result c.from_residual.ensures.1 in
    let early = reader_early c.in_err-next_record.field-0.0 p.0 p.2 in
    let w = g.W.Write.contents c.args.out.now in
    let now = c.loop-number in
    let has = now.invariant.judged first after in
    rw p.1 (broken_between g.R.Read.remaining c.args.count.now first c.args.reader.now w now.reader _ now.number now.progress has
    _ _ early.0 (omega (arith, has.count, early.1)))

pub returns-then-not-branch : goal.returns-then-not-branch
returns-then-not-branch g c first after =
    let gone : c.in_ok-next_record.field-0 ≡ false = search rules in
    let w = g.W.Write.contents c.args.out.now in
    let now = c.loop-number in
    let has = now.invariant.judged first after in
    let ends : GivesNone g.R.Read.remaining now.reader = λ bytes given read.
    rw (c.in_ok-next_record.was, gone) at (c.next_record.ensures (front_of bytes) given read) in
    all_judged g.R.Read.remaining c.args.count.now first c.args.reader.now w now.reader _ now.number now.progress has ends

pub returns-in_err-take : goal.returns-in_err-take
returns-in_err-take g c first after =
    let is : c.from_residual-in_err-take.result ≡ Err c.in_err-take.field-0.0 = search rules in
    let found : c.in_ok-next_record.field-0 ≡ true = search rules in
    let w = g.W.Write.contents c.args.out.now in
    let now = c.loop-number in
    let has = now.invariant.judged first after in
    let fields = fields_of c.next_record.new.csv_record in
    let next = c.next_record.new.reader in
    let gives : GivesNext g.R.Read.remaining fields now.reader next = λ bytes given read.
    rw (c.in_ok-next_record.was, found) at (c.next_record.ensures (front_of bytes) given read) in
    rw is (broken_at g.R.Read.remaining c.args.count.now first c.args.reader.now w now.reader next _ _ now.number now.progress fields
    has gives c.in_err-take.field-0.0 c.in_err-take.ensures.front)

pub loop-number-preserved : goal.loop-number-preserved
loop-number-preserved g c =
    let found : c.in_ok-next_record.field-0 ≡ true = search rules in
    let w = g.W.Write.contents c.args.out.now in
    let now = c.loop-number in
    let fields = fields_of c.next_record.new.csv_record in
    let next = c.next_record.new.reader in
    let more = c.in_ok-take.ensures in
    let its = judgement c.args.count.now now.progress.rows (row_in fields) in
    let counted : c.take.new.self.counts ≡ forecast_with now.progress.counts its = more.counts in
    let gives : GivesNext g.R.Read.remaining fields now.reader next = λ bytes given read.
    rw (c.in_ok-next_record.was, found) at (c.next_record.ensures (front_of bytes) given read) in
    let within = forecast_within now.progress.counts its now.invariant.within in
    record {
      within = subst (λ (n : Forecast). n.refused ≤ n.records) (sym counted) within;
      few = subst (λ (n : Forecast). n.records + 1 ≤ now.number + 1) (sym counted) (omega (arith, now.invariant.few));
      judged = λ first after.
          let has = now.invariant.judged first after in
          judged_more g.R.Read.remaining c.args.count.now first c.args.reader.now w now.reader next _ _ now.number now.progress fields
          has gives c.take.new.self more.rows more.counts more.all;
    }

pub returns : goal.returns
returns g c first after =
    let w = g.W.Write.contents c.args.out.now in
    let now = c.loop-number in
    let has = now.invariant.judged first after in
    broken_between g.R.Read.remaining c.args.count.now first c.args.reader.now w now.reader _ now.number now.progress has
    0 (2 ^ 32 - 2) refl (omega (arith, c.loop-number-test.false))
