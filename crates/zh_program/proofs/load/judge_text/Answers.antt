use Rattle.std.proofs.Common.{ap, arith, ◌≡◌, Err, Some}
use Rattle.std.proofs.lemmas.Result.{err_from_is_err_and}
use Rattle.zh_csv.specs.Noted.{inner_reader}
use Rattle.zh_office.specs.Judged.{Judges}
use Rattle.zh_program.specs.declared.fault.TaskFault.TheVariants as faults
use Rattle.zh_program.specs.declared.place.TaskFile.TheVariants as files
use Rattle.zh_program.proofs.DryRunLemmas.{broken_off, read_failed}
use Rattle.zh_program.proofs.load.judge_text.Goals as goal

pub returns-in_err-forecast-clause-runs : goal.returns-in_err-forecast-clause-runs
returns-in_err-forecast-clause-runs g c =
    let Judged = Judges c.args.office.now.ledger.tally (λ bytes. g.R.Read.remaining (inner_reader c.args.text.now) ≡ Some bytes) (g.O.Write.contents c.args.out.now) (g.O.Write.contents c.write_judgement.new.out) in
    let judged : Judged c.write_judgement.result = rw c.count.ensures at c.write_judgement.ensures.judges in
    let p = err_from_is_err_and c.from_residual.result c.from_residual.ensures.1 in
    rw p.1 (broken_off Judged c.in_err-forecast.field-0.0 p.0 p.2 (rw c.in_err-forecast.was at judged))

pub returns-then-forecast-gt0-clause-runs : goal.returns-then-forecast-gt0-clause-runs
returns-then-forecast-gt0-clause-runs g c =
    let judged = rw c.count.ensures at c.write_judgement.ensures.judges in
    (c.in_ok-forecast.forecast, omega (arith, c.if-forecast-gt0.true), rw c.in_ok-forecast.was at judged)

pub returns-clause-runs : goal.returns-clause-runs
returns-clause-runs g c =
    let judged = rw c.count.ensures at c.write_judgement.ensures.judges in
    (c.in_ok-forecast.forecast, omega (arith, c.if-forecast-gt0.false), rw c.in_ok-forecast.was at judged)

pub returns-in_err-forecast-clause-read : goal.returns-in_err-forecast-clause-read
returns-in_err-forecast-clause-read g c =
    let p = err_from_is_err_and c.from_residual.result c.from_residual.ensures.1 in
    rw p.1 (λ is.
    let file : p.0 ≡ faults.Unreadable files.Csv = cc in
    c.in_err-forecast.ensures.read (ap Err (read_failed c.in_err-forecast.field-0.0 p.0 p.2 file)))
