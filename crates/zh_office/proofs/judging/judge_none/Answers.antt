use Rattle.std.proofs.Common.{◌≡◌, ◌∷◌, [], Err, rules, subst}
use Rattle.std.specs.Io.KnownBytes.{Appends}
use Rattle.zh_csv.specs.Records.{Record}
use Rattle.zh_office.specs.Findings.{findings, forecast_of}
use Rattle.zh_office.specs.Judged.{BreaksOffLine, IsAfter}
use Rattle.zh_office.specs.JudgementText.{forecast_text}
use Rattle.zh_office.proofs.FrontLemmas.{breaks_more}
use Rattle.zh_office.proofs.WholeLemmas.{first_lines, none_written_whole}
use Rattle.zh_office.proofs.judging.judge_none.Goals as goal

pub returns-in_err-progress : goal.returns-in_err-progress
returns-in_err-progress g c tally =
    let is : c.from_residual.result ≡ Err c.in_err-progress.field-0.0 = search rules in
    let fault = c.in_err-progress.field-0.0 in
    let w = g.W.Write.contents c.args.out.now in
    let w' = g.W.Write.contents c.begin-2.new.out in
    let empty = c.new.ensures.fields in
    let front = subst (λ (r : Record). BreaksOffLine fault w w' (first_lines r)) empty c.in_err-progress.ensures.front in
    rw is (breaks_more fault w w' (first_lines []) (forecast_text (forecast_of (findings tally []))) front)

pub returns : goal.returns
returns g c tally =
    let progress = c.in_ok-progress.progress in
    let w = g.W.Write.contents c.args.out.now in
    let w' = g.W.Write.contents c.begin-2.new.out in
    let empty = c.new.ensures.fields in
    let after = subst (λ (r : Record). IsAfter tally (r ∷ []) progress) empty (c.in_ok-progress.ensures.begun.0 tally) in
    let first = subst (λ (r : Record). Appends w w' (first_lines r)) empty c.in_ok-progress.ensures.all in
    let last = c.write_forecast.ensures in
    none_written_whole tally _ _ _ c.write_forecast.result progress after first
    (record { comes_to = last.comes_to; all = last.all; front = last.front })
