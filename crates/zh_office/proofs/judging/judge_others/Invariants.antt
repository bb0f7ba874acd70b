use Rattle.std.proofs.Common.{◌≤◌, ◌+◌, [], ◌∷◌}
use Rattle.zh_csv.specs.Records.{Record}
use Rattle.zh_office.specs.Judged.{IsAfter}
use Rattle.zh_office.proofs.JudgedLemmas.{HasJudged}
use Rattle.zh_office.proofs.judging.judge_others.Given as goal

abbrev pub invariant-loop-number : goal.invariant-loop-number
invariant-loop-number g l =
    let w = g.W.Write.contents l.fn.out in
    let w' = g.W.Write.contents l.out in
    record {
      within : l.progress.counts.refused ≤ l.progress.counts.records;
      few : l.progress.counts.records + 1 ≤ l.number;
      judged : (first : Record) → IsAfter l.fn.count (first ∷ []) l.fn.progress
          → HasJudged g.R.Read.remaining l.fn.count first l.fn.reader l.reader w w' l.number l.progress;
    }
