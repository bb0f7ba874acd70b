use Rattle.std.proofs.Common.{◌<◌, false, length, ◌∙◌, arith, below_more}
use Rattle.std.proofs.lemmas.List.{get_or-set_other, get_or-set_same, length-set}
use Rattle.zh_decided.proofs.WayLemmas.{none-tested}
use Rattle.zh_decided.proofs.completion.rows_without_way.Goals as goal

pub loop-row-preserved : goal.loop-row-preserved
loop-row-preserved c =
    let within : c.loop-row.row < length c.loop-row.marks
    = omega (arith, c.loop-row.invariant.long, c.args.bounds.now.question.now.sized.few_rows, c.loop-row-test.true) in
    record {
      long = length-set c.loop-row.marks c.loop-row.row c.is_none.result ∙ c.loop-row.invariant.long;
      done = below_more _ _
          (λ d lt. get_or-set_other c.loop-row.marks c.loop-row.row d c.is_none.result false (λ same. omega (arith, same, lt)) ∙ c.loop-row.invariant.done d lt)
          (get_or-set_same c.loop-row.marks c.loop-row.row c.is_none.result false within ∙ none-tested _ c.is_none.result c.is_none.ensures);
    }
