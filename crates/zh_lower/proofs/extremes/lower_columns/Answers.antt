use Rattle.std.proofs.Common.{◌≡◌, ℕ, false, eqb, not, get_or, sym, ◌∙◌, arith, rules, tests}
use Rattle.std.proofs.lemmas.Bool.{false≢true}
use Rattle.zh_matrices.specs.Asked.{asked}
use Rattle.zh_lower.specs.Extremes.{IsGreatestColumn}
use Rattle.zh_lower.proofs.ExtremeLemmas.{Enclose-column, NoneGive-column}
use Rattle.zh_lower.proofs.RoundLemmas.{others-set}
use Rattle.zh_lower.proofs.FilledLemmas.{AreWithin-set, each_set}
use Rattle.zh_lower.proofs.extremes.lower_columns.Goals as goal
use Rattle.zh_lower.proofs.extremes.lower_columns.Goals.{then-moved, else-moved}

pub returns-then-divisor-eq0-clause-out : goal.returns-then-divisor-eq0-clause-out
returns-then-divisor-eq0-clause-out c = λ enclose.
    NoneGive-column (asked c.args.proposal.now.question.now) c.args.top c.loop-column.column c.args.proposal.now.seats.now c.args.of_rows.now c.loop-column.of_columns
    c.loop-column-test.true (λ other within above. omega (arith, c.lowered-divisor.ensures.greatest other within above)) (c.loop-column.invariant.enclose enclose)

same-number : (a b : ℕ) → not (eqb a b) ≡ false → a ≡ b
same-number a b e = first_of (search (rules, tests), grind (arith, rules), cc)

pub loop-column-preserved : goal.loop-column-preserved
loop-column-preserved c =
    let one : IsGreatestColumn (asked c.args.proposal.now.question.now) c.args.proposal.now.seats.now c.args.of_rows.now c.loop-column.column
    (get_or c.loop-column.of_columns c.loop-column.column 0) c.lowered-divisor.result = record {
      at_most = c.lowered-divisor.ensures.at_most;
      above = c.lowered-divisor.ensures.above (omega arith);
      greatest = c.lowered-divisor.ensures.greatest;
    } in
    record {
      columns = AreWithin-set _ _ _ _ _ (omega arith)
          (omega (arith, c.lowered-divisor.ensures.at_most, c.loop-column.invariant.columns.at_most c.loop-column.column 0 (omega (arith, c.loop-column.invariant.columns.one_each))))
          c.loop-column.invariant.columns;
      greatest = each_set (λ g x. IsGreatestColumn (asked c.args.proposal.now.question.now) c.args.proposal.now.seats.now c.args.of_rows.now g (get_or c.args.of_columns.now g 0) x)
          c.loop-column.of_columns c.loop-column.column c.lowered-divisor.result (omega (arith, c.loop-column.invariant.columns.one_each))
          (rw (c.loop-column.invariant.others c.loop-column.column (omega arith)) at one) c.loop-column.invariant.greatest;
      others = others-set c.loop-column.column c.lowered-divisor.result c.args.of_columns.now c.loop-column.of_columns c.loop-column.invariant.others;
      still = λ unmoved. elim c.if-moved.branch [
        | then-moved w ↦ absurd (false≢true (sym unmoved ∙ w.moved-is ∙ w.if-moved.true))
        | else-moved w ↦
            let at : c.lowered-divisor.result ≡ get_or c.loop-column.of_columns c.loop-column.column 0
            = same-number c.lowered-divisor.result (get_or c.loop-column.of_columns c.loop-column.column 0) (sym w.moved-is ∙ unmoved) in
            each_set (λ k x. x ≡ get_or c.args.of_columns.now k 0) c.loop-column.of_columns c.loop-column.column c.lowered-divisor.result
            (omega (arith, c.loop-column.invariant.columns.one_each)) (at ∙ c.loop-column.invariant.others c.loop-column.column (omega arith))
            (c.loop-column.invariant.still w.if-moved.false)
      ];
      enclose = λ enclose.
          Enclose-column (asked c.args.proposal.now.question.now) c.args.top c.loop-column.column c.lowered-divisor.result c.args.proposal.now.seats.now c.args.of_rows.now c.loop-column.of_columns
          c.loop-column-test.true c.loop-column.invariant.columns.one_each c.lowered-divisor.ensures.greatest (c.loop-column.invariant.enclose enclose);
    }
