use Rattle.std.proofs.Common.{◌<◌, length, get_or, drop, ◌+◌, ◌^◌, arith, length-set, sym, ◌∙◌}
use Rattle.std.proofs.lemmas.List.Elements.{All-set, All-from_recursion, recursion_from_All}
use Rattle.std.proofs.lemmas.Bool.{eqb-true}
use Rattle.zh_commands.proofs.SplitLemmas.{numerals-drop, numerals_more, numerals_whole}
use Rattle.zh_commands.proofs.parser.numbers.Goals as goal

pub returns-in_err-value : goal.returns-in_err-value
returns-in_err-value g c = rw c.from_residual.ensures (λ ns sized all e.
    let i = c.loop-number.number-index in
    let within : i < length ns = omega arith in
    let next = numerals-drop _ ns i within (c.loop-number.invariant.only ns sized all e) in
    absurd (c.in_err-value.ensures.only (get_or ns i 0) (drop (i + 1) ns) (All-from_recursion (λ n. n < 2 ^ 32) ns all i 0 within) next))

pub loop-number-preserved : goal.loop-number-preserved
loop-number-preserved g c =
    let i = c.loop-number.number-index in
    let known = c.loop-number.invariant in
    record {
      sized = length-set _ _ _ ∙ known.sized;
      fit = All-set (λ n. n < 2 ^ 32) _ i _ c.in_ok-value.ensures.found.0 known.fit;
      read = numerals_more _ _ _ _ i _ (omega arith) known.read c.in_ok-value.ensures.found.1;
      only = λ ns sized all e.
          let within : i < length ns = omega arith in
          let next = numerals-drop _ ns i within (known.only ns sized all e) in
          c.in_ok-value.ensures.only (get_or ns i 0) (drop (i + 1) ns) (All-from_recursion (λ n. n < 2 ^ 32) ns all i 0 within) next;
    }

pub returns-then-is_empty : goal.returns-then-is_empty
returns-then-is_empty g c =
    let known = c.loop-number.invariant in
    (known.sized, recursion_from_All (λ n. n < 2 ^ 32) _ known.fit, numerals_whole _ _ _ c.loop-number.number-index (omega arith) (eqb-true _ 0 (sym c.if-is_empty.ensures)) known.read)
