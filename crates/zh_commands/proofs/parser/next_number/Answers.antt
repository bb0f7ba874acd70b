use Rattle.std.proofs.Common.{ap, drop, sym, ◌∙◌}
use Rattle.zh_commands.proofs.SplitLemmas.{numeral_is}
use Rattle.zh_commands.proofs.parser.next_number.Goals as goal

pub returns-in_err-number-clause-only : goal.returns-in_err-number-clause-only
returns-in_err-number-clause-only c n ns small e =
    let split = c.split_word.ensures in
    let (same, _) = numeral_is _ _ _ n ns split.word split.whole small (ap (drop 1) (sym c.in_ok-after_space.ensures ∙ e)) in
    absurd (c.in_err-number.ensures n small same)

pub returns-clause-only : goal.returns-clause-only
returns-clause-only c n ns small e =
    let split = c.split_word.ensures in
    (numeral_is _ _ _ n ns split.word split.whole small (ap (drop 1) (sym c.in_ok-after_space.ensures ∙ e))).1
