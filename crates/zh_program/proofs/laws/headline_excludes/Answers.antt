use Rattle.std.proofs.Common.{◌≡◌, ◌∙◌, ap, subst, Option}
use Rattle.std.specs.Prelude.{IfSome}
use Rattle.zh_returns.specs.declared.command.Command.{Command}
use Rattle.zh_returns.specs.Judgement.{judge}
use Rattle.zh_returns.specs.declared.judgement.Verdict.TheVariants as verdicts
use Rattle.zh_totals.specs.Counting.{totals_of}
use Rattle.zh_matrices.proofs.CallerLemmas.{only_seats}
use Rattle.zh_sheet.specs.Distribution.{question_of}
use Rattle.zh_program.proofs.ExcludeLemmas.{none_lost, none_new, none_on_half, none_other}
use Rattle.zh_program.proofs.ToldLemmas.{none_early, none_late, none_unanswered}
use Rattle.zh_office.specs.Exchanges.{count_by, log_of}
use Rattle.zh_program.proofs.laws.headline_excludes.Goals as goal

pub returns-clause-lost : goal.returns-clause-lost
returns-clause-lost c = λ tally before talk exchanges done rest image n promise is at fewer within holds.
    none_lost tally before talk exchanges promise done rest image n is at fewer within holds

pub returns-clause-skipped : goal.returns-clause-skipped
returns-clause-skipped c = λ tally count before talk exchanges done rest x image promise is stop holds own other.
    none_other tally before talk exchanges promise done rest x image count is stop holds own other

pub returns-clause-nothing_stored : goal.returns-clause-nothing_stored
returns-clause-nothing_stored c = λ tally before talk exchanges done rest x number promise is answer none. promise.stored done rest x is number answer none

pub returns-clause-not_same : goal.returns-clause-not_same
returns-clause-not_same c = λ tally before talk exchanges done rest x command promise is answer given accepted.
    let count = count_by tally (log_of done) in
    let same : judge count command ≡ verdicts.Same
    = subst (λ (d : Option Command). IfSome d (λ e. judge count e ≡ verdicts.Same)) given (promise.same done rest x is answer) in
    none_new (judge count command) accepted same

pub returns-clause-other_count : goal.returns-clause-other_count
returns-clause-other_count c = λ tally before talk exchanges done rest x sheet is_final promise is answer other.
    other ((promise.sheets done rest x is sheet is_final answer).votes ∙ ap totals_of (promise.counted done rest x is))

pub returns-clause-half : goal.returns-clause-half
returns-clause-half c = λ tally before talk exchanges done rest x sheet is_final d g k promise is answer row column half.
    none_on_half _ _ _ k ((promise.sheets done rest x is sheet is_final answer).meets.lower.each_rounds d g row column) half

pub returns-clause-other_seats : goal.returns-clause-other_seats
returns-clause-other_seats c = λ tally before talk exchanges done rest x sheet is_final divisors seats promise is answer weak other.
    other (only_seats (question_of sheet) sheet.lower.divisors divisors sheet.lower.seats seats (promise.sheets done rest x is sheet is_final answer).meets.lower weak)

pub returns-clause-tie : goal.returns-clause-tie
returns-clause-tie c = λ tally before talk exchanges done rest x targets divisors seats promise is tie strict. promise.ties_are_true done rest x is tie targets divisors seats strict

pub returns-clause-early : goal.returns-clause-early
returns-clause-early c = λ tally before talk exchanges done rest a b text image n promise is near was written stop within fewer holds.
    none_early tally before talk exchanges promise a b near done rest is text image was stop n written fewer within holds

pub returns-clause-late : goal.returns-clause-late
returns-clause-late c = λ tally before talk exchanges done rest a b input left text promise is near asks had has lines was other.
    none_late tally before talk exchanges promise a b near done rest is text asks input left had has lines was other

pub returns-clause-unanswered : goal.returns-clause-unanswered
returns-clause-unanswered c = λ tally before talk exchanges done rest a b text image n promise is near was written stop more within holds.
    none_unanswered tally before talk exchanges promise a b near done rest is text image was stop n written more within holds
