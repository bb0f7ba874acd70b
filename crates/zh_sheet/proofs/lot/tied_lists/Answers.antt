use Rattle.std.proofs.Common.{◌≡◌, ap, length, refl, subst, sym, ◌∙◌}
use Rattle.zh_matrices.specs.Asked.{asked}
use Rattle.zh_matrices.specs.Question.{Question}
use Rattle.zh_lower.specs.Ties.{IsLowerTie}
use Rattle.zh_sheet.specs.Stages.{question_in}
use Rattle.zh_sheet.proofs.DistributionLemmas.{targets_above}
use Rattle.zh_sheet.proofs.QuestionLemmas.{columns_are, ranges_of}
use Rattle.zh_sheet.proofs.lot.tied_lists.Goals as goal

pub lot-requires : goal.lot-requires
lot-requires c =
    let same : asked c.question-question.result ≡ question_in c.args.tied.now.asked
    = c.question-question.ensures ∙ (rw (c.seats.ensures, c.deref.ensures.value) refl) in
    subst (λ (q : Question). IsLowerTie q c.args.tied.now.tie) (sym same) c.requires.tie

pub new-requires-clause-groups : goal.new-requires-clause-groups
new-requires-clause-groups c =
    rw (c.in_ok-of_least.ensures.items, c.deref-2.ensures.value, ← columns_are c.args.totals.now c.args.tied.now.asked c.requires.asked)
    c.requires.asked.can.few_columns

pub new-requires-2-clause-groups : goal.new-requires-2-clause-groups
new-requires-2-clause-groups c =
    rw (c.in_ok-of_most.ensures.items, c.deref-3.ensures.value, ← columns_are c.args.totals.now c.args.tied.now.asked c.requires.asked)
    c.requires.asked.can.few_columns

pub returns : goal.returns
returns c =
    let same : asked c.question-question.result ≡ question_in c.args.tied.now.asked
    = c.question-question.ensures ∙ (rw (c.seats.ensures, c.deref.ensures.value) refl) in
    rw (c.new-3.ensures, c.new.ensures, c.new-2.ensures) (record {
      targets = targets_above c.args.totals.now c.args.tied.now.asked.above c.requires.asked.above;
      constituencies = c.constituencies-constituencies.ensures.count ∙ ap (λ canton. length canton.constituencies) c.setup.ensures.setup;
      groups = c.in_ok-of_least.ensures.items ∙ c.deref-2.ensures.value ∙ c.requires.asked.seated;
      ranges = ranges_of c.args.totals.now c.args.tied.now.asked _ _ c.requires.asked (rw same at c.in_ok-least.ensures);
    })
