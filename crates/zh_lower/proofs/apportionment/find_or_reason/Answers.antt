use Rattle.std.proofs.Common.{ℕ, ◌-◌, ◌↔◌, IsTrue, subst, sym, ◌∙◌, arith}
use Rattle.std.proofs.lemmas.Bool.{false≢true}
use Rattle.zh_decided.specs.Ways.{AreBalanced}
use Rattle.zh_matrices.specs.Question.{EachRowHasVotes, IsFirstWithoutVotes, Question, question}
use Rattle.zh_lower.specs.Outcomes.{IsProper}
use Rattle.zh_lower.specs.Reasons.{HandsOver}
use Rattle.zh_lower.proofs.SeatingLemmas.{unbalanced, without_votes}
use Rattle.zh_lower.proofs.apportionment.find_or_reason.Goals as goal

none_first : (q : Question) → EachRowHasVotes q → (d : ℕ) → ¬ IsFirstWithoutVotes q d
none_first q each d first = first.none (each (d - 1) (omega (arith, first.from_1, first.there)))

pub returns-in-Some-clause-outcome : goal.returns-in-Some-clause-outcome
returns-in-Some-clause-outcome c =
    without_votes (question c.args.matrix.now c.args.row_totals.now c.args.column_totals.now) c.in-Some.row c.requires.row_totals
    (rw c.question-question.ensures at c.in-Some.ensures.first)

pub returns-then-not-are_balanced-clause-outcome : goal.returns-then-not-are_balanced-clause-outcome
returns-then-not-are_balanced-clause-outcome c =
    let is = subst (λ (q : Question). IsTrue c.are_balanced.result ↔ AreBalanced q) c.question-question.ensures c.are_balanced.ensures in
    unbalanced (question c.args.matrix.now c.args.row_totals.now c.args.column_totals.now)
    (record {
      row_totals = c.requires.row_totals;
      column_totals = c.requires.column_totals;
      row_votes = subst (λ (q : Question). EachRowHasVotes q) c.question-question.ensures c.in_default.ensures.none;
      column_votes = c.requires.votes;
    })
    (λ balanced. false≢true (sym c.if-not-are_balanced.true ∙ is.1 balanced))

pub returns-then-not-are_balanced-clause-no_votes : goal.returns-then-not-are_balanced-clause-no_votes
returns-then-not-are_balanced-clause-no_votes c = λ d first.
    let each = subst (λ (q : Question). EachRowHasVotes q) c.question-question.ensures c.in_default.ensures.none in absurd (none_first _ each d first)

pub seats_on-requires-clause-proper : goal.seats_on-requires-clause-proper
seats_on-requires-clause-proper c =
    subst (λ (q : Question). IsProper q) (sym c.question-question.ensures) (record {
      row_totals = c.requires.row_totals;
      column_totals = c.requires.column_totals;
      row_votes = subst (λ (q : Question). EachRowHasVotes q) c.question-question.ensures c.in_default.ensures.none;
      column_votes = c.requires.votes;
    })

pub seats_on-requires-clause-balanced : goal.seats_on-requires-clause-balanced
seats_on-requires-clause-balanced c = c.are_balanced.ensures.0 c.if-not-are_balanced.false

pub seats_on-requires-clause-started : goal.seats_on-requires-clause-started
seats_on-requires-clause-started c = c.in_ok-new.ensures

pub returns-clause-outcome : goal.returns-clause-outcome
returns-clause-outcome c = subst (λ (q : Question). HandsOver q c.seats_on.result) c.question-question.ensures c.seats_on.ensures

pub returns-clause-no_votes : goal.returns-clause-no_votes
returns-clause-no_votes c = λ d first.
    let each = subst (λ (q : Question). EachRowHasVotes q) c.question-question.ensures c.in_default.ensures.none in absurd (none_first _ each d first)
