use Rattle.std.proofs.Common.{◌≡◌, ◌∙◌, refl, sym, false, subst, rules}
use Rattle.zh_commands.specs.declared.lines.Request.TheVariants as requests
use Rattle.zh_commands.specs.declared.replies.Refusal.TheVariants as refusals
use Rattle.zh_returns.specs.declared.command.Command.{Command}
use Rattle.zh_returns.specs.Tally.{Tally}
use Rattle.zh_office.specs.DeskBatches.{rows_of}
use Rattle.zh_ledger.specs.Submissions.{on_disk}
use Rattle.zh_office.specs.Answers.{MayReplyToStep}
use Rattle.zh_office.specs.Requests.{ReportsOutcome}
use Rattle.zh_office.specs.declared.answer.Answer.TheVariants as answers
use Rattle.zh_office.proofs.AnswerLemmas.{own_held, query_held, refused_held, request_acts, step_held}
use Rattle.zh_office.proofs.BrokenLemmas.{broken_acts}
use Rattle.zh_office.proofs.office.Office.answer_to.Goals as goal

pub returns-then-faulted-clause-acts : goal.returns-then-faulted-clause-acts
returns-then-faulted-clause-acts g c = broken_acts _ _ _ _ c.args.line (sym c.faulted.ensures ∙ c.if-faulted.true)

pub returns-then-faulted-clause-held : goal.returns-then-faulted-clause-held
returns-then-faulted-clause-held g c = refused_held c.args.self.now.held c.args.line refusals.ReopenDisk

pub returns-in-Command-clause-acts : goal.returns-in-Command-clause-acts
returns-in-Command-clause-acts g c =
    let whole = rw (← c.self.view_is) at (sym c.faulted.ensures ∙ c.if-faulted.false) in
    let by = subst
    (λ (command : Command). ReportsOutcome (on_disk c.self.inside.ledger (g.D.Disk.history c.args.disk.now)) command (answers.Reply c.submit.result) (on_disk c.submit.new.ledger (g.D.Disk.history c.submit.new.disk)))
    c.of_desk.ensures.command c.submit.ensures.reported in
    rw (← c.self.view_is) (request_acts _ _ c.self.inside.ledger.tally c.self.inside.desks c.args.line _ _ whole c.in-Command.is by)

pub returns-in-Command-clause-held : goal.returns-in-Command-clause-held
returns-in-Command-clause-held g c = rw (← c.self.view_is) (own_held c.self.inside.desks c.args.line c.in-Command.command c.submit.result c.in-Command.is)

pub returns-in-Commit-clause-acts : goal.returns-in-Commit-clause-acts
returns-in-Commit-clause-acts g c =
    let whole = rw (← c.self.view_is) at (sym c.faulted.ensures ∙ c.if-faulted.false) in
    rw (← c.self.view_is) (request_acts _ _ c.self.inside.ledger.tally c.self.inside.desks c.args.line _ _ whole c.in-Commit.is c.commit.ensures.acts)

pub returns-in-Commit-clause-held : goal.returns-in-Commit-clause-held
returns-in-Commit-clause-held g c = rw (← c.self.view_is) (step_held c.self.inside.desks _ c.args.line requests.Commit c.commit.result c.in-Commit.is c.commit.ensures.held)

pub returns-in-Batch-clause-acts : goal.returns-in-Batch-clause-acts
returns-in-Batch-clause-acts g c =
    let whole = rw (← c.self.view_is) at (sym c.faulted.ensures ∙ c.if-faulted.false) in
    let may = subst (λ (t : Tally). MayReplyToStep t (rows_of c.self.inside.desks c.args.line.desk) c.in-Batch.step c.step.result) c.count.ensures c.step.ensures.answer in
    rw (← c.self.view_is) (request_acts _ _ c.self.inside.ledger.tally c.self.inside.desks c.args.line (requests.Batch c.in-Batch.step) _ whole c.in-Batch.is ((c.step.result, may, refl), refl))

pub returns-in-Batch-clause-held : goal.returns-in-Batch-clause-held
returns-in-Batch-clause-held g c = rw (← c.self.view_is) (step_held c.self.inside.desks _ c.args.line (requests.Batch c.in-Batch.step) c.step.result c.in-Batch.is c.step.ensures.held)

pub returns-in-Query-clause-acts : goal.returns-in-Query-clause-acts
returns-in-Query-clause-acts g c =
    let whole : c.args.self.now.ledger.store.broken ≡ false = sym c.faulted.ensures ∙ c.if-faulted.false in
    request_acts _ _ c.args.self.now.ledger.tally c.args.self.now.held c.args.line (requests.Query c.in-Query.query) _ whole c.in-Query.is (search rules, refl)

pub returns-in-Query-clause-held : goal.returns-in-Query-clause-held
returns-in-Query-clause-held g c = query_held c.args.self.now.held c.args.line c.in-Query.query c.answer_query.result c.in-Query.is
