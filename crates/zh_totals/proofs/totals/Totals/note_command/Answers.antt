use Rattle.std.proofs.Common.{◌≡◌, ◌∙◌, take, None, ap, sym, refl, arith}
use Rattle.std.proofs.lemmas.List.{take_all}
use Rattle.zh_returns.specs.Judgement.{judge}
use Rattle.zh_returns.specs.Origin.{origin_of}
use Rattle.zh_returns.specs.Step.{entry_of}
use Rattle.zh_returns.proofs.CallerLemmas.{rows_may_stand}
use Rattle.zh_totals.proofs.CommandLemmas.{taken, row_taken}
use Rattle.zh_totals.proofs.totals.Totals.note_command.Goals as goal

pub note_votes-requires-clause-change : goal.note_votes-requires-clause-change
note_votes-requires-clause-change c =
    let row = c.in-Return.row in
    rw c.requires.totals (taken c.args.count.now row.municipality row.list (entry_of (record { desk = c.in-Return.desk }) row)
    c.accepted.ensures.limits (ap (judge c.args.count.now) (sym c.in-Return.is) ∙ c.requires.accept)).can

pub note_votes-requires-in-Withdraw-clause-change : goal.note_votes-requires-in-Withdraw-clause-change
note_votes-requires-in-Withdraw-clause-change c =
    let w = c.in-Withdraw in
    rw c.requires.totals (taken c.args.count.now w.municipality w.list (record { origin = record { desk = w.desk }; number = w.number; votes = None })
    c.accepted.ensures.limits (ap (judge c.args.count.now) (sym w.is) ∙ c.requires.accept)).can

pub note_votes-requires-in-loop-i-clause-place : goal.note_votes-requires-in-loop-i-clause-place
note_votes-requires-in-loop-i-clause-place c =
    (rows_may_stand c.args.count.now c.in-Batch.rows c.loop-i.i c.get-row.result c.len-i-end.ensures.batch
    (ap (judge c.args.count.now) (sym c.in-Batch.is) ∙ c.requires.accept) c.get-row.ensures).place

pub note_votes-requires-in-loop-i-clause-change : goal.note_votes-requires-in-loop-i-clause-change
note_votes-requires-in-loop-i-clause-change c =
    rw c.loop-i.invariant (row_taken (origin_of c.args.command.now) c.args.count.now c.in-Batch.rows c.loop-i.i c.get-row.result c.requires.origin
    c.accepted.ensures.limits c.len-i-end.ensures.batch (ap (judge c.args.count.now) (sym c.in-Batch.is) ∙ c.requires.accept) c.get-row.ensures).can

pub loop-i-preserved : goal.loop-i-preserved
loop-i-preserved c =
    rw c.note_votes-in-loop-i.ensures (rw c.loop-i.invariant (sym (row_taken (origin_of c.args.command.now) c.args.count.now c.in-Batch.rows c.loop-i.i
    c.get-row.result c.requires.origin c.accepted.ensures.limits c.len-i-end.ensures.batch
    (ap (judge c.args.count.now) (sym c.in-Batch.is) ∙ c.requires.accept) c.get-row.ensures).after))

pub returns-in-Return : goal.returns-in-Return
returns-in-Return c =
    let row = c.in-Return.row in
    rw c.in-Return.is (rw c.note_votes.ensures (rw c.requires.totals (sym (taken c.args.count.now row.municipality row.list
    (entry_of (record { desk = c.in-Return.desk }) row) c.accepted.ensures.limits (ap (judge c.args.count.now) (sym c.in-Return.is) ∙ c.requires.accept)).after)))

pub returns-in-Withdraw : goal.returns-in-Withdraw
returns-in-Withdraw c =
    let w = c.in-Withdraw in
    rw w.is (rw c.note_votes-in-Withdraw.ensures (rw c.requires.totals (sym (taken c.args.count.now w.municipality w.list
    (record { origin = record { desk = w.desk }; number = w.number; votes = None }) c.accepted.ensures.limits (ap (judge c.args.count.now) (sym w.is) ∙ c.requires.accept)).after)))

pub returns-in-Close : goal.returns-in-Close
returns-in-Close c = rw c.in-Close.is c.requires.totals

pub returns-in-Reopen : goal.returns-in-Reopen
returns-in-Reopen c = rw c.in-Reopen.is c.requires.totals

pub returns-after-loop-i : goal.returns-after-loop-i
returns-after-loop-i c =
    let all : take c.loop-i.i c.in-Batch.rows ≡ c.in-Batch.rows = take_all c.loop-i.i c.in-Batch.rows (omega arith) in
    rw c.loop-i.invariant (rw all (rw c.in-Batch.is refl))
