use Rattle.std.proofs.Common.{Some, None, arith, refl}
use Rattle.zh_office.proofs.AnswerLemmas.{batch_acts, empty_is, quiet_commit}
use Rattle.zh_office.proofs.answer.commit.Goals as goal
use Rattle.zh_office.proofs.answer.commit.Goals.{in-Some, in-Some-2, in-None}

pub returns-then-matches-clause-acts : goal.returns-then-matches-clause-acts
returns-then-matches-clause-acts g c = elim c.match-batch.branch [
  | in-Some w ↦ rw (w.ledger-is, w.disk-is, w.reply-is) (batch_acts _ _ _ _ w.in-Some.batch.now _ _ w.in-Some.ensures (omega (arith, w.len.ensures, w.if-len-gt0.true)) w.submit_rows-reply.ensures.reported)
  | in-Some-2 w ↦ rw (w.ledger-is, w.disk-is, w.reply-is) (quiet_commit _ _ _ (Some w.in-Some.batch.now) w.in-Some.ensures (empty_is _ _ (omega (arith, w.len.ensures, w.if-len-gt0.false))))
  | in-None w ↦ rw (w.ledger-is, w.disk-is, w.reply-is) (quiet_commit _ _ _ None (rw w.in-None.is at c.batch.ensures) refl)
]

pub returns-else-matches-clause-acts : goal.returns-else-matches-clause-acts
returns-else-matches-clause-acts g c = elim c.match-batch.branch [
  | in-Some w ↦ rw (w.ledger-is, w.disk-is, w.reply-is) (batch_acts _ _ _ _ w.in-Some.batch.now _ _ w.in-Some.ensures (omega (arith, w.len.ensures, w.if-len-gt0.true)) w.submit_rows-reply.ensures.reported)
  | in-Some-2 w ↦ rw (w.ledger-is, w.disk-is, w.reply-is) (quiet_commit _ _ _ (Some w.in-Some.batch.now) w.in-Some.ensures (empty_is _ _ (omega (arith, w.len.ensures, w.if-len-gt0.false))))
  | in-None w ↦ rw (w.ledger-is, w.disk-is, w.reply-is) (quiet_commit _ _ _ None (rw w.in-None.is at c.batch.ensures) refl)
]
