-- The effect of a run on the ledger: each exchange submits one command or none.
use Rattle.std.proofs.Common.{List, [], ◌∷◌, ◌++◌, refl, sym, ap, ◌∙◌, subst, arith, IsTrue, Option, Some, None}
use Rattle.zh_returns.specs.declared.command.Command.{Command}
use Rattle.zh_ledger.specs.Ledger.{Ledger}
use Rattle.zh_ledger.specs.Submissions.{OnDisk, Log, followed_by, Submits, IsLogged}
use Rattle.zh_ledger.specs.declared.outcome.Outcome.{Outcome}
use Rattle.zh_ledger.proofs.CallerLemmas.{SubmitsOneOrNone, one_submitted, submits_honest, submits_logged}
use Rattle.zh_office.specs.Requests.{Acts}
use Rattle.zh_office.specs.declared.answer.Answer.{Answer}
use Rattle.zh_office.specs.Exchanges.{Exchange, log_by, log_of}
use Rattle.zh_office.specs.Office.{Office, MayAnswer, its_ledger}
use Rattle.zh_office.specs.Runs.{Runs, Turn}
use Rattle.zh_office.proofs.ExchangeLemmas.{followed_by-assoc, nothing-followed_by, reported_log}

-- commands, then further commands
Submits-append : (old mid new : OnDisk Ledger) (xs ys : List (Command × Outcome)) (log log' : Log)
    → Submits old xs log mid → Submits mid ys log' new → Submits old (xs ++ ys) (followed_by log log') new
Submits-append old mid new [] ys log log' (none, same) run =
    subst (λ (l : Log). Submits old ys l new) (sym (ap (λ (l : Log). followed_by l log') none ∙ nothing-followed_by log'))
    (subst (λ (o : OnDisk Ledger). Submits o ys log' new) same run)
Submits-append old mid new (x ∷ xs) ys log log' (next, others, by, is, run) rest = (
  next,
  followed_by others log',
  by,
  ap (λ (l : Log). followed_by l log') is ∙ followed_by-assoc by.log others log',
  Submits-append next mid new xs ys others log' run rest,
)

-- the command that is submitted for an answer, if any
pub acts_submitted : (old : OnDisk Ledger) (command : Option Command) (May : Answer → Type 0) (answer : Answer) (new : OnDisk Ledger)
    → Acts old command May answer new → SubmitsOneOrNone old (log_by command answer) new
acts_submitted old None May answer new (may, same) = ([], omega arith, (refl, same))
acts_submitted old (Some command) May answer new by = (
  (command, by.outcome) ∷ [],
  omega arith,
  subst (λ (l : Log). Submits old ((command, by.outcome) ∷ []) l new) (by.submission.logs ∙ sym (reported_log old new command answer by))
      (one_submitted old command by.outcome new by.submission),
)

pub turn_submitted : (old : OnDisk Office) (x : Exchange) (new : OnDisk Office) → Turn old x new
    → SubmitsOneOrNone (its_ledger old) (log_by x.command x.answer) (its_ledger new)
turn_submitted old x new turn = acts_submitted (its_ledger old) x.command (MayAnswer old.holder x.given) x.answer (its_ledger new) turn.acts

-- the commands of a run
pub run_submitted : (old : OnDisk Office) (xs : List Exchange) (new : OnDisk Office)
    → Runs old xs new → (commands : List (Command × Outcome)) × Submits (its_ledger old) commands (log_of xs) (its_ledger new)
run_submitted old [] new run = ([], (refl, ap its_ledger run))
run_submitted old (x ∷ xs) new (mid, turn, run) =
    let first = turn_submitted old x mid turn in
    let then = run_submitted mid xs new run in (
      first.0 ++ then.0,
      Submits-append (its_ledger old) (its_ledger mid) (its_ledger new) first.0 then.0 (log_by x.command x.answer) (log_of xs) first.2 then.1,
    )

pub run_is_logged : (old : OnDisk Office) (xs : List Exchange) (new : OnDisk Office)
    → IsTrue new.history.honest → Runs old xs new → IsLogged (its_ledger old) (log_of xs) (its_ledger new)
run_is_logged old xs new honest run =
    let all = run_submitted old xs new run in submits_logged (its_ledger old) all.0 (log_of xs) (its_ledger new) honest all.1

-- a disk that is honest after a run was so before it
pub run_honest : (old : OnDisk Office) (xs : List Exchange) (new : OnDisk Office) → IsTrue new.history.honest → Runs old xs new → IsTrue old.history.honest
run_honest old xs new honest run =
    let all = run_submitted old xs new run in submits_honest (its_ledger old) all.0 (log_of xs) (its_ledger new) all.1 honest
