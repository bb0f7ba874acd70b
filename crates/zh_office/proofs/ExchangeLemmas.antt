-- Exchanges one after the other: their log, their answers, the disk, and what the desks hold.
use Rattle.std.proofs.Common.{◌≡◌, List, [], ◌∷◌, ◌++◌, Some, refl, sym, ◌∙◌, ap, subst, arith, append_assoc}
use Rattle.std.proofs.lemmas.Grind.{flat_map-append}
use Rattle.std.proofs.lemmas.List.{map-append}
use Rattle.zh_disk.specs.Disk.{Trail}
use Rattle.zh_returns.specs.declared.command.Command.{Command}
use Rattle.zh_ledger.specs.Ledger.{Ledger}
use Rattle.zh_ledger.specs.Submissions.{Log, OnDisk, followed_by, logged, nothing}
use Rattle.zh_ledger.specs.declared.outcome.Outcome.{Outcome}
use Rattle.zh_ledger.specs.declared.outcome.Outcome.TheVariants as outcomes
use Rattle.zh_ledger.proofs.CallerLemmas.{log_none}
use Rattle.zh_office.specs.DeskBatches.{Held}
use Rattle.zh_office.specs.Exchanges.{Exchange, disk_by, held_by, held_then, line_in, lines_given, log_by, log_of, text_of, texts}
use Rattle.zh_office.specs.Office.{Office}
use Rattle.zh_office.specs.Requests.{ReportsOutcome, reply_to}
use Rattle.zh_office.specs.Runs.{Runs, Turn}
use Rattle.zh_office.specs.declared.answer.Answer.{Answer}
use Rattle.zh_office.specs.declared.answer.Answer.TheVariants as answers

-- logs with the same commands and the same number are equal
Log_is : (a b : Log) → a.accepted ≡ b.accepted → a.acknowledged ≡ b.acknowledged → a ≡ b
Log_is a b accepted acknowledged = rw accepted (rw acknowledged refl)

pub nothing-followed_by : (log : Log) → followed_by nothing log ≡ log
nothing-followed_by log = Log_is (followed_by nothing log) log refl (omega arith)

pub followed_by-assoc : (a b c : Log) → followed_by (followed_by a b) c ≡ followed_by a (followed_by b c)
followed_by-assoc a b c =
    Log_is (followed_by (followed_by a b) c) (followed_by a (followed_by b c)) (append_assoc a.accepted b.accepted c.accepted) (omega arith)

pub log_append : (xs ys : List Exchange) → log_of (xs ++ ys) ≡ followed_by (log_of xs) (log_of ys)
log_append [] ys = sym (nothing-followed_by (log_of ys))
log_append (x ∷ xs) ys =
    let one = log_by x.command x.answer in
    ap (followed_by one) (log_append xs ys) ∙ sym (followed_by-assoc one (log_of xs) (log_of ys))

-- the log after one more exchange
pub log_more : (xs : List Exchange) (x : Exchange) → log_of (xs ++ x ∷ []) ≡ followed_by (log_of xs) (log_by x.command x.answer)
log_more xs x = log_append xs (x ∷ []) ∙ ap (followed_by (log_of xs)) (log_none (log_by x.command x.answer))

pub texts-append : (xs ys : List Exchange) → texts (xs ++ ys) ≡ texts xs ++ texts ys
texts-append xs ys = flat_map-append text_of xs ys

pub lines-append : (xs ys : List Exchange) → lines_given (xs ++ ys) ≡ lines_given xs ++ lines_given ys
lines-append xs ys = map-append (λ (x : Exchange). line_in x.given) xs ys

pub disk-append : (disk : Trail) (xs ys : List Exchange) → disk_by disk (xs ++ ys) ≡ disk_by (disk_by disk xs) ys
disk-append disk [] ys = refl
disk-append disk (x ∷ xs) ys = disk-append x.disk xs ys

pub held_more : (held : Held) (xs : List Exchange) (x : Exchange) → held_by held (xs ++ x ∷ []) ≡ held_then (held_by held xs) x.given x.answer
held_more held [] x = refl
held_more held (y ∷ ys) x = held_more (held_then held y.given y.answer) ys x

-- some exchanges, then others
pub Runs-append : (old mid new : OnDisk Office) (xs ys : List Exchange) → Runs old xs mid → Runs mid ys new → Runs old (xs ++ ys) new
Runs-append old mid new [] ys run then = subst (λ (o : OnDisk Office). Runs o ys new) run then
Runs-append old mid new (x ∷ xs) ys (next, turn, run) then = (next, turn, Runs-append next mid new xs ys run then)

pub Runs-one : (old new : OnDisk Office) (x : Exchange) → Turn old x new → Runs old (x ∷ []) new
Runs-one old new x turn = (new, turn, refl)

-- the log of a reported outcome
reported : (command : Command) (outcome : Outcome) → log_by (Some command) (answers.Reply (reply_to outcome)) ≡ logged command outcome
reported command (outcomes.Stored number) = refl
reported command outcomes.Same = refl
reported command (outcomes.Refused reason) = refl
reported command outcomes.Spent = refl
reported command outcomes.Device = refl
reported command outcomes.Broken = refl

pub reported_log : (old new : OnDisk Ledger) (command : Command) (answer : Answer) (by : ReportsOutcome old command answer new)
    → log_by (Some command) answer ≡ logged command by.outcome
reported_log old new command answer by = ap (log_by (Some command)) by.reply ∙ reported command by.outcome
