-- What submitted commands leave, command by command.
use Rattle.std.proofs.Common.{◌≡◌, inl, ⊎_elim, ℕ, suc, ◌+◌, List, [], ◌∷◌, take, refl, sym, ◌∙◌, ap, subst, arith, one-add, zero-add, add-zero, Bool, true, false, IsTrue}
use Rattle.std.proofs.lemmas.List.{append-nil}
use Rattle.zh_disk.specs.Disk.{Trail, Leaves, Moves, IsImage}
use Rattle.zh_disk.specs.History.{History}
use Rattle.zh_disk.proofs.CallerLemmas.{no_call, leaves_none, leaves_now, leaves_join, leaves_weaken}
use Rattle.zh_returns.specs.Step.{after}
use Rattle.zh_returns.specs.Tally.{Tally}
use Rattle.zh_returns.specs.declared.command.Command.{Command}
use Rattle.zh_ledger.specs.declared.outcome.Outcome.{Outcome}
use Rattle.zh_ledger.specs.declared.outcome.Outcome.TheVariants.{Stored, Device, Broken}
use Rattle.zh_ledger.specs.Faults.{may_write}
use Rattle.zh_ledger.specs.Ledger.{Ledger, MayResult, MayResultWhere, Becomes, stored}
use Rattle.zh_ledger.specs.Stands.{Holds}
use Rattle.zh_ledger.specs.Images.{KeepsOrSteps, Stores, LeavesBy, HasSome, ComesToHave, SameOutsideSlots}
use Rattle.zh_ledger.specs.Submissions.{OnDisk, on_disk, Submission, Log, nothing, followed_by, logged, Submits, IsLogged}
use Rattle.zh_ledger.proofs.StandsLemmas.{holds_kept}
use Rattle.zh_ledger.proofs.OutsideLemmas.{outside_then, outside_untouched}

-- an image with a count has the first 0 of any commands
pub has_none : (tally : Tally) (commands : List Command) (c : List ℕ) → Holds tally c → HasSome tally commands 0 c
has_none tally commands c holds = record { number = 0; at_least = omega arith; within = omega arith; holds = holds }

-- an image with the count after a command has this command as the first
pub has_first : (s : Ledger) (command : Command) (commands : List Command) (c : List ℕ) → Holds (stored s command).tally c → HasSome s.tally (command ∷ commands) 1 c
has_first s command commands c holds = record { number = 1; at_least = omega arith; within = omega arith; holds = holds }

-- after a stored command, an image that has some of the others has this command, too
has_more : (s : Ledger) (command : Command) (commands : List Command) (least : ℕ) (c : List ℕ) → HasSome (stored s command).tally commands least c → HasSome s.tally (command ∷ commands) (1 + least) c
has_more s command commands least c some = record { number = suc some.number; at_least = omega (arith, some.at_least); within = omega (arith, some.within); holds = some.holds }

has_any : (tally : Tally) (commands : List Command) (least : ℕ) (c : List ℕ) → HasSome tally commands least c → HasSome tally commands 0 c
has_any tally commands least c some = record { number = some.number; at_least = omega arith; within = some.within; holds = some.holds }

keeps_or_has : (s : Ledger) (command : Command) (commands : List Command) (x f : List ℕ) → KeepsOrSteps s command x f → ComesToHave s (command ∷ commands) 0 x f
keeps_or_has s command commands x f by = λ kept. ⊎_elim
    (λ still. has_none s.tally (command ∷ commands) f still)
    (λ now. has_any s.tally (command ∷ commands) 1 f (has_first s command commands f now)) (by kept)

-- a history with another trail
abbrev with_trail : History → Trail → History
with_trail history trail = record history { trail = trail }

-- the same ledger and moments, whatever else is known of the disk
same_start : (old mid : OnDisk Ledger) (log : Log) (new : OnDisk Ledger) → mid.holder ≡ old.holder → mid.history.trail ≡ old.history.trail → IsLogged mid log new → IsLogged old log new
same_start old mid log new ledger trail logs =
    let moved : IsLogged (on_disk old.holder (with_trail mid.history old.history.trail)) log new =
    subst (λ (o : OnDisk Ledger). IsLogged o log new) (λ i. on_disk (ledger i) (with_trail mid.history (trail i))) logs in
    record { each_moment = moved.each_moment; last_moment = moved.last_moment; last = moved.last; within = moved.within; count = moved.count; outside = moved.outside }

-- commands that change nothing
pub none_logged : (old new : OnDisk Ledger) → new.holder ≡ old.holder → new.history.trail ≡ old.history.trail → IsLogged old nothing new
none_logged old new ledger trail = record {
  each_moment = leaves_none _ old.history.trail new.history.trail trail;
  last_moment = λ c image. (c, subst (λ (t : Trail). IsImage t.now c) trail image, λ kept. has_none old.holder.tally [] c (holds_kept old.holder c kept));
  last = omega arith;
  within = omega arith;
  count = ap (λ (s : Ledger). s.tally) ledger;
  outside = outside_untouched old.history.trail new.history.trail trail;
}

-- a command is stored, and others follow
module _ (old mid new : OnDisk Ledger) (command : Command) (log : Log) (ledger : mid.holder ≡ stored old.holder command)
    (leaves : Leaves (KeepsOrSteps old.holder command) old.history.trail mid.history.trail)
    (moves : Moves (Stores old.holder command) old.history.trail.now mid.history.trail.now)
    (outside : Leaves SameOutsideSlots old.history.trail mid.history.trail) (logs : IsLogged mid log new) where
  go_on : (least : ℕ) (x f : List ℕ) → IsImage mid.history.trail.now x → ComesToHave mid.holder log.accepted least x f → (d : List ℕ)
      × IsImage old.history.trail.now d × ComesToHave old.holder (command ∷ log.accepted) (1 + least) d f
  go_on least x f image by =
      let from = moves x image in
      let so : ComesToHave (stored old.holder command) log.accepted least x f = subst (λ (s : Ledger). ComesToHave s log.accepted least x f) ledger by in
      (from.0, from.1, λ kept. has_more old.holder command log.accepted least f (so (from.2 kept)))

  at_any : (x f : List ℕ) → IsImage mid.history.trail.now x → ComesToHave mid.holder log.accepted 0 x f → (d : List ℕ)
      × IsImage old.history.trail.now d × ComesToHave old.holder (command ∷ log.accepted) 0 d f
  at_any x f image by =
      let from = go_on 0 x f image by in
      (from.0, from.1, λ kept. has_any old.holder.tally (command ∷ log.accepted) 1 f (from.2 kept))

  at_end : Moves (ComesToHave old.holder (command ∷ log.accepted) (1 + log.acknowledged)) old.history.trail.now new.history.trail.now
  at_end f image = let from = logs.last_moment f image in go_on log.acknowledged from.0 f from.1 from.2

  count_on : new.holder.tally ≡ after old.holder.tally (take (1 + log.acknowledged) (command ∷ log.accepted))
  count_on = logs.count ∙ ap (λ (s : Ledger). after s.tally (take log.acknowledged log.accepted)) ledger
      ∙ ap (λ (n : ℕ). after old.holder.tally (take n (command ∷ log.accepted))) (sym (one-add log.acknowledged))

  stored_logged : IsLogged old (followed_by (record { accepted = command ∷ []; acknowledged = 1 }) log) new
  stored_logged = record {
    each_moment = leaves_join (KeepsOrSteps old.holder command) (ComesToHave mid.holder log.accepted 0) (ComesToHave old.holder (command ∷ log.accepted) 0)
        old.history.trail mid.history.trail new.history.trail leaves logs.each_moment (λ x f image by. keeps_or_has old.holder command log.accepted x f by) at_any;
    last_moment = at_end;
    last = omega (arith, logs.last);
    within = omega (arith, logs.within);
    count = count_on;
    outside = outside_then old.history.trail mid.history.trail new.history.trail outside logs.outside;
  }

-- the device failed at a command, and nothing more is done
device_logged : (old new : OnDisk Ledger) (command : Command) → new.holder.tally ≡ old.holder.tally
    → Leaves (KeepsOrSteps old.holder command) old.history.trail new.history.trail → Leaves SameOutsideSlots old.history.trail
    new.history.trail → IsLogged old (record { accepted = command ∷ []; acknowledged = 0 }) new
device_logged old new command tally leaves outside = record {
  each_moment = leaves_weaken (KeepsOrSteps old.holder command) (ComesToHave old.holder (command ∷ []) 0) old.history.trail
      new.history.trail (λ x f image by. keeps_or_has old.holder command [] x f by) leaves;
  last_moment = λ f image.
      let from = leaves_now (KeepsOrSteps old.holder command) old.history.trail new.history.trail (λ c kept. inl (holds_kept old.holder c kept)) leaves f image in
      (from.0, from.1, keeps_or_has old.holder command [] from.0 f from.2);
  last = omega arith;
  within = omega arith;
  count = tally;
  outside = outside;
}

-- something that changes neither ledger, nor moments, nor log
pub record IsQuiet (old : OnDisk Ledger) (log : Log) (new : OnDisk Ledger) : Type 0 where
  pub ledger : new.holder ≡ old.holder
  pub trail : new.history.trail ≡ old.history.trail
  pub none : log ≡ nothing

-- a broken ledger stores nothing
broken_quiet : (old : OnDisk Ledger) (command : Command) (outcome : Outcome) (new : OnDisk Ledger) → old.holder.store.broken ≡ true
    → Submission old command outcome new → IsTrue new.history.honest → IsQuiet old (logged command outcome) new
broken_quiet old command outcome new broken by honest =
    let is : outcome ≡ Broken = subst (λ (b : Bool). MayResultWhere b old.holder command outcome) broken by.results in
    record {
      ledger = subst (λ (o : Outcome). Becomes old.holder command o new.holder) is by.after;
      trail = subst (λ (o : Outcome). LeavesBy old.holder command o old.history.trail new.history.trail) is (by.call.did honest).leaves;
      none = ap (logged command) is;
    }

quiet_log : (log : Log) → followed_by nothing log ≡ log
quiet_log log = λ i. record { accepted = log.accepted; acknowledged = zero-add log.acknowledged i }

-- if a disk is honest after commands, it was honest before them
pub submits_honest : (old : OnDisk Ledger) (xs : List (Command × Outcome)) (log : Log) (new : OnDisk Ledger) → Submits old xs log new → IsTrue new.history.honest → IsTrue old.history.honest
submits_honest old [] log new (none, same) honest = subst (λ (o : OnDisk Ledger). IsTrue o.history.honest) same honest
submits_honest old (x ∷ xs) log new (mid, others, by, log_is, run) honest = by.call.kept (submits_honest mid xs others new run honest)

-- after a fault of the device, no later command changes anything
pub broken_run : (old : OnDisk Ledger) (xs : List (Command × Outcome)) (log : Log) (new : OnDisk Ledger) → old.holder.store.broken ≡ true
    → IsTrue new.history.honest → Submits old xs log new → IsQuiet old log new
broken_run old [] log new broken honest (none, same) =
    record { ledger = ap (λ (o : OnDisk Ledger). o.holder) same; trail = ap (λ (o : OnDisk Ledger). o.history.trail) same; none = none }
broken_run old (x ∷ xs) log new broken honest (mid, others, by, log_is, run) =
    let quiet = broken_quiet old x.0 x.1 mid broken by (submits_honest mid xs others new run honest) in
    let then = broken_run mid xs others new (ap (λ (s : Ledger). s.store.broken) quiet.ledger ∙ broken) honest run in
    record {
      ledger = then.ledger ∙ quiet.ledger;
      trail = then.trail ∙ quiet.trail;
      none = log_is ∙ ap (λ (l : Log). followed_by l others) (by.logs ∙ quiet.none) ∙ quiet_log others ∙ then.none;
    }

-- a command changes nothing, and others follow
quiet_logged : (old mid new : OnDisk Ledger) (log : Log) → mid.holder ≡ old.holder → mid.history.trail ≡ old.history.trail → IsLogged mid log new → IsLogged old (followed_by nothing log) new
quiet_logged old mid new log ledger trail logs = subst (λ (l : Log). IsLogged old l new) (sym (quiet_log log)) (same_start old mid log new ledger trail logs)

-- what a command adds, whatever its outcome
command_logged : (old mid new : OnDisk Ledger) (log : Log) (command : Command) (outcome : Outcome) → Becomes old.holder command outcome
    mid.holder → LeavesBy old.holder command outcome old.history.trail mid.history.trail → Leaves SameOutsideSlots old.history.trail mid.history.trail
    → (mid.holder.store.broken ≡ true → IsQuiet mid log new) → IsLogged mid log new → IsLogged old (followed_by (logged command outcome) log) new
command_logged old mid new log command (Stored accepted) ledger leaves outside then logs = stored_logged old mid new command log ledger leaves.0 leaves.1 outside logs
command_logged old mid new log command Device ledger leaves outside then logs =
    let still = then ledger.broken in
    let same : Leaves (KeepsOrSteps old.holder command) old.history.trail new.history.trail = subst (Leaves (KeepsOrSteps old.holder command) old.history.trail) (sym still.trail) leaves in
    let around : Leaves SameOutsideSlots old.history.trail new.history.trail = subst (Leaves SameOutsideSlots old.history.trail) (sym still.trail) outside in
    subst (λ (l : Log). IsLogged old (followed_by (logged command Device) l) new) (sym still.none)
    (device_logged old new command (ap (λ (s : Ledger). s.tally) still.ledger ∙ ledger.tally) same around)
command_logged old mid new log command outcome ledger leaves outside then logs = quiet_logged old mid new log ledger leaves logs

-- the log of a command that is followed by others
pub log_first : (old : OnDisk Ledger) (command : Command) (outcome : Outcome) (mid : OnDisk Ledger)
    (by : Submission old command outcome mid) (log others : Log) → log ≡ followed_by by.log others → log ≡ followed_by (logged command outcome) others
log_first old command outcome mid by log others is = is ∙ ap (λ (l : Log). followed_by l others) by.logs

pub submits_logged : (old : OnDisk Ledger) (xs : List (Command × Outcome)) (log : Log) (new : OnDisk Ledger) → IsTrue new.history.honest → Submits old xs log new → IsLogged old log new
submits_logged old [] log new honest (none, same) =
    subst (λ (l : Log). IsLogged old l new) (sym none) (none_logged old new (ap (λ (o : OnDisk Ledger). o.holder) same) (ap (λ (o : OnDisk Ledger). o.history.trail) same))
submits_logged old (x ∷ xs) log new honest (mid, others, by, log_is, run) =
    let keeps = by.call.did (submits_honest mid xs others new run honest) in
    subst (λ (l : Log). IsLogged old l new) (sym (log_first old x.0 x.1 mid by log others log_is))
    (command_logged old mid new others x.0 x.1 by.after keeps.leaves keeps.outside
    (λ broken. broken_run mid xs others new broken honest run)
    (submits_logged mid xs others new honest run))

pub log_none : (log : Log) → followed_by log nothing ≡ log
log_none log = λ i. record { accepted = append-nil log.accepted i; acknowledged = add-zero log.acknowledged i }

-- one command is a run of one command, and no command is an empty run
pub one_submitted : (old : OnDisk Ledger) (command : Command) (outcome : Outcome) (new : OnDisk Ledger) (by : Submission old command outcome new) → Submits old ((command, outcome) ∷ []) by.log new
one_submitted old command outcome new by = (new, nothing, by, sym (log_none by.log), (refl, refl))

pub none_submitted : (old : OnDisk Ledger) → Submits old [] nothing old
none_submitted old = (refl, refl)

pub submission_logged : (old : OnDisk Ledger) (command : Command) (outcome : Outcome) (new : OnDisk Ledger)
    (by : Submission old command outcome new) → IsTrue new.history.honest → IsLogged old by.log new
submission_logged old command outcome new by honest = submits_logged old ((command, outcome) ∷ []) by.log new honest (one_submitted old command outcome new by)

-- a command that the ledger does not store changes nothing
pub unchanged : (s : Ledger) (h : History) (command : Command) (outcome : Outcome) → MayResult s command outcome → may_write outcome ≡ false → Submission (on_disk s h) command outcome (on_disk s h)
unchanged s h command (Stored accepted) results reads = absurd (cc)
unchanged s h command Device results reads = absurd (cc)
unchanged s h command outcome results reads = record {
  results = results;
  after = refl;
  call = no_call refl (λ honest. record { leaves = refl; outside = outside_untouched h.trail h.trail refl });
  log = nothing;
  logs = refl;
}
