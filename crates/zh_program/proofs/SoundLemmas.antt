-- What a command leaves of a disk on which a ledger keeps the count after the commands before it. Each image has the count
-- before the command or after it, so it has the count after a prefix of the accepted commands that includes every acknowledged
-- one.
use Rattle.std.proofs.Common.{◌≡◌, ℕ, ◌+◌, ◌≤◌, List, [], ◌∷◌, ◌++◌, length, take, Bool, true, false, IsTrue, Option, Some, None}
use Rattle.std.proofs.Common.{inl, ⊎_elim, refl, sym, ◌∙◌, ap, subst, arith, length-append, add-zero}
use Rattle.std.proofs.lemmas.List.{take_all, take-append-le, append-nil}
use Rattle.std.proofs.Math.Seq.{take-append-add}
use Rattle.std.specs.Prelude.{IfSome}
use Rattle.zh_disk.specs.Disk.{Trail, IsImage, Leaves, Moves}
use Rattle.zh_disk.proofs.CallerLemmas.{leaves_now}
use Rattle.zh_returns.specs.declared.command.Command.{Command}
use Rattle.zh_returns.specs.Judgement.{judge}
use Rattle.zh_returns.specs.Step.{step, after}
use Rattle.zh_returns.specs.Tally.{Tally}
use Rattle.zh_returns.specs.declared.judgement.Verdict.{Verdict}
use Rattle.zh_returns.specs.declared.judgement.Verdict.TheVariants as verdicts
use Rattle.zh_ledger.specs.Images.{HasSome, KeepsOrSteps, LeavesBy, Stores}
use Rattle.zh_ledger.specs.Ledger.{Becomes, Ledger, MayFollow, MayResult, MayResultWhere, MayStoreWhere, is_spent, stored}
use Rattle.zh_ledger.specs.Stands.{Holds, HoldsLedger}
use Rattle.zh_ledger.specs.Submissions.{Log, OnDisk, followed_by, logged, nothing}
use Rattle.zh_ledger.specs.declared.outcome.Outcome.{Outcome}
use Rattle.zh_ledger.specs.declared.outcome.Outcome.TheVariants.{Stored, Same, Device}
use Rattle.zh_ledger.proofs.CallerLemmas.{has_none, log_none}
use Rattle.zh_office.specs.Requests.{Acts, reply_to}
use Rattle.zh_office.specs.declared.answer.Answer.{Answer}
use Rattle.zh_office.specs.declared.answer.Answer.TheVariants as answers
use Rattle.zh_commands.specs.declared.replies.Reply.TheVariants as replies
use Rattle.zh_office.specs.Exchanges.{count_by, log_by}
use Rattle.zh_office.proofs.CallerLemmas.{reported_log}
use Rattle.zh_program.specs.Stopped.{Always}
use Rattle.zh_program.proofs.AlwaysLemmas.{always_left, always_same}

pub after-append : (t : Tally) (cs ds : List Command) → after t (cs ++ ds) ≡ after (after t cs) ds
after-append t [] ds = refl
after-append t (c ∷ cs) ds = after-append (step t c) cs ds

-- An image that the ledger knows holds the ledger's count.
pub holds_kept : (s : Ledger) (c : List ℕ) → HoldsLedger s c → Holds s.tally c
holds_kept s c kept = record { content = kept.content; end = kept.end; format = s.format; clean = kept.clean; stands = kept.stands }

-- An image that holds a prefix of further commands also holds the commands before them.
pub has_after : (t : Tally) (cs ds : List Command) (least : ℕ) (c : List ℕ) → HasSome (after t cs) ds least c → HasSome t (cs ++ ds) (length cs + least) c
has_after t cs ds least c some = record {
  number = length cs + some.number;
  at_least = omega (arith, some.at_least);
  within = omega (arith, some.within, length-append cs ds);
  holds = subst (λ (u : Tally). Holds u c) (sym (ap (after t) (take-append-add cs ds some.number) ∙ after-append t cs (take some.number ds))) some.holds;
}

has_one : (s : Ledger) (command : Command) (c : List ℕ) → Holds (step s.tally command) c → HasSome s.tally (command ∷ []) 1 c
has_one s command c holds = record { number = 1; at_least = omega arith; within = omega arith; holds = holds }

pub has_any : (tally : Tally) (commands : List Command) (least fewer : ℕ) (c : List ℕ) → fewer ≤ least → HasSome tally commands least c → HasSome tally commands fewer c
has_any tally commands least fewer c le some = record { number = some.number; at_least = omega (arith, some.at_least, le); within = some.within; holds = some.holds }

-- An image with a prefix of some commands has a prefix of a longer list.
pub has_front : (tally : Tally) (cs ds : List Command) (least : ℕ) (c : List ℕ) → HasSome tally cs least c → HasSome tally (cs ++ ds) least c
has_front tally cs ds least c some = record {
  number = some.number;
  at_least = some.at_least;
  within = omega (arith, some.within, length-append cs ds);
  holds = subst (λ (l : List Command). Holds (after tally l) c) (sym (take-append-le some.number cs ds some.within)) some.holds;
}

-- While the device has not failed, every accepted command is acknowledged, and every image is one that the ledger knows.
pub record IsWhole (log : Log) (o : OnDisk Ledger) : Type 0 where
  pub all : log.acknowledged ≡ length log.accepted
  pub images : (c : List ℕ) → IsImage o.history.trail.now c → HoldsLedger o.holder c

-- The ledger has the count after the acknowledged commands, and each image the count after a prefix of the accepted ones.
pub record IsSoundBy (tally : Tally) (log : Log) (o : OnDisk Ledger) : Type 0 where
  pub count : o.holder.tally ≡ count_by tally log
  pub each : (c : List ℕ) → IsImage o.history.trail.now c → HasSome tally log.accepted log.acknowledged c
  pub whole : o.holder.store.broken ≡ false → IsWhole log o

-- The same after a call that adds this to the log. At each moment of the call, an image has what was acknowledged before it.
pub record GoesOnBy (tally : Tally) (log more : Log) (old new : OnDisk Ledger) : Type 0 where
  pub sound : IsSoundBy tally (followed_by log more) new
  pub moments : Always (HasSome tally (log.accepted ++ more.accepted) log.acknowledged) old.history.trail new.history.trail

-- Nothing is done.
quiet : (tally : Tally) (log : Log) (old new : OnDisk Ledger) → IsSoundBy tally log old
    → new.holder ≡ old.holder
    → new.history.trail ≡ old.history.trail
    → GoesOnBy tally log nothing old new
quiet tally log old new sound holder trail = record {
  sound = subst (λ (l : Log). IsSoundBy tally l new) (sym (log_none log)) (record {
    count = ap (λ (s : Ledger). s.tally) holder ∙ sound.count;
    each = λ c image. sound.each c (subst (λ (t : Trail). IsImage t.now c) trail image);
    whole = λ still.
        let before = sound.whole (sym (ap (λ (s : Ledger). s.store.broken) holder) ∙ still) in
        record { all = before.all; images = λ c image. subst (λ (s : Ledger). HoldsLedger s c) (sym holder) (before.images c (subst (λ (t : Trail). IsImage t.now c) trail image)) };
  });
  moments = always_same (HasSome tally (log.accepted ++ []) log.acknowledged) old.history.trail new.history.trail trail
      (λ c image. subst (λ (cs : List Command). HasSome tally cs log.acknowledged c) (sym (append-nil log.accepted)) (sound.each c image));
}

-- A command is stored, or the device fails while it is.
module _ (tally : Tally) (log : Log) (old new : OnDisk Ledger) (command : Command) (sound : IsSoundBy tally log old) (whole : IsWhole log old)
    (leaves : Leaves (KeepsOrSteps old.holder command) old.history.trail new.history.trail) where
  abbrev all : List Command
  all = log.accepted ++ command ∷ []

  counts_all : old.holder.tally ≡ after tally log.accepted
  counts_all = sound.count ∙ ap (after tally) (take_all log.acknowledged log.accepted (omega (arith, whole.all)))

  has_more : (least : ℕ) (c : List ℕ) → HasSome old.holder.tally (command ∷ []) least c → HasSome tally all (log.acknowledged + least) c
  has_more least c some =
      subst (λ (n : ℕ). HasSome tally all (n + least) c) (sym whole.all)
      (has_after tally log.accepted (command ∷ []) least c (subst (λ (t : Tally). HasSome t (command ∷ []) least c) counts_all some))

  by_image : (d c : List ℕ) → IsImage old.history.trail.now d → KeepsOrSteps old.holder command d c → HasSome tally all (log.acknowledged + 0) c
  by_image d c image by = ⊎_elim
      (λ still. has_more 0 c (has_none old.holder.tally (command ∷ []) c still))
      (λ now. has_any tally all (log.acknowledged + 1) (log.acknowledged + 0) c (omega arith) (has_more 1 c (has_one old.holder command c now)))
      (by (whole.images d image))

  at_start : (c : List ℕ) → IsImage old.history.trail.now c → HasSome tally all (log.acknowledged + 0) c
  at_start c image = has_more 0 c (has_none old.holder.tally (command ∷ []) c (holds_kept old.holder c (whole.images c image)))

  moments : Always (HasSome tally all log.acknowledged) old.history.trail new.history.trail
  moments = subst (λ (n : ℕ). Always (HasSome tally all n) old.history.trail new.history.trail) (add-zero log.acknowledged)
      (always_left (KeepsOrSteps old.holder command) (HasSome tally all (log.acknowledged + 0)) old.history.trail new.history.trail leaves by_image at_start)

  stored_on : new.holder ≡ stored old.holder command
      → Moves (Stores old.holder command) old.history.trail.now new.history.trail.now
      → GoesOnBy tally log (record { accepted = command ∷ []; acknowledged = 1 }) old new
  stored_on becomes moves =
      let known : (c : List ℕ) → IsImage new.history.trail.now c → HoldsLedger (stored old.holder command) c
      = λ c image. let from = moves c image in from.2 (whole.images from.0 from.1) in
      let more : after (after tally log.accepted) (command ∷ []) ≡ after tally all = sym (after-append tally log.accepted (command ∷ [])) in
      let every : take (log.acknowledged + 1) all ≡ all
      = take_all (log.acknowledged + 1) all (omega (arith, whole.all, length-append log.accepted (command ∷ []))) in
      record {
        sound = record {
          count = ap (λ (s : Ledger). s.tally) becomes ∙ ap (λ (t : Tally). step t command) counts_all ∙ more ∙ ap (after tally) (sym every);
          each = λ c image. has_more 1 c (has_one old.holder command c (holds_kept (stored old.holder command) c (known c image)));
          whole = λ still. record {
            all = omega (arith, whole.all, length-append log.accepted (command ∷ []));
            images = λ c image. subst (λ (s : Ledger). HoldsLedger s c) (sym becomes) (known c image);
          };
        };
        moments = moments;
      }

  failed_on : new.holder.tally ≡ old.holder.tally
      → new.holder.store.broken ≡ true
      → GoesOnBy tally log (record { accepted = command ∷ []; acknowledged = 0 }) old new
  failed_on same broken =
      let front : take (length log.accepted + 0) all ≡ log.accepted = take-append-add log.accepted (command ∷ []) 0 ∙ append-nil log.accepted in
      let acknowledged : take (log.acknowledged + 0) all ≡ log.accepted = ap (λ (n : ℕ). take (n + 0) all) whole.all ∙ front in
      record {
        sound = record {
          count = same ∙ counts_all ∙ ap (after tally) (sym acknowledged);
          each = λ c image.
              let from = leaves_now (KeepsOrSteps old.holder command) old.history.trail new.history.trail (λ x kept. inl (holds_kept old.holder x kept)) leaves c image in
              by_image from.0 c from.1 from.2;
          whole = λ still. absurd cc;
        };
        moments = moments;
      }

-- A command that is stored or meets a fault did not find a broken ledger.
stored_whole : (b : Bool) (s : Ledger) (c : Command) (k : ℕ) → MayResultWhere b s c (Stored k) → b ≡ false
stored_whole true s c k results = absurd cc
stored_whole false s c k results = refl

device_whole : (b : Bool) (s : Ledger) (c : Command) → MayResultWhere b s c Device → b ≡ false
device_whole true s c results = absurd cc
device_whole false s c results = refl

outcome_goes_on : (tally : Tally) (log : Log) (old new : OnDisk Ledger) (command : Command) (outcome : Outcome)
    → IsSoundBy tally log old
    → MayResult old.holder command outcome
    → Becomes old.holder command outcome new.holder
    → LeavesBy old.holder command outcome old.history.trail new.history.trail
    → GoesOnBy tally log (logged command outcome) old new
outcome_goes_on tally log old new command (Stored k) sound results becomes leaves =
    stored_on tally log old new command sound (sound.whole (stored_whole old.holder.store.broken old.holder command k results)) leaves.0 becomes leaves.1
outcome_goes_on tally log old new command Device sound results becomes leaves =
    failed_on tally log old new command sound (sound.whole (device_whole old.holder.store.broken old.holder command results)) leaves becomes.tally becomes.broken
outcome_goes_on tally log old new command outcome sound results becomes leaves = quiet tally log old new sound becomes leaves

pub acts_goes_on : (tally : Tally) (log : Log) (old new : OnDisk Ledger)
    (command : Option Command) (May : Answer → Type 0) (answer : Answer)
    → IsSoundBy tally log old
    → IsTrue new.history.honest
    → Acts old command May answer new
    → GoesOnBy tally log (log_by command answer) old new
acts_goes_on tally log old new None May answer sound honest (may, same) =
    quiet tally log old new sound (ap (λ (o : OnDisk Ledger). o.holder) same) (ap (λ (o : OnDisk Ledger). o.history.trail) same)
acts_goes_on tally log old new (Some command) May answer sound honest by =
    subst (λ (l : Log). GoesOnBy tally log l old new) (sym (reported_log old new command answer by))
    (outcome_goes_on tally log old new command by.outcome sound by.submission.results by.submission.after (by.submission.call.did honest).leaves)

-- An accepted command was judged acceptable.
accepted_by : (v : Verdict) (s : Ledger) (c d : Command) (outcome : Outcome) → judge s.tally c ≡ v
    → MayFollow v s c outcome
    → (logged c outcome).accepted ≡ d ∷ []
    → judge s.tally d ≡ verdicts.Accept
accepted_by verdicts.Accept s c d (Stored k) is may same = let e : c ≡ d = cc in subst (λ (x : Command). judge s.tally x ≡ verdicts.Accept) e is
accepted_by verdicts.Accept s c d Device is may same = let e : c ≡ d = cc in subst (λ (x : Command). judge s.tally x ≡ verdicts.Accept) e is
accepted_by verdicts.Accept s c d outcome is may same = absurd cc
accepted_by verdicts.Same s c d outcome is may same = let wrong : [] ≡ d ∷ [] = subst (λ (o : Outcome). (logged c o).accepted ≡ d ∷ []) may same in absurd cc
accepted_by (verdicts.Refused w) s c d outcome is may same = let wrong : [] ≡ d ∷ [] = subst (λ (o : Outcome). (logged c o).accepted ≡ d ∷ []) may same in absurd cc

accepted_where : (b : Bool) (s : Ledger) (c d : Command) (outcome : Outcome) → MayResultWhere b s c outcome
    → (logged c outcome).accepted ≡ d ∷ []
    → (judge s.tally d ≡ verdicts.Accept) × (b ≡ false)
accepted_where true s c d outcome may same = let wrong : [] ≡ d ∷ [] = subst (λ (o : Outcome). (logged c o).accepted ≡ d ∷ []) may same in absurd cc
accepted_where false s c d outcome may same = (accepted_by (judge s.tally c) s c d outcome refl may same, refl)

pub acts_accepted : (old new : OnDisk Ledger) (command : Option Command) (May : Answer → Type 0) (answer : Answer) (d : Command)
    → Acts old command May answer new
    → (log_by command answer).accepted ≡ d ∷ []
    → (judge old.holder.tally d ≡ verdicts.Accept) × (old.holder.store.broken ≡ false)
acts_accepted old new None May answer d acts is = absurd cc
acts_accepted old new (Some command) May answer d by is =
    let one : (logged command by.outcome).accepted ≡ d ∷ [] = sym (ap (λ (l : Log). l.accepted) (reported_log old new command answer by)) ∙ is in
    accepted_where old.holder.store.broken old.holder command d by.outcome by.submission.results one

-- A command is answered `same` only if it is judged the same.
same_stores : (spent : Bool) (accepted : ℕ) → MayStoreWhere spent accepted Same → ⊥
same_stores true accepted may = absurd cc
same_stores false accepted may = ⊎_elim (λ stored. absurd cc) (λ device. absurd cc) may

same_by : (v : Verdict) (s : Ledger) (c : Command) → judge s.tally c ≡ v → MayFollow v s c Same → judge s.tally c ≡ verdicts.Same
same_by verdicts.Accept s c is may = absurd (same_stores (is_spent s c) s.tally.accepted may)
same_by verdicts.Same s c is may = is
same_by (verdicts.Refused w) s c is may = absurd cc

same_where : (b : Bool) (s : Ledger) (c : Command) → MayResultWhere b s c Same → judge s.tally c ≡ verdicts.Same
same_where true s c may = absurd cc
same_where false s c may = same_by (judge s.tally c) s c refl may

reports_same : (outcome : Outcome) → answers.Reply (reply_to outcome) ≡ answers.Reply replies.Same → outcome ≡ Same
reports_same Same is = refl
reports_same outcome is = absurd cc

pub acts_same : (old new : OnDisk Ledger) (command : Option Command) (May : Answer → Type 0) (answer : Answer)
    → Acts old command May answer new
    → answer ≡ answers.Reply replies.Same
    → IfSome command (λ c. judge old.holder.tally c ≡ verdicts.Same)
acts_same old new None May answer acts is = tt
acts_same old new (Some command) May answer by is =
    let same : by.outcome ≡ Same = reports_same by.outcome (sym by.reply ∙ is) in
    same_where old.holder.store.broken old.holder command
    (subst (λ (outcome : Outcome). MayResult old.holder command outcome) same by.submission.results)
