-- A holder that is given something in a night and answers or is stopped.
use Rattle.std.proofs.Common.{◌≡◌, ℕ, ◌+◌, ◌≤◌, List, ◌++◌, length, take, refl, sym, ◌∙◌, ap, subst, arith, length-append, Bool, true, false, Option, Some}
use Rattle.std.specs.Prelude.{IfSome, IsTrue}
use Rattle.std.proofs.lemmas.List.{take_all}
use Rattle.std.proofs.Math.Seq.{take-append-add}
use Rattle.zh_disk.specs.Disk.{Moment, Trail, IsImage}
use Rattle.zh_disk.proofs.CallerLemmas.{leaves_none}
use Rattle.zh_districts.specs.Canton.{Canton}
use Rattle.zh_returns.specs.Step.{after}
use Rattle.zh_returns.specs.Tally.{Tally, empty}
use Rattle.zh_returns.specs.declared.command.Command.{Command}
use Rattle.zh_ledger.specs.Ledger.{Ledger}
use Rattle.zh_ledger.specs.Stands.{HoldsLedger}
use Rattle.zh_ledger.specs.Images.{HasSome, ComesToHave}
use Rattle.zh_ledger.specs.Submissions.{OnDisk, of_ledger, Log, followed_by, Submits, IsLogged}
use Rattle.zh_ledger.specs.Night.{Keeper, Stretch, after_stop, unacknowledged, StopsWithin, IsCurrent}
use Rattle.zh_ledger.specs.declared.outcome.Outcome.{Outcome}
use Rattle.zh_ledger.proofs.StandsLemmas.{after-append, holds_kept}
use Rattle.zh_ledger.proofs.SubmissionLemmas.{IsQuiet, broken_run, has_none, log_none, submits_logged}
use Rattle.zh_ledger.proofs.JudgedLemmas.{AreJudged, judged-append, judged_run, few_logged}
use Rattle.zh_ledger.proofs.StretchLemmas.{left_by, count_of, IsSure, after_stop_sure, has_after, whole_run}

-- What the holder is given submits these commands to its ledger, or none. Then it answers, or a stop comes before that.
module _ (K : Keeper) (canton : Canton) (kept : List Command) (s : Stretch K) (whole_old : OnDisk K.Holder)
    (begins : s.holder ≡ Some whole_old.holder) (now : s.now ≡ whole_old.history.trail.now) (xs : List (Command × Outcome)) (log : Log)
    (whole_new : OnDisk K.Holder) (honest : IsTrue whole_new.history.honest)
    (run : Submits (of_ledger K.ledger whole_old) xs log (of_ledger K.ledger whole_new)) (sure : IsSure canton kept s) where
  abbrev old : OnDisk Ledger
  old = of_ledger K.ledger whole_old

  abbrev new : OnDisk Ledger
  new = of_ledger K.ledger whole_new

  current : IsCurrent canton kept s.now s.log old.holder
  current = subst (λ (o : Option K.Holder). IfSome o (λ holder. IsCurrent canton kept s.now s.log (K.ledger holder))) begins sure.sound.ledger

  quiet : old.holder.store.broken ≡ true → IsQuiet old log new
  quiet broken = broken_run old xs log new broken honest run

  logs : IsLogged old log new
  logs = submits_logged old xs log new honest run

  counts_all : old.holder.store.broken ≡ false → old.holder.tally ≡ after (count_of canton kept) s.log.accepted
  counts_all whole = current.count ∙ after-append (empty canton) kept (take s.log.acknowledged s.log.accepted)
      ∙ ap (after (count_of canton kept)) (take_all s.log.acknowledged s.log.accepted (omega (arith, current.all_acknowledged whole)))

  known : old.holder.store.broken ≡ false → (c : List ℕ) → IsImage old.history.trail.now c → HoldsLedger old.holder c
  known whole c image = current.images whole c (subst (λ (m : Moment). IsImage m c) (sym now) image)

  has_command : old.holder.store.broken ≡ false → (more : List Command) (least : ℕ) (c : List ℕ) → HasSome old.holder.tally more least c
      → HasSome (count_of canton kept) (s.log.accepted ++ more) (s.log.acknowledged + least) c
  has_command whole more least c some =
      subst (λ (n : ℕ). HasSome (count_of canton kept) (s.log.accepted ++ more) (n + least) c) (sym (current.all_acknowledged whole))
      (has_after (count_of canton kept) s.log.accepted more least c (subst (λ (t : Tally). HasSome t more least c) (counts_all whole) some))

  judged_more : old.holder.store.broken ≡ false → AreJudged (count_of canton kept) (s.log.accepted ++ log.accepted)
  judged_more whole = judged-append (count_of canton kept) s.log.accepted log.accepted sure.judged
      (subst (λ (t : Tally). AreJudged t log.accepted) (counts_all whole) (judged_run old xs log new honest run))

  -- the stretch after an answer
  abbrev pub then_is : Stretch K
  then_is = record { now = whole_new.history.trail.now; holder = Some whole_new.holder; log = followed_by s.log log }

  -- the stretch of a broken ledger, which counts the same as before
  abbrev then_broken : Stretch K
  then_broken = record { now = s.now; holder = Some whole_new.holder; log = s.log }

  current_broken : old.holder.store.broken ≡ true → IsCurrent canton kept s.now s.log new.holder
  current_broken broken = subst (λ (l : Ledger). IsCurrent canton kept s.now s.log l) (sym (quiet broken).ledger) current

  as_it_was : old.holder.store.broken ≡ true → then_broken ≡ then_is
  as_it_was broken =
      let is = quiet broken in
      λ i. record {
        now = (now ∙ ap (λ (t : Trail). t.now) (sym is.trail)) i;
        holder = Some whole_new.holder;
        log = (sym (log_none s.log) ∙ ap (followed_by s.log) (sym is.none)) i;
      }

  answered_broken : old.holder.store.broken ≡ true → IsSure canton kept then_is
  answered_broken broken = subst (IsSure canton kept) (as_it_was broken) (record {
    sound = record { each = sure.sound.each; last = sure.sound.last; ledger = current_broken broken };
    number = sure.number;
    judged = sure.judged;
  })

  current_then : old.holder.store.broken ≡ false → IsCurrent canton kept new.history.trail.now (followed_by s.log log) new.holder
  current_then whole =
      let all = current.all_acknowledged whole in
      let cut : take (s.log.acknowledged + log.acknowledged) (s.log.accepted ++ log.accepted) ≡ s.log.accepted ++ take log.acknowledged log.accepted =
      ap (λ (n : ℕ). take (n + log.acknowledged) (s.log.accepted ++ log.accepted)) all ∙ take-append-add s.log.accepted log.accepted log.acknowledged
      in
      record {
        count = logs.count ∙ ap (λ (t : Tally). after t (take log.acknowledged log.accepted)) (counts_all whole)
            ∙ sym (after-append (count_of canton kept) s.log.accepted (take log.acknowledged log.accepted)) ∙ ap (after (count_of canton kept)) (sym cut)
            ∙ sym (after-append (empty canton) kept (take (s.log.acknowledged + log.acknowledged) (s.log.accepted ++ log.accepted)));
        all_acknowledged = λ still.
            let same = (whole_run old xs log new honest run still).0 in
            omega (arith, all, same, length-append s.log.accepted log.accepted);
        images = λ still c image.
            let from = (whole_run old xs log new honest run still).1 c image in
            from.2 (known whole from.0 from.1);
      }

  answered_whole : old.holder.store.broken ≡ false → IsSure canton kept then_is
  answered_whole whole = record {
    sound = record {
      each = λ c image.
          let from = logs.last_moment c image in
          has_command whole log.accepted log.acknowledged c (from.2 (known whole from.0 from.1));
      last = omega (arith, current.all_acknowledged whole, logs.last, length-append s.log.accepted log.accepted);
      ledger = current_then whole;
    };
    number = sure.number;
    judged = judged_more whole;
  }

  pub answered_sure : IsSure canton kept then_is
  answered_sure = by_broken old.holder.store.broken refl
    where
      by_broken : (broken : Bool) → old.holder.store.broken ≡ broken → IsSure canton kept then_is
      by_broken true is = answered_broken is
      by_broken false is = answered_whole is

  -- the stretch after a stop
  abbrev then_stopped : List ℕ → Log → Stretch K
  then_stopped c more = after_stop c (followed_by s.log (unacknowledged more))

  pub left_sure : length xs ≤ 1 → (c : List ℕ) → StopsWithin old.history.trail new.history.trail c → IsSure canton kept (then_stopped c log)
  left_sure few c left = by_broken old.holder.store.broken refl
    where
      by_broken : (broken : Bool) → old.holder.store.broken ≡ broken → IsSure canton kept (then_stopped c log)
      by_broken true is =
          let quiet_is = quiet is in
          let from = left_by (λ x f. f ≡ x) old.history.trail new.history.trail c (λ x. refl) (leaves_none (λ x f. f ≡ x) old.history.trail new.history.trail quiet_is.trail) left in
          let image : IsImage s.now c = subst (λ (m : Moment). IsImage m c) (sym now) (subst (IsImage old.history.trail.now) (sym from.2) from.1) in
          let same : s.log ≡ followed_by s.log (unacknowledged log) = sym (log_none s.log) ∙ ap (λ (l : Log). followed_by s.log (unacknowledged l)) (sym quiet_is.none) in
          subst (λ (l : Log). IsSure {K = K} canton kept (after_stop c l)) same (after_stop_sure canton kept s c s.log sure (sure.sound.each c image) sure.sound.last sure.judged)
      by_broken false is =
          let from = left_by (ComesToHave old.holder log.accepted 0) old.history.trail new.history.trail c
          (λ x kept. has_none old.holder.tally log.accepted x (holds_kept old.holder x kept)) logs.each_moment left in
          after_stop_sure canton kept s c (followed_by s.log (unacknowledged log)) sure
          (has_command is log.accepted 0 c (from.2 (known is from.0 from.1)))
          (omega (arith, current.all_acknowledged is, few, few_logged old xs log new run, length-append s.log.accepted log.accepted))
          (judged_more is)
