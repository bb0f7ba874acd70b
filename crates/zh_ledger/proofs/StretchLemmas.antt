-- What holds between two events of a night.
use Rattle.std.proofs.Common.{◌≡◌, ℕ, ◌+◌, ◌≤◌, List, [], ◌∷◌, ◌++◌, length, take, refl, sym, ◌∙◌, ap, subst, arith, append_assoc, length-append, Bool, true, false, IsTrue}
use Rattle.std.proofs.lemmas.List.{append_cancel_right}
use Rattle.std.proofs.Math.Seq.{take-append-add}
use Rattle.zh_disk.specs.Disk.{Moment, Trail, IsImage, Leaves, AllMove, settled}
use Rattle.zh_disk.proofs.CallerLemmas.{synced_image, leaves_now}
use Rattle.zh_districts.specs.Canton.{Canton}
use Rattle.zh_returns.specs.Step.{after}
use Rattle.zh_returns.specs.Tally.{Tally, empty}
use Rattle.zh_returns.specs.declared.command.Command.{Command}
use Rattle.zh_ledger.specs.Ledger.{Ledger, Becomes}
use Rattle.zh_ledger.specs.Stands.{Holds, HoldsLedger}
use Rattle.zh_ledger.specs.Images.{LeavesBy, HasSome}
use Rattle.zh_ledger.specs.Submissions.{OnDisk, Submission, Log, followed_by, logged, Submits}
use Rattle.zh_ledger.specs.Night.{Keeper, Stretch, after_stop, StopsWithin, IsSound}
use Rattle.zh_ledger.specs.declared.outcome.Outcome.{Outcome}
use Rattle.zh_ledger.specs.declared.outcome.Outcome.TheVariants.{Stored, Device}
use Rattle.zh_ledger.proofs.StandsLemmas.{after-append}
use Rattle.zh_ledger.proofs.JudgedLemmas.{AreJudged}
use Rattle.zh_ledger.proofs.SubmissionLemmas.{broken_run, log_first, submits_honest}

-- The moment at which a stop comes.

pub all_after : (R : List ℕ → List ℕ → Type 0) (a : Moment) (xs ys : List Moment) → AllMove R a (xs ++ ys) → AllMove R a ys
all_after R a [] ys each = each
all_after R a (x ∷ xs) ys each = all_after R a xs ys each.1

-- if all that a call leaves comes by R, so does what a stop within it leaves
pub left_by : (R : List ℕ → List ℕ → Type 0) (old new : Trail) (c : List ℕ) → ((x : List ℕ) → R x x) → Leaves R old new → StopsWithin old new c → (d : List ℕ) × IsImage old.now d × R d c
left_by R old new c same leaves left =
    let run : left.due.0 ++ (left.begun.0 ++ old.now ∷ old.past) ≡ leaves.between ++ old.now ∷ old.past = ap (λ (l : List Moment). left.due.0 ++ l) (sym left.begun.1) ∙ sym left.due.1 ∙ leaves.run in
    let parts : left.due.0 ++ left.begun.0 ≡ leaves.between = append_cancel_right (left.due.0 ++ left.begun.0) leaves.between
    (old.now ∷ old.past) (append_assoc left.due.0 left.begun.0 (old.now ∷ old.past) ∙ run) in
    let each : AllMove R old.now (left.due.0 ++ left.begun.0) = subst (AllMove R old.now) (sym parts) leaves.each in
    let begun : Leaves R old left.at = record { between = left.begun.0; run = left.begun.1; each = all_after R old.now left.due.0 left.begun.0 each } in
    leaves_now R old left.at same begun c left.image

-- after a stop, its bytes are the only image
pub only_image : (c d : List ℕ) → IsImage (settled c) d → d ≡ c
only_image c d image = synced_image (settled c) d image

-- the count after these commands, in order, from a formatted disk on
abbrev pub count_of : Canton → List Command → Tally
count_of canton commands = after (empty canton) commands

-- What holds between two events; and each command that was kept or accepted was judged acceptable in turn.
pub record IsSure {K : Keeper} (canton : Canton) (kept : List Command) (s : Stretch K) : Type 0 where
  pub sound : IsSound canton kept s
  pub number : (count_of canton kept).accepted ≡ length kept
  pub judged : AreJudged (count_of canton kept) s.log.accepted

-- after a stop
pub after_stop_sure : {K : Keeper} (canton : Canton) (kept : List Command) (s : Stretch K) (c : List ℕ) (log : Log) → IsSure canton kept s
    → HasSome (count_of canton kept) log.accepted log.acknowledged c → length log.accepted ≤ log.acknowledged + 1
    → AreJudged (count_of canton kept) log.accepted → IsSure {K = K} canton kept (after_stop c log)
after_stop_sure canton kept s c log sure has last judged = record {
  sound = record {
    each = λ d image. subst (HasSome (count_of canton kept) log.accepted log.acknowledged) (sym (only_image c d image)) has;
    last = last;
    ledger = tt;
  };
  number = sure.number;
  judged = judged;
}

-- an image that has some of the other commands after all of these has all of these, too
pub has_after : (t : Tally) (cs ds : List Command) (least : ℕ) (c : List ℕ) → HasSome (after t cs) ds least c → HasSome t (cs ++ ds) (length cs + least) c
has_after t cs ds least c some = record {
  number = length cs + some.number;
  at_least = omega (arith, some.at_least);
  within = omega (arith, some.within, length-append cs ds);
  holds = subst (λ (u : Tally). Holds u c) (sym (ap (after t) (take-append-add cs ds some.number) ∙ after-append t cs (take some.number ds))) some.holds;
}

-- if the ledger knew the images before, it knows those afterwards
abbrev pub StillHolds : OnDisk Ledger → OnDisk Ledger → Type 0
StillHolds old new = (c : List ℕ) → IsImage new.history.trail.now c → (d : List ℕ) × IsImage old.history.trail.now d × (HoldsLedger old.holder d → HoldsLedger new.holder c)

same_images : (old new : OnDisk Ledger) → new.holder ≡ old.holder → new.history.trail ≡ old.history.trail → StillHolds old new
same_images old new ledger trail c image = (c, subst (λ (t : Trail). IsImage t.now c) trail image, λ kept. subst (λ (l : Ledger). HoldsLedger l c) (sym ledger) kept)

-- after a command, a ledger that has met no fault knows all images and has acknowledged what it accepted
still_whole : (command : Command) (outcome : Outcome) (old new : OnDisk Ledger) → Becomes old.holder command outcome new.holder
    → LeavesBy old.holder command outcome old.history.trail new.history.trail → new.holder.store.broken ≡ false
    → ((logged command outcome).acknowledged ≡ length (logged command outcome).accepted) × StillHolds old new
still_whole c (Stored accepted) old new ledger leaves whole = (
  refl,
  λ f image.
      let from = leaves.1 f image in (from.0, from.1, λ kept. subst (λ (l : Ledger). HoldsLedger l f) (sym ledger) (from.2 kept)),
)
still_whole c Device old new ledger leaves whole =
    let broken : new.holder.store.broken ≡ true = ledger.broken in
    absurd (cc)
still_whole c outcome old new ledger leaves whole = (refl, same_images old new ledger leaves)

-- the same after several commands, if none of them met a fault
whole_then : (old : OnDisk Ledger) (x : Command × Outcome) (mid : OnDisk Ledger) (others log : Log) (new : OnDisk Ledger)
    → Submission old x.0 x.1 mid → IsTrue mid.history.honest → log ≡ followed_by (logged x.0 x.1) others → mid.holder.store.broken ≡ false
    → (others.acknowledged ≡ length others.accepted) × StillHolds mid new → (log.acknowledged ≡ length log.accepted) × StillHolds old new
whole_then old x mid others log new by honest log_is whole rest =
    let first = still_whole x.0 x.1 old mid by.after (by.call.did honest).leaves whole in (
      subst (λ (l : Log). l.acknowledged ≡ length l.accepted) (sym log_is) (omega (arith, first.0, rest.0, length-append (logged x.0 x.1).accepted others.accepted)),
      λ c image.
          let mids = rest.1 c image in
          let from = first.1 mids.0 mids.1 in
          (from.0, from.1, λ kept. mids.2 (from.2 kept)),
    )

-- if a ledger has met no fault at the end, it had met none before
whole_before : (old : OnDisk Ledger) (xs : List (Command × Outcome)) (log : Log) (new : OnDisk Ledger) → IsTrue new.history.honest
    → Submits old xs log new → new.holder.store.broken ≡ false → old.holder.store.broken ≡ false
whole_before old xs log new honest run whole = by_broken old.holder.store.broken refl
  where
    by_broken : (broken : Bool) → old.holder.store.broken ≡ broken → old.holder.store.broken ≡ false
    by_broken true is = sym (ap (λ (s : Ledger). s.store.broken) (broken_run old xs log new is honest run).ledger) ∙ whole
    by_broken false is = is

pub whole_run : (old : OnDisk Ledger) (xs : List (Command × Outcome)) (log : Log) (new : OnDisk Ledger) → IsTrue new.history.honest
    → Submits old xs log new → new.holder.store.broken ≡ false → (log.acknowledged ≡ length log.accepted) × StillHolds old new
whole_run old [] log new honest (none, same) whole = (
  subst (λ (l : Log). l.acknowledged ≡ length l.accepted) (sym none) refl,
  same_images old new (ap (λ (o : OnDisk Ledger). o.holder) same) (ap (λ (o : OnDisk Ledger). o.history.trail) same),
)
whole_run old (x ∷ xs) log new honest (mid, others, by, log_is, run) whole =
    whole_then old x mid others log new by (submits_honest mid xs others new run honest) (log_first old x.0 x.1 mid by log others log_is)
    (whole_before mid xs others new honest run whole) (whole_run mid xs others new honest run whole)
