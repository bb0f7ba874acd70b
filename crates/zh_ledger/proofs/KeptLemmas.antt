-- How an image that the ledger knows takes one more command.
use Rattle.std.proofs.Common.{◌≡◌, inl, inr, ⊎_elim, ◌<◌, ◌-◌, ◌^◌, ℕ, ◌+◌, List, [], ◌∷◌, ◌++◌, length, arith, refl, subst, ap, sym, ◌∙◌, true, Result, Ok, Err}
use Rattle.std.specs.Prelude.{All}
use Rattle.std.proofs.lemmas.List.{map-append}
use Rattle.std.proofs.lemmas.List.Elements.{All-append}
use Rattle.std.proofs.lemmas.Grind.{common_steps}
use Rattle.zh_disk.specs.Disk.{Trail, Moves, Leaves}
use Rattle.zh_disk.proofs.CallerLemmas.{leaves_weaken}
use Rattle.zh_journal.specs.Pages.{pages_of}
use Rattle.zh_returns.specs.Judgement.{judge}
use Rattle.zh_returns.specs.Spelling.{command_spelling, IsSpeakable}
use Rattle.zh_returns.specs.Step.{step, after, changed, on_verdict}
use Rattle.zh_returns.specs.Tally.{Tally}
use Rattle.zh_returns.specs.declared.command.Command.{Command}
use Rattle.zh_returns.specs.declared.command.Format.{Format}
use Rattle.zh_returns.specs.declared.command.Format.TheVariants.{Two}
use Rattle.zh_returns.specs.declared.judgement.Verdict.{Verdict}
use Rattle.zh_returns.specs.declared.judgement.Verdict.TheVariants.{Accept}
use Rattle.zh_snapshot.specs.Image.{Content, IsClean, with_record}
use Rattle.zh_snapshot.specs.Calls.{StoreAppends}
use Rattle.zh_snapshot.specs.Store.{State, StoreAdds, StoreAddsOrNot, longer}
use Rattle.zh_snapshot.specs.declared.fault.AppendFault.{AppendFault}
use Rattle.zh_ledger.specs.Ledger.{Ledger, has_room}
use Rattle.zh_ledger.specs.Ledger.{ledger_of}
use Rattle.zh_ledger.specs.Stands.{AreAccepted, Replays, StandsFor, Holds, HoldsLedger}
use Rattle.zh_ledger.specs.Images.{KeepsOrSteps, Stores, KeepsCommand, SameOutsideSlots}
use Rattle.zh_ledger.specs.declared.outcome.Outcome.TheVariants.{Stored, Device}
use Rattle.zh_ledger.proofs.OutsideLemmas.{within_journal}
use Rattle.zh_ledger.proofs.RoomLemmas.{ready_already}

-- the count after one more command
pub after_more : (tally : Tally) (cs : List Command) (c : Command) → after tally (cs ++ c ∷ []) ≡ step (after tally cs) c
after_more tally [] c = refl
after_more tally (d ∷ cs) c = after_more (step tally d) cs c

pub accepted_more : (tally : Tally) (cs : List Command) (c : Command) → AreAccepted tally cs → judge (after tally cs) c ≡ Accept
    → (after tally cs).accepted < 2 ^ 64 - 1 → AreAccepted tally (cs ++ c ∷ [])
accepted_more tally [] c each accept room = (accept, (room, tt))
accepted_more tally (d ∷ cs) c each accept room = (each.0, (each.1.0, accepted_more (step tally d) cs c each.1.1 accept room))

pub speakable_more : (format : Format) (cs : List Command) (c : Command) → All (IsSpeakable format) cs → IsSpeakable format c → All (IsSpeakable format) (cs ++ c ∷ [])
speakable_more format cs c each one = grind (arith, common_steps, All-append)

-- an accepted command does not change the set-up
pub step_canton : (tally : Tally) (command : Command) → judge tally command ≡ Accept → (step tally command).canton ≡ tally.canton
step_canton tally command accept = ap (λ (v : Verdict). (on_verdict v (changed tally command) tally).canton) accept

pub replays_more : {format : Format} (start tally : Tally) (rs : List (List ℕ)) (c : Command) → Replays format start rs tally
    → IsSpeakable format c → judge tally c ≡ Accept → tally.accepted < 2 ^ 64 - 1
    → Replays format start (rs ++ command_spelling format c ∷ []) (step tally c)
replays_more {format} start tally rs c by speakable accept room = record {
  commands = by.commands ++ c ∷ [];
  speakable = speakable_more format by.commands c by.speakable speakable;
  spelled = ap (λ (l : List (List ℕ)). l ++ command_spelling format c ∷ []) by.spelled ∙ sym (map-append (command_spelling format) by.commands (c ∷ []));
  accepted = accepted_more start by.commands c by.accepted (subst (λ (t : Tally). judge t c ≡ Accept) by.count accept) (subst (λ (t : Tally). t.accepted < 2 ^ 64 - 1) by.count room);
  count = ap (λ (t : Tally). step t c) by.count ∙ sym (after_more start by.commands c);
}

pub stands_more : {format : Format} (x : Content) (tally : Tally) (c : Command) → StandsFor format x tally → IsSpeakable format c
    → judge tally c ≡ Accept → tally.accepted < 2 ^ 64 - 1 → StandsFor format (with_record x (command_spelling format c)) (step tally c)
stands_more x tally c by speakable accept room =
    let same = step_canton tally c accept in
    record {
      setup = subst (λ canton. x.setup ≡ Rattle.zh_districts.specs.Spelling.setup_spelling canton) (sym same) by.setup;
      start = by.start;
      canton = by.canton ∙ sym same;
      limits = by.limits;
      snapshot = by.snapshot;
      replays = replays_more by.start tally x.records c by.replays speakable accept room;
    }

module _ (tally : Tally) (store : State) (c : Command) (speakable : IsSpeakable Two c) (accept : judge tally c ≡ Accept)
    (number : tally.accepted < 2 ^ 64 - 1) (room : has_room (ledger_of tally store) c ≡ true) where
  added : (old new : List ℕ) (x : Content) (j : ℕ) → StandsFor Two x tally → IsClean (with_record x (command_spelling Two c)) (j + pages_of (length (command_spelling Two c))) new
      → Holds (step tally c) new
  added old new x j stands clean = record {
    content = with_record x (command_spelling Two c);
    end = j + pages_of (length (command_spelling Two c));
    format = Two;
    clean = clean;
    stands = stands_more x tally c stands speakable accept number;
  }

  stores : (old new : List ℕ) → StoreAdds store (command_spelling Two c) old new → Stores (ledger_of tally store) c old new
  stores old new adds kept =
      let more = adds kept.content kept.end kept.clean kept.fits in
      subst (λ (l : Ledger). HoldsLedger (record {
        tally = step tally c;
        store = longer l.store (length (command_spelling Two c));
        format =
            Two;
      }) new) (sym (ready_already (ledger_of tally store) c room)) (record {
        content = with_record kept.content (command_spelling Two c);
        end = kept.end + pages_of (length (command_spelling Two c));
        clean = more.0;
        fits = more.1;
        stands = stands_more kept.content tally c kept.stands speakable accept number;
      })

  keeps_or_steps : (old new : List ℕ) → StoreAddsOrNot store (command_spelling Two c) old new → KeepsOrSteps (ledger_of tally store) c old new
  keeps_or_steps old new adds kept =
      ⊎_elim
      (λ still. inl (record { content = kept.content; end = kept.end; format = Two; clean = still; stands = kept.stands }))
      (λ more. inr (added old new kept.content kept.end kept.stands more))
      (adds.clean kept.content kept.end kept.clean kept.fits)

  each_moment : (t u : Trail) → Leaves (StoreAddsOrNot store (command_spelling Two c)) t u → Leaves (KeepsOrSteps (ledger_of tally store) c) t u
  each_moment t u run = leaves_weaken _ _ t u (λ d e image by. keeps_or_steps d e by) run

  last_moment : (t u : Trail) → Moves (StoreAdds store (command_spelling Two c)) t.now u.now → Moves (Stores (ledger_of tally store) c) t.now u.now
  last_moment t u moves = λ d image. let from = moves d image in (from.0, from.1, stores from.0 d from.2)

  -- what the append of its record does
  module _ (payload : List ℕ) (spelled : payload ≡ command_spelling Two c) (t u : Trail) where
    around : (result : Result (Unit {0}) AppendFault) → StoreAppends store payload result t u → Leaves SameOutsideSlots t u
    around result by = leaves_weaken _ _ t u (λ x f image adds. within_journal store.slot x f adds.around) by.moments

    pub appended : (accepted : ℕ) (done : Unit {0}) → StoreAppends store payload (Ok done) t u → KeepsCommand (ledger_of tally store) c (Stored accepted) t u
    appended accepted done by =
        let its = subst (λ (r : List ℕ). StoreAppends store r (Ok done) t u) spelled by in
        record { leaves = (each_moment t u its.moments, last_moment t u its.done.moves); outside = around (Ok done) by }

    pub append_failed : (fault : AppendFault) → StoreAppends store payload (Err fault) t u → KeepsCommand (ledger_of tally store) c Device t u
    append_failed fault by = record {
      leaves = each_moment t u (subst (λ (r : List ℕ). StoreAppends store r (Err fault) t u) spelled by).moments;
      outside = around (Err fault) by;
    }
