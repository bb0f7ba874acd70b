-- How an image that the ledger knows comes to hold the count in its other slot.
use Rattle.std.proofs.Common.{◌≡◌, ◌∙◌, ◌++◌, [], ⊎_elim, ℕ, List, false, Result, Ok, Err, length, drop, refl, sym, ap, subst, arith}
use Rattle.std.proofs.lemmas.List.{append-nil, drop_all}
use Rattle.zh_disk.specs.Disk.{Moment, Trail, Moves, Leaves}
use Rattle.zh_disk.proofs.CallerLemmas.{leaves_weaken}
use Rattle.zh_returns.specs.Limits.{IsTally}
use Rattle.zh_returns.specs.Payload.{payload_spelling}
use Rattle.zh_returns.specs.Tally.{Tally}
use Rattle.zh_returns.proofs.CallerLemmas.{said_in_two}
use Rattle.zh_returns.specs.declared.command.Command.{Command}
use Rattle.zh_returns.specs.declared.command.Format.{Format}
use Rattle.zh_returns.specs.declared.command.Format.TheVariants.{Two}
use Rattle.zh_snapshot.specs.Image.{Content, with_snapshot}
use Rattle.zh_snapshot.specs.Calls.{StoreSwitch}
use Rattle.zh_snapshot.specs.Layout.{other}
use Rattle.zh_snapshot.specs.Store.{State, StoreSwitches, StoreSwitchesOrNot, switched}
use Rattle.zh_snapshot.specs.declared.fault.SwitchFault.{SwitchFault}
use Rattle.zh_ledger.specs.Ledger.{Ledger, has_room}
use Rattle.zh_ledger.specs.Ledger.{ledger_in, ledger_of}
use Rattle.zh_ledger.specs.Opened.{HoldsLedgerFramed}
use Rattle.zh_ledger.specs.Stands.{StandsFor, HoldsLedger}
use Rattle.zh_ledger.specs.Images.{Keeps, Readies, MakesRoom, SameOutsideSlots}
use Rattle.zh_ledger.proofs.OutsideLemmas.{within_slot}
use Rattle.zh_ledger.proofs.ReplayLemmas.{replays_none}
use Rattle.zh_ledger.proofs.RoomLemmas.{ready_switched}

-- what fills the buffer is all of it
pub whole_payload : (n : ℕ) (tally tally' : Tally) (before out : List ℕ) → length before ≡ n → tally' ≡ tally → out ≡ payload_spelling Two tally' ++ drop n before → out ≡ payload_spelling Two tally
whole_payload n tally tally' before out size same is =
    let none : drop n before ≡ [] = drop_all n before (omega arith) in
    is ∙ ap (λ rest. payload_spelling Two tally' ++ rest) none ∙ append-nil (payload_spelling Two tally') ∙ ap (payload_spelling Two) same

-- the snapshot of a count represents it
pub stands_anew : (format : Format) (x : Content) (tally : Tally) → StandsFor format x tally → IsTally tally → StandsFor Two (with_snapshot x (payload_spelling Two tally)) tally
stands_anew format x tally by limits = record {
  setup = by.setup;
  start = tally;
  canton = refl;
  limits = limits;
  snapshot = record { said = said_in_two tally limits; spelling = refl };
  replays = replays_none tally;
}

module _ (tally : Tally) (store : State) (limits : IsTally tally) where
  still_holds : (old new : List ℕ) → StoreSwitchesOrNot store (payload_spelling Two tally) old new → Keeps (ledger_of tally store) old new
  still_holds old new by kept = ⊎_elim
      (λ still. record { content = kept.content; end = kept.end; format = Two; clean = still; stands = kept.stands })
      (λ anew. record {
        content = with_snapshot kept.content (payload_spelling Two tally);
        end = 0;
        format = Two;
        clean = anew;
        stands = stands_anew Two kept.content tally kept.stands limits;
      })
      (by.clean kept.content kept.end kept.clean kept.fits)

  -- at each moment of a switch, an image that the ledger knows holds its count
  keeps_count : (t u : Trail) → Leaves (StoreSwitchesOrNot store (payload_spelling Two tally)) t u → Leaves (Keeps (ledger_of tally store)) t u
  keeps_count t u run = leaves_weaken _ _ t u (λ d e image by. still_holds d e by) run

  -- after the switch, the ledger knows the new image, which is clean, whatever the format was
  pub knows_switched : (format : Format) (old new : List ℕ) → StoreSwitches store (payload_spelling Two tally) old new
      → HoldsLedgerFramed (ledger_in format tally store) old → HoldsLedger (ledger_of tally (switched store)) new
  knows_switched format old new by found =
      let anew = by found.content found.end found.framed found.fits in
      record {
        content = with_snapshot found.content (payload_spelling Two tally);
        end = 0;
        clean = anew.0;
        fits = anew.1;
        stands = stands_anew format found.content tally found.stands limits;
      }

  -- so the ledger is made ready for a command for which it lacked room
  made_ready : (c : Command) → has_room (ledger_of tally store) c ≡ false → (old new : Moment)
      → Moves (StoreSwitches store (payload_spelling Two tally)) old new → Moves (Readies (ledger_of tally store) c) old new
  made_ready c none old new moves = λ d image.
      let from = moves d image in (
        from.0,
        from.1,
        λ kept. subst (λ (l : Ledger). HoldsLedger l d) (sym (ready_switched (ledger_of tally store) c none))
            (knows_switched Two from.0 d from.2 (record { content = kept.content; end = kept.end; framed = kept.clean.framed; fits = kept.fits; stands = kept.stands })),
      )

  -- so a switch makes room for the command or fails to
  around : (result : Result (Unit {0}) SwitchFault) (t u : Trail) → StoreSwitch store (payload_spelling Two tally) result t u → Leaves SameOutsideSlots t u
  around result t u by = leaves_weaken _ _ t u (λ x f image to. within_slot (other store.slot) x f to.around) by.moments

  pub makes_room : (c : Command) (len : ℕ) (done : Unit {0}) (t u : Trail) → has_room (ledger_of tally store) c ≡ false
      → StoreSwitch store (payload_spelling Two tally) (Ok done) t u → MakesRoom (ledger_of tally store) c (Ok len) t u
  makes_room c len done t u none by =
      record { moments = keeps_count t u by.moments; outside = around (Ok done) t u by; done = made_ready c none t.now u.now by.done.moves }

  pub makes_no_room : (c : Command) (e f : SwitchFault) (t u : Trail) → StoreSwitch store (payload_spelling Two tally) (Err e) t u → MakesRoom (ledger_of tally store) c (Err f) t u
  makes_no_room c e f t u by = record { moments = keeps_count t u by.moments; outside = around (Err e) t u by; done = tt }
