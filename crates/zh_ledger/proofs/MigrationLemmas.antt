-- What a migration leaves of its disk.
use Rattle.std.proofs.Common.{◌≡◌, ◌≢◌, ◌∙◌, ◌-◌, ◌^◌, ◌⊎◌, inl, inr, ⊎_elim, ℕ, List, [], ◌∷◌, ◌++◌, sym, ap, subst, refl, Ok, Err}
use Rattle.zh_disk.specs.declared.disk.DiskFault.{DiskFault}
use Rattle.zh_disk.specs.Disk.{Moment, Trail, IsImage, AllMove, Leaves, Lands, settled}
use Rattle.zh_disk.proofs.CallerLemmas.{image_now, leaves_none, leaves_join, leaves_weaken}
use Rattle.zh_districts.specs.Canton.{Canton}
use Rattle.zh_returns.specs.declared.command.Format.{Format}
use Rattle.zh_returns.specs.declared.command.Format.TheVariants.{One, Two}
use Rattle.zh_returns.specs.Limits.{IsTally}
use Rattle.zh_returns.specs.Payload.{payload_spelling}
use Rattle.zh_returns.specs.Tally.{Tally}
use Rattle.zh_snapshot.specs.Image.{Content, IsClean, with_snapshot}
use Rattle.zh_snapshot.specs.Calls.{StoreSwitch}
use Rattle.zh_snapshot.specs.Store.{State, Settles, StoreSwitches, StoreSwitchesOrNot, switched}
use Rattle.zh_snapshot.specs.declared.fault.SwitchFault.{SwitchFault}
use Rattle.zh_snapshot.proofs.CallerLemmas.{framed_alike}
use Rattle.zh_ledger.specs.Ledger.{ledger_in, ledger_of}
use Rattle.zh_ledger.specs.Opened.{HoldsLedgerFramed}
use Rattle.zh_ledger.specs.Opening.{IsAtRest, MayLeave, Migrates, MigratesFrom}
use Rattle.zh_ledger.specs.Stands.{Holds}
use Rattle.zh_ledger.proofs.OpenedLemmas.{one_image}
use Rattle.zh_ledger.proofs.StandsLemmas.{one_count}
use Rattle.zh_ledger.proofs.SwitchLemmas.{knows_switched, stands_anew}

-- a switch from a slot in format One, at a moment at which nothing is pending
module _ (tally : Tally) (store : State) (limits : IsTally tally) (t u : Trail) where
  migrates : store.generation ≢ 2 ^ 64 - 1 → IsAtRest (ledger_in One tally store) t.now → (x f : List ℕ) → IsImage t.now x
      → StoreSwitchesOrNot store (payload_spelling Two tally) x f → MayLeave tally.canton t.now.bytes x f
  migrates room rest x f image by =
      let found = rest.found in
      let here : x ≡ t.now.bytes = one_image t.now x rest.pending image in
      let from : StoreSwitchesOrNot store (payload_spelling Two tally) t.now.bytes f = subst (λ (b : List ℕ). StoreSwitchesOrNot store (payload_spelling Two tally) b f) here by in (
        here,
        inr (record {
          content = found.content;
          end = found.end;
          tally = tally;
          slot = store.slot;
          framed = found.framed;
          in_use = found.fits.slot;
          own = refl;
          stands = found.stands;
          limits = limits;
          generation = λ last. room (sym found.fits.generation ∙ last);
          outside = from.around;
          kept = from.framed found.content found.end found.framed found.fits;
          clean = λ clean. from.clean found.content found.end clean found.fits;
        }),
      )

  -- after it the ledger knows the bytes
  migrated : IsAtRest (ledger_in One tally store) t.now → Lands (StoreSwitches store (payload_spelling Two tally)) t.now u.now → IsAtRest (ledger_of tally (switched store)) u.now
  migrated rest lands =
      let from = lands.moves u.now.bytes (image_now u.now) in
      let here : from.0 ≡ t.now.bytes = one_image t.now from.0 rest.pending from.1 in
      let kept = knows_switched tally store limits One from.0 u.now.bytes from.2 (subst (HoldsLedgerFramed (ledger_in One tally store)) (sym here) rest.found) in
      record {
        pending = lands.settled;
        found = record { content = kept.content; end = kept.end; framed = kept.clean.framed; fits = kept.fits; stands = kept.stands };
      }

  module _ (format : Format) (is : format ≡ One) (room : store.generation ≢ 2 ^ 64 - 1) where
    in_one : {m : Moment} → IsAtRest (ledger_in format tally store) m → IsAtRest (ledger_in One tally store) m
    in_one {m} = subst (λ (f : Format). IsAtRest (ledger_in f tally store) m) is

    moments : Leaves (StoreSwitchesOrNot store (payload_spelling Two tally)) t u → IsAtRest (ledger_in format tally store) t.now → Leaves (MayLeave tally.canton t.now.bytes) t u
    moments run rest = leaves_weaken _ _ t u (migrates room (in_one rest)) run

    pub migrates_well : (store' : State) → store' ≡ switched store → StoreSwitch store (payload_spelling Two tally) (Ok tt) t u → MigratesFrom (ledger_in format tally store) store' (Ok Two) t u
    migrates_well store' anew by = record {
      moments = moments by.moments;
      rests = λ rest. subst (λ (s : State). IsAtRest (ledger_of tally s) u.now) (sym anew) (migrated (in_one rest) by.done);
    }

    pub migrates_not : (store' : State) (fault : SwitchFault) (device : DiskFault) → StoreSwitch store (payload_spelling Two tally)
        (Err fault) t u → MigratesFrom (ledger_in format tally store) store' (Err device) t u
    migrates_not store' fault device by = record { moments = moments by.moments; rests = λ rest. tt }

-- if there is nothing to migrate, or no switch is left
pub unmigrated : (format given : Format) (tally : Tally) (store store' : State) (t u : Trail) → given ≡ format → store' ≡ store → u ≡ t
    → MigratesFrom (ledger_in format tally store) store' (Ok given) t u
unmigrated format given tally store store' t u same known still = record {
  moments = λ rest. leaves_none _ t u still;
  rests = λ rest.
      subst (λ (f : Format). IsAtRest (ledger_in f tally store') u.now) (sym same)
      (subst (λ (s : State). IsAtRest (ledger_in format tally s) u.now) (sym known)
      (subst (λ (v : Trail). IsAtRest (ledger_in format tally store) v.now) (sym still) rest));
}

-- an opening reads, and may then migrate
pub reads_then : (canton : Canton) (old mid new : Trail) → mid.now ≡ settled old.now.bytes → Leaves (Settles old.now.bytes) old mid
    → Leaves (MayLeave canton mid.now.bytes) mid new → Leaves (MayLeave canton old.now.bytes) old new
reads_then canton old mid new rests first second =
    let same : mid.now.bytes ≡ old.now.bytes = ap (λ (m : Moment). m.bytes) rests in
    leaves_join (Settles old.now.bytes) (MayLeave canton mid.now.bytes) (MayLeave canton old.now.bytes) old mid new first second
    (λ x f image by. (by.0, inl by.1))
    (λ x f image by. (
      old.now.bytes,
      image_now old.now,
      (refl, ⊎_elim (λ still. inl (still ∙ same)) (λ moved. inr (subst (λ (b : List ℕ). Migrates canton b f) same moved)) by.1),
    ))

pub reads_alone : (canton : Canton) (old new : Trail) → Leaves (Settles old.now.bytes) old new → Leaves (MayLeave canton old.now.bytes) old new
reads_alone canton old new leaves = leaves_weaken (Settles old.now.bytes) (MayLeave canton old.now.bytes) old new (λ x f image by. (by.0, inl by.1)) leaves

-- if bytes hold a count, what a migration makes of them holds it too
pub migrated_holds : (canton : Canton) (bytes new : List ℕ) (tally : Tally) → tally.canton ≡ canton → Holds tally bytes → Migrates canton bytes new → Holds tally new
migrated_holds canton bytes new tally own holds m =
    let alike = framed_alike holds.content m.content holds.end m.end bytes holds.clean.framed m.framed in
    let one = one_count bytes m.content holds.content m.end holds.end One holds.format m.tally tally m.framed holds.clean.framed m.stands holds.stands (m.own ∙ sym own) in
    let clean : IsClean m.content m.end bytes = subst (λ (j : ℕ). IsClean m.content j bytes) alike.1 (subst (λ (x : Content). IsClean x holds.end bytes) alike.0 holds.clean) in
    subst (λ (t : Tally). Holds t new) one.1 (
    ⊎_elim
    (λ still. record { content = m.content; end = m.end; format = One; clean = still; stands = m.stands })
    (λ anew. record {
      content = with_snapshot m.content (payload_spelling Two m.tally);
      end = 0;
      format = Two;
      clean = anew;
      stands = stands_anew One m.content m.tally m.stands m.limits;
    })
    (m.clean clean)
    )

-- an image that an opening leaves is one from its start, or one that a migration made
abbrev pub Alters : Canton → List ℕ → List ℕ → List ℕ → Type 0
Alters canton bytes old new = (new ≡ old) ⊎ Migrates canton bytes new

pub leaves_altered : (canton : Canton) (old new : Trail) → Leaves (MayLeave canton old.now.bytes) old new → Leaves (Alters canton old.now.bytes) old new
leaves_altered canton old new leaves = leaves_weaken (MayLeave canton old.now.bytes) (Alters canton old.now.bytes) old new
    (λ x f image by. ⊎_elim (λ still. inl (still ∙ sym by.0)) (λ moved. inr moved) by.1) leaves

-- what a read gives after an opening is what a read gave before it, or what a migration made of that
pub read_now : (canton : Canton) (old new : Trail) → Leaves (MayLeave canton old.now.bytes) old new → Alters canton old.now.bytes old.now.bytes new.now.bytes
read_now canton old new leaves = by_between leaves.between leaves.run leaves.each
  where
    by_between : (between : List Moment) → new.now ∷ new.past ≡ between ++ old.now ∷ old.past → AllMove (MayLeave canton old.now.bytes)
        old.now between → Alters canton old.now.bytes old.now.bytes new.now.bytes
    by_between [] run each = let now : new.now ≡ old.now = cc in inl (ap (λ (m : Moment). m.bytes) now)
    by_between (m ∷ ms) run each =
        let now : new.now ≡ m = cc in
        let from = each.0 m.bytes (image_now m) in
        subst (λ (x : Moment). Alters canton old.now.bytes old.now.bytes x.bytes) (sym now) from.2.1
