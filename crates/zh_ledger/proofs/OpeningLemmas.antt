-- What an opening leaves of its disk, and how it ended.
use Rattle.std.proofs.Common.{◌≡◌, ◌≢◌, ◌∙◌, ℕ, List, length, Result, Ok, Err, IsErr, refl, sym, ap, subst}
use Rattle.zh_disk.specs.declared.disk.DiskFault.{DiskFault}
use Rattle.zh_disk.specs.Disk.{Trail, Leaves, Asks, settled}
use Rattle.zh_disk.specs.History.{History, Call}
use Rattle.zh_disk.proofs.CallerLemmas.{leaves_none}
use Rattle.zh_districts.specs.Canton.{Canton}
use Rattle.zh_districts.specs.Spelling.{setup_spelling}
use Rattle.zh_journal.specs.Place.{Rest}
use Rattle.zh_returns.specs.declared.command.Format.{Format}
use Rattle.zh_returns.specs.Tally.{Tally}
use Rattle.zh_snapshot.specs.Calls.{FindsStore, OpensStore}
use Rattle.zh_snapshot.specs.Faults.{store_open_fails}
use Rattle.zh_snapshot.specs.Image.{Content, IsFramed}
use Rattle.zh_snapshot.specs.Store.{State, Fits, Settles}
use Rattle.zh_snapshot.specs.declared.fault.OpenFault as store
use Rattle.zh_snapshot.specs.declared.fault.OpenFault.TheVariants as of_store
use Rattle.zh_ledger.specs.Faults.{fault_of_store, open_fails}
use Rattle.zh_ledger.specs.Ledger.{ledger_in}
use Rattle.zh_ledger.specs.Ledger.{Ledger}
use Rattle.zh_ledger.specs.Opened.{AwaitsReplay, Differs, IsDamaged, IsReady, IsWrong, HoldsLedgerFramed}
use Rattle.zh_ledger.specs.Opening.{IsAtRest, IsCause, MayLeave, MigratesFrom, Opening, Opens, ReadsCount}
use Rattle.zh_ledger.specs.declared.opening.OpenFault.{OpenFault}
use Rattle.zh_ledger.specs.declared.opening.OpenFault.TheVariants as faults
use Rattle.zh_ledger.proofs.MigrationLemmas.{reads_alone, reads_then}
use Rattle.zh_ledger.proofs.OpenedLemmas.{damaged_all, damaged_one, left_there}

-- an opening that ends with a fault
pub opening_fails : (canton : Canton) (a b : History) (r : Result Ledger OpenFault) → IsErr r → Call open_fails (Opens canton) a b r → Opening canton a b r
opening_fails canton a b (Ok ledger) is call = absurd cc
opening_fails canton a b (Err fault) is call = record { ready = tt; call = call }

-- memory is refused
pub memory_refused : (canton : Canton) (t : Trail) (fault : OpenFault) → fault ≡ faults.Memory → Opens canton (Err fault) t t
memory_refused canton t fault is = subst (λ (e : OpenFault). Opens canton (Err e) t t) (sym is) (record {
  moments = leaves_none _ t t refl;
  opened = tt;
  refused = tt;
  unchanged = λ other. leaves_none _ t t refl;
})

-- a fault of a store's opening, as a fault of the ledger's
pub fails_as : (f : store.OpenFault) (e : OpenFault) → e ≡ fault_of_store f → store_open_fails {T = State × Rest} (Err f) ≡ open_fails {T = Ledger} (Err e)
fails_as of_store.Device e is = rw is refl
fails_as of_store.Blank e is = rw is refl
fails_as of_store.Damaged e is = rw is refl
fails_as of_store.Memory e is = rw is refl

store_why : (canton : Canton) (bytes : List ℕ) (f : store.OpenFault) → FindsStore bytes (Err f) → IsCause canton bytes (fault_of_store f)
store_why canton bytes of_store.Device finds = tt
store_why canton bytes of_store.Blank finds = finds.read.blank refl
store_why canton bytes of_store.Damaged finds = damaged_all canton bytes (finds.read.damaged refl)
store_why canton bytes of_store.Memory finds = tt

pub store_refused : (canton : Canton) (t u : Trail) (f : store.OpenFault) (e : OpenFault) → e ≡ fault_of_store f → OpensStore (Err f) t u → Opens canton (Err e) t u
store_refused canton t u f e is opens = subst (λ (z : OpenFault). Opens canton (Err z) t u) (sym is) (record {
  moments = reads_alone canton t u opens.moments;
  opened = tt;
  refused = store_why canton t.now.bytes f opens.found;
  unchanged = λ other. opens.moments;
})

count_why : (canton : Canton) (bytes : List ℕ) (fault : OpenFault) → fault ≢ faults.Blank
    → (fault ≡ faults.SetupDiffers → Differs canton bytes) → (fault ≡ faults.Damaged → IsDamaged canton bytes) → IsCause canton bytes fault
count_why canton bytes faults.Memory blank differs damaged = tt
count_why canton bytes faults.Device blank differs damaged = tt
count_why canton bytes faults.Blank blank differs damaged = absurd (blank refl)
count_why canton bytes faults.Damaged blank differs damaged = damaged refl
count_why canton bytes faults.SetupDiffers blank differs damaged = differs refl

-- A store was opened, and the count of this set-up is read.
module _ (canton own : Canton) (same : own ≡ canton) (t u : Trail) (s : State) (rest : Rest) (opens : OpensStore (Ok (s, rest)) t u) where
  there : (x : Content) × (j : ℕ) × IsFramed x j t.now.bytes × Fits s x j t.now.bytes
  there = opens.found.read.framed

  awaits : AwaitsReplay s rest there.0 u.now.bytes
  awaits = left_there t.now u.now s rest there.0 there.1 opens.settled there.2 there.3 (opens.found.read.left there.0 there.1 there.2)

  -- only reads followed
  alone : (v : Trail) → v ≡ u → Leaves (Settles t.now.bytes) t v
  alone v still = subst (Leaves (Settles t.now.bytes) t) (sym still) opens.moments

  -- the count was not read
  pub count_refused : (tally : Tally) (v : Trail) (fault given : OpenFault) → length t.now.bytes ≡ 1118720 → given ≡ fault
      → fault ≢ faults.Blank → Asks (ReadsCount s rest own tally) (Err fault) u v → Opens canton (Err given) t v
  count_refused tally v fault given long is blank asks =
      let moments = alone v asks.same in
      let differs : fault ≡ faults.SetupDiffers → Differs canton t.now.bytes = λ here. record {
        content = there.0;
        end = there.1;
        framed = there.2;
        other = subst (λ (k : Canton). there.0.setup ≢ setup_spelling k) same (asks.told.differs (ap (λ (e : OpenFault). Err e) here) there.0 awaits);
      } in
      let damaged : fault ≡ faults.Damaged → IsDamaged canton t.now.bytes = λ here.
      damaged_one canton t.now.bytes there.0 there.1 long there.2 (subst (λ (k : Canton). IsWrong k there.0) same (asks.told.damaged (ap (λ (e : OpenFault). Err e) here) there.0 awaits)) in
      subst (λ (z : OpenFault). Opens canton (Err z) t v) (sym is) (record {
        moments = reads_alone canton t v moments;
        opened = tt;
        refused = count_why canton t.now.bytes fault blank differs damaged;
        unchanged = λ other. moments;
      })

  -- the count was read and then migrated if necessary
  module _ (tally : Tally) (v w : Trail) (format : Format) (kept : tally.canton ≡ own) (asks : Asks (ReadsCount s rest own tally) (Ok format) u v) where
    knows : HoldsLedgerFramed (ledger_in format tally s) t.now.bytes
    knows = record { content = there.0; end = there.1; framed = there.2; fits = there.3; stands = asks.told.found there.0 awaits }

    rests : v.now ≡ settled t.now.bytes
    rests = ap (λ (x : Trail). x.now) asks.same ∙ opens.settled

    at_rest : IsAtRest (ledger_in format tally s) v.now
    at_rest = subst (IsAtRest (ledger_in format tally s)) (sym rests) (record { pending = refl; found = knows })

    moments : Leaves (MayLeave tally.canton v.now.bytes) v w → Leaves (MayLeave canton t.now.bytes) t w
    moments run = reads_then canton t v w rests (alone v asks.same) (subst (λ (k : Canton). Leaves (MayLeave k v.now.bytes) v w) (kept ∙ same) run)

    pub opened_well : (store' : State) (format' : Format) → IsReady canton (ledger_in format' tally store')
        → MigratesFrom (ledger_in format tally s) store' (Ok format') v w → Opens canton (Ok (ledger_in format' tally store')) t w
    opened_well store' format' ready migrates =
        let now = migrates.rests at_rest in
        record {
          moments = moments (migrates.moments at_rest);
          opened = record {
            stood = record { content = knows.content; end = knows.end; format = format; framed = knows.framed; stands = knows.stands };
            pending = now.pending;
            opened = record { ready = ready; found = now.found };
          };
          refused = tt;
          unchanged = tt;
        }

    pub migration_failed : (store' : State) (device : DiskFault) (fault : OpenFault) → fault ≡ faults.Device
        → MigratesFrom (ledger_in format tally s) store' (Err device) v w → Opens canton (Err fault) t w
    migration_failed store' device fault is migrates = subst (λ (z : OpenFault). Opens canton (Err z) t w) (sym is) (record {
      moments = moments (migrates.moments at_rest);
      opened = tt;
      refused = tt;
      unchanged = λ other. absurd (other refl);
    })
