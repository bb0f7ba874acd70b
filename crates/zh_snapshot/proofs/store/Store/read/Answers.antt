use Rattle.std.proofs.Common.{◌≡◌, ℕ, List, Option, Result, Err, None, Some, refl, sym, ap, subst}
use Rattle.zh_disk.proofs.CallerLemmas.{failed, handed, asked, asks_so, not_err}
use Rattle.zh_journal.specs.declared.fault.OpenFault as area
use Rattle.zh_journal.specs.declared.fault.OpenFault.TheVariants as of_area
use Rattle.zh_journal.specs.Pages.{ReadsRecords}
use Rattle.zh_journal.specs.Place.{Place, Rest}
use Rattle.zh_journal.specs.Records.{records_of}
use Rattle.zh_snapshot.specs.Store.{State}
use Rattle.zh_snapshot.specs.declared.fault.OpenFault.{OpenFault}
use Rattle.zh_snapshot.specs.declared.fault.OpenFault.TheVariants.{Device, Blank, Damaged}
use Rattle.zh_snapshot.specs.declared.heads.InUse.{InUse}
use Rattle.zh_snapshot.specs.Calls.{ReadsStore, FindsHeader}
use Rattle.zh_snapshot.specs.Image.{Content, IsFramed, IsBlank}
use Rattle.zh_journal.specs.Faults.{area_open_fails}
use Rattle.zh_snapshot.specs.Faults.{AsStoreFault, store_open_fails}
use Rattle.zh_snapshot.specs.Slots.{IsFound}
use Rattle.zh_snapshot.proofs.FrameLemmas.{no_header, no_slot, no_journal, framed_all}
use Rattle.zh_snapshot.proofs.SlotLemmas.{held}
use Rattle.zh_snapshot.proofs.store.Store.read.Goals as goal

-- what was found is true of an equal value
found_as : (found shown : Option InUse) (b : List ℕ) → found ≡ shown → IsFound found b → IsFound shown b
found_as found shown b is here = subst (λ (o : Option InUse). IsFound o b) is here

-- what reading a store finds at a device fault, and on a damaged disk
not_read : (b : List ℕ) → ReadsStore b (Err Device)
not_read b = record { framed = tt; left = λ x j framed. tt; blank = λ is. absurd cc; damaged = λ is. absurd cc }

not_framed : (b : List ℕ) → (IsBlank b → ⊥) × ((x : Content) (j : ℕ) → IsFramed x j b → ⊥) → ReadsStore b (Err Damaged)
not_framed b damage = record { framed = tt; left = λ x j framed. tt; blank = λ is. absurd cc; damaged = λ is. damage }

err_same : (T : Type 0) (d e : OpenFault) → (let r : Result T OpenFault = Err d in r ≡ Err e) → d ≡ e
err_same T d e is = cc

-- what it finds if the head of the disk gives an error
no_head : (b : List ℕ) (d : OpenFault) → FindsHeader b (Err d) → ReadsStore b (Err d)
no_head b d header = record {
  framed = tt;
  left = λ x j framed. tt;
  blank = λ is. let here : d ≡ Blank = err_same _ d Blank is in header.blank (ap Err here);
  damaged = λ is. let here : d ≡ Damaged = err_same _ d Damaged is in no_header b (header.damaged (ap Err here));
}

-- what it finds if the journal gives an error
no_area : (b : List ℕ) (e : area.OpenFault) (d : OpenFault) → AsStoreFault e d → (e ≡ of_area.Damaged → (IsBlank b → ⊥) × ((x : Content) (j : ℕ) → IsFramed x j b → ⊥)) → ReadsStore b (Err d)
no_area b of_area.Device d is damage = subst (λ (z : OpenFault). ReadsStore b (Err z)) (sym is) (not_read b)
no_area b of_area.Damaged d is damage = subst (λ (z : OpenFault). ReadsStore b (Err z)) (sym is) (not_framed b (damage refl))

by_area : (e : area.OpenFault) (d : OpenFault) → AsStoreFault e d → area_open_fails {T = Place × Rest} (Err e) ≡ store_open_fails {T = State × Rest} (Err d)
by_area of_area.Device d is = rw is refl
by_area of_area.Damaged d is = rw is refl

pub returns-in_err-setup_length-clause-call : goal.returns-in_err-setup_length-clause-call
returns-in_err-setup_length-clause-call g c =
    failed c.from_residual.ensures (λ d is. rw is refl)
    (λ d is h by. asks_so (λ header. subst (λ (z : OpenFault). ReadsStore (g.D.Disk.history c.args.disk.now).trail.now.bytes (Err z)) (sym is) (no_head _ _ header)) by)
    c.in_err-setup_length.ensures.call

pub returns-in_err-found-clause-call : goal.returns-in_err-found-clause-call
returns-in_err-found-clause-call g c =
    failed c.from_residual-in_err-found.ensures (λ d is. rw is refl)
    (λ d is h by. asks_so (λ two. subst (λ (z : OpenFault). ReadsStore (g.D.Disk.history c.args.disk.now).trail.now.bytes (Err z)) (sym is) (not_read _)) by)
    (asked refl c.in_ok-setup_length.ensures.call c.in_err-found.ensures.call)

pub returns-in_default-clause-call : goal.returns-in_default-clause-call
returns-in_default-clause-call g c =
    let b = (g.D.Disk.history c.args.disk.now).trail.now.bytes in
    handed refl
    (λ h by. asks_so (λ two. not_framed b (no_slot b c.in_ok-setup_length.setup_length two.0.right (found_as c.in_ok-found.field-0 None b c.in_default.is two.1))) by)
    (asked refl c.in_ok-setup_length.ensures.call c.in_ok-found.ensures.call)

pub returns-in_err-area-clause-call : goal.returns-in_err-area-clause-call
returns-in_err-area-clause-call g c =
    let b = (g.D.Disk.history c.args.disk.now).trail.now.bytes in
    failed c.from_residual-in_err-area.ensures (λ d is. by_area _ d is)
    (λ d is h by. asks_so (λ three.
    let found = found_as c.in_ok-found.field-0 (Some c.in-Some.found) b c.in-Some.is three.0.1 in
    no_area b c.in_err-area.field-0.0 d is (λ fault. no_journal b c.in_ok-setup_length.setup_length c.in-Some.found.slot three.0.0.right found.0
    (subst (λ (n : ℕ). records_of n b ≡ None) c.journal.ensures (three.1.damaged (ap Err fault))))) by)
    (asked refl (asked refl c.in_ok-setup_length.ensures.call c.in_ok-found.ensures.call) c.in_err-area.ensures.call)

pub returns-clause-call : goal.returns-clause-call
returns-clause-call g c =
    let b = (g.D.Disk.history c.args.disk.now).trail.now.bytes in
    let slot = c.in-Some.found.slot in
    handed refl
    (λ h by. asks_so (λ three.
    let used = found_as c.in_ok-found.field-0 (Some c.in-Some.found) b c.in-Some.is three.0.1 in
    let found = three.1.found in
    record {
      framed = framed_all b c.in_ok-setup_length.setup_length c.in-Some.found.slot c.in-Some.found.generation c.in-Some.found.other_open c.in_ok-area.area found.0 (g.met.D.Disk.size c.args.disk.now h)
          three.0.0.right used (subst (λ (n : ℕ). ReadsRecords n b found.0 c.in_ok-area.area.end) c.journal.ensures found.1) found.2;
      left = λ x j framed. three.1.left x.records j (subst (λ (n : ℕ). ReadsRecords n b x.records j) (sym c.journal.ensures) (held c.in-Some.found.slot x j b used.0 framed).records);
      blank = λ is. absurd (not_err is);
      damaged = λ is. absurd (not_err is);
    }) by)
    (asked refl (asked refl c.in_ok-setup_length.ensures.call c.in_ok-found.ensures.call) c.in_ok-area.ensures.call)

pub returns-clause-whole : goal.returns-clause-whole
returns-clause-whole g c = refl
