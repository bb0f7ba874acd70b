use Rattle.std.proofs.Common.{rules, ◌≡◌, ◌∙◌, Err, refl, sym, ap, arith}
use Rattle.std.proofs.lemmas.Grind.{common_steps}
use Rattle.zh_disk.proofs.CallerLemmas.{handed, refused, failed, followed}
use Rattle.zh_districts.specs.Spelling.{setup_spelling}
use Rattle.zh_returns.specs.Tally.{Tally, empty}
use Rattle.zh_ledger.specs.declared.opening.OpenFault.{OpenFault}
use Rattle.zh_ledger.specs.declared.opening.OpenFault.TheVariants as faults
use Rattle.zh_ledger.specs.Ledger.{ledger_in}
use Rattle.zh_ledger.specs.Opened.{IsReady}
use Rattle.zh_ledger.proofs.OpenedLemmas.{err_of}
use Rattle.zh_ledger.proofs.OpeningLemmas.{opening_fails, memory_refused, fails_as, store_refused, count_refused, opened_well, migration_failed}
use Rattle.zh_ledger.proofs.ledger.Ledger.open.Given.{Over}
use Rattle.zh_ledger.proofs.ledger.Ledger.open.Goals.{After-read_count}
use Rattle.zh_ledger.proofs.ledger.Ledger.open.Goals as goal

pub returns-in_err-bytes-clause-opening : goal.returns-in_err-bytes-clause-opening
returns-in_err-bytes-clause-opening g c =
    opening_fails c.args.setup.now _ _ c.from_residual.result c.from_residual.ensures.0
    (refused c.from_residual.ensures (λ d is. rw is refl) (λ d is h. memory_refused c.args.setup.now _ d is))

pub returns-in_err-buffer-clause-opening : goal.returns-in_err-buffer-clause-opening
returns-in_err-buffer-clause-opening g c =
    opening_fails c.args.setup.now _ _ c.from_residual-in_err-buffer.result c.from_residual-in_err-buffer.ensures.0
    (refused c.from_residual-in_err-buffer.ensures (λ d is. rw is refl) (λ d is h. memory_refused c.args.setup.now _ d is))

pub returns-in_err-count-clause-opening : goal.returns-in_err-count-clause-opening
returns-in_err-count-clause-opening g c =
    opening_fails c.args.setup.now _ _ c.from_residual-in_err-count.result c.from_residual-in_err-count.ensures.0
    (refused c.from_residual-in_err-count.ensures (λ d is. rw is refl) (λ d is h. memory_refused c.args.setup.now _ d is))

pub returns-in_err-store-clause-opening : goal.returns-in_err-store-clause-opening
returns-in_err-store-clause-opening g c =
    let again = c.from_residual-in_err-store in
    opening_fails c.args.setup.now _ _ again.result again.ensures.0
    (failed again.ensures (λ d is. fails_as _ d is) (λ d is h by. store_refused c.args.setup.now _ _ _ d is by) c.in_err-store.ensures.call)

-- the set-up of the count
of_setup : (g : Over) (c : After-read_count g) → c.in_ok-count.count.canton ≡ c.args.setup.now
of_setup g c = ap (λ (t : Tally). t.canton) c.in_ok-count.ensures

pub returns-in_err-found-clause-opening : goal.returns-in_err-found-clause-opening
returns-in_err-found-clause-opening g c =
    let at = (goal.at.returns-in_err-found-clause-opening g c).After-read_count in
    let again = c.from_residual-in_err-found in
    opening_fails c.args.setup.now _ _ again.result again.ensures.0
    (failed again.ensures (λ d is. rw is refl)
    (λ d is h by. count_refused c.args.setup.now c.in_ok-count.count.canton (of_setup g at) _ _ c.in_ok-store.store c.in_ok-store.reader by.1 c.read_count.new.count _ c.in_err-found.field-0.0 d
    (g.met.D.Disk.size c.args.disk.now h) is (λ here. c.in_err-found.ensures.blank (ap (λ (e : OpenFault). Err e) here)) by.2)
    (followed refl c.in_ok-store.ensures.call c.in_err-found.ensures.call))

pub returns-clause-opening : goal.returns-clause-opening
returns-clause-opening g c =
    let at = (goal.at.returns-clause-opening g c).After-read_count in
    let canton = c.read_count.ensures.canton ∙ of_setup g at in
    let ready : IsReady c.args.setup.now (ledger_in c.in_ok-format.format c.read_count.new.count c.migrate.new.store) =
    record { set_up = canton; whole = c.in_ok-format.ensures.whole; last = c.in_ok-format.ensures.last } in
    record {
      ready = ready;
      call = handed refl
          (λ h by. opened_well c.args.setup.now c.in_ok-count.count.canton (of_setup g at) _ _ c.in_ok-store.store c.in_ok-store.reader by.1.1 c.read_count.new.count _ _ c.in_ok-found.found
          c.read_count.ensures.canton by.1.2 c.migrate.new.store c.in_ok-format.format ready by.2)
          (followed refl (followed refl c.in_ok-store.ensures.call c.in_ok-found.ensures.call) c.in_ok-format.ensures.call);
    }

pub returns-in_err-format-clause-opening : goal.returns-in_err-format-clause-opening
returns-in_err-format-clause-opening g c =
    let at = (goal.at.returns-in_err-format-clause-opening g c).After-read_count in
    let again = c.from_residual-in_err-format in
    opening_fails c.args.setup.now _ _ again.result again.ensures.0
    (failed again.ensures (λ d is. rw is refl)
    (λ d is h by. migration_failed c.args.setup.now c.in_ok-count.count.canton (of_setup g at) _ _ c.in_ok-store.store c.in_ok-store.reader by.1.1 c.read_count.new.count _ _ c.in_ok-found.found
    c.read_count.ensures.canton by.1.2 c.migrate.new.store c.in_err-format.field-0.0 d is by.2)
    (followed refl (followed refl c.in_ok-store.ensures.call c.in_ok-found.ensures.call) c.in_err-format.ensures.call))

pub returns-in_err-format-clause-untouched : goal.returns-in_err-format-clause-untouched
returns-in_err-format-clause-untouched g c = λ is.
    let same : c.from_residual-in_err-format.result ≡ Err faults.Device = search rules in
    absurd (cc)

pub migrate-requires-clause-buffer : goal.migrate-requires-clause-buffer
migrate-requires-clause-buffer g c = omega (arith, c.deref_mut-2.ensures.len, c.in_ok-buffer.buffer.ok.0, c.in_ok-buffer.ensures)

pub migrate-requires-clause-whole : goal.migrate-requires-clause-whole
migrate-requires-clause-whole g c = c.in_ok-store.ensures.whole

pub returns-in_err-found-clause-untouched : goal.returns-in_err-found-clause-untouched
returns-in_err-found-clause-untouched g c = λ is.
    let fault = err_of _ _ _ c.from_residual-in_err-found.ensures.1 is in
    absurd (c.in_err-found.ensures.memory (ap (λ (e : OpenFault). Err e) (sym fault)))

pub read_count-requires-clause-setup : goal.read_count-requires-clause-setup
read_count-requires-clause-setup g c = c.deref.ensures.value ∙ c.in_ok-bytes.ensures.spelling ∙ sym (ap (λ (t : Tally). setup_spelling t.canton) c.in_ok-count.ensures)

pub read_count-requires-clause-buffer : goal.read_count-requires-clause-buffer
read_count-requires-clause-buffer g c = omega (arith, c.deref_mut.ensures.len, c.in_ok-buffer.buffer.ok.0, c.in_ok-buffer.ensures)

pub read_count-requires-clause-count : goal.read_count-requires-clause-count
read_count-requires-clause-count g c = c.in_ok-count.ensures ∙ sym (ap (λ (t : Tally). empty t.canton) c.in_ok-count.ensures)

pub invariant_of-result : goal.invariant_of-result
invariant_of-result g c = grind (arith, common_steps)
