use Rattle.std.proofs.Common.{◌≡◌, ◌∙◌, [], ap, refl, subst, length, arith, OnOk}
use Rattle.std.proofs.lemmas.List.{with_items_is}
use Rattle.std.proofs.lemmas.Result.{on_ok_weaker}
use Rattle.zh_disk.proofs.CallerLemmas.{told, refused}
use Rattle.zh_districts.specs.Spelling.{setup_spelling}
use Rattle.zh_returns.specs.Limits.{IsTally}
use Rattle.zh_returns.specs.declared.command.Format.TheVariants.{Two}
use Rattle.zh_returns.specs.Payload.{payload_spelling}
use Rattle.zh_returns.specs.Tally.{empty}
use Rattle.zh_snapshot.specs.Format.{IsFormatted}
use Rattle.zh_ledger.proofs.OpenedLemmas.{filled, formats_as, new_image, not_formatted}
use Rattle.zh_ledger.proofs.ledger.Ledger.format.Given.{Over}
use Rattle.zh_ledger.proofs.ledger.Ledger.format.Goals as goal

pub returns-in_err-bytes-clause-call : goal.returns-in_err-bytes-clause-call
returns-in_err-bytes-clause-call g c = refused c.from_residual.ensures (λ d is. rw is refl) (λ d is h. not_formatted c.args.setup.now d _)

pub returns-in_err-first-clause-call : goal.returns-in_err-first-clause-call
returns-in_err-first-clause-call g c = refused c.from_residual-in_err-first.ensures (λ d is. rw is refl) (λ d is h. not_formatted c.args.setup.now d _)

pub returns-in_err-new-clause-call : goal.returns-in_err-new-clause-call
returns-in_err-new-clause-call g c = refused c.from_residual-in_err-new.ensures (λ d is. rw is refl) (λ d is h. not_formatted c.args.setup.now d _)

setup_is : (g : Over) (c : goal.After-drop-bytes-2 g) → c.deref.result.now ≡ setup_spelling c.args.setup.now
setup_is g c = c.deref.ensures.value ∙ c.in_ok-bytes.ensures.spelling

first_is : (g : Over) (c : goal.After-drop-bytes-2 g) → c.deref-2.result.now ≡ payload_spelling Two (empty c.args.setup.now)
first_is g c =
    let first = c.in_ok-first.first in
    let size : first.len ≡ 262391 = omega (arith, first.ok.0, c.in_ok-first.ensures) in
    let room : length c.deref_mut.result.now ≡ 262391 = omega (arith, c.deref_mut.ensures.len, size) in
    let whole : length c.encode-2.new.out ≡ 262391 = omega (arith, c.encode-2.auto.out, room) in
    filled 262391 first.len (payload_spelling Two c.in_ok-new.field-0) c.encode-2.new.out c.deref_mut.result.now _ c.deref-2.result.now size
    room whole c.encode-2.ensures.spelling c.deref-2.ensures.value
    ∙ ap (payload_spelling Two) c.in_ok-new.ensures

pub returns-clause-call : goal.returns-clause-call
returns-clause-call g c =
    let old = (g.D.Disk.history c.args.disk.now).trail in
    let new = (g.D.Disk.history c.format.new.disk).trail in
    let limits = subst IsTally (c.encode.view_is ∙ c.in_ok-new.ensures) c.encode.invariant.tally in
    let setup = c.deref.result.now in
    let first = c.deref-2.result.now in
    told
    (λ h by.
    let done : OnOk c.format.result ((new.now.pending ≡ []) × IsFormatted setup first new.now.bytes) = by.done in
    record {
      moments = formats_as c.deref.result.now _ c.deref-2.result.now _ old new (setup_is g c) (first_is g c) by.moments;
      formatted = on_ok_weaker c.format.result (new_image c.args.setup.now c.deref.result.now c.deref-2.result.now new.now (setup_is g c) (first_is g c) limits) done;
      fresh = rw (← setup_is g c, ← first_is g c) (on_ok_weaker c.format.result (λ both. both.1) done);
      settled = on_ok_weaker c.format.result (λ both. both.0) done;
    })
    c.format.ensures.call

pub format-requires-clause-setup : goal.format-requires-clause-setup
format-requires-clause-setup g c = omega (arith, ap length c.deref.ensures.value, c.in_ok-bytes.ensures.length)

pub format-requires-clause-first : goal.format-requires-clause-first
format-requires-clause-first g c =
    let first = c.in_ok-first.first in
    let size : first.len ≡ 262391 = omega (arith, first.ok.0, c.in_ok-first.ensures) in
    let whole : length c.encode-2.new.out ≡ first.len = omega (arith, c.encode-2.auto.out, c.deref_mut.ensures.len) in
    ap length (c.deref-2.ensures.value ∙ with_items_is first c.encode-2.new.out whole) ∙ whole ∙ size
