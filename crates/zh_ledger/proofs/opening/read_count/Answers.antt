use Rattle.std.proofs.Common.{◌∙◌, refl}
use Rattle.zh_disk.proofs.CallerLemmas.{handed, failed, asked, asks_so}
use Rattle.zh_ledger.proofs.OpenedLemmas.{read_so, differs_so, count_unread, count_differs, count_wrong, count_read, wrong_format, wrong_snapshot, wrong_records, found_stands}
use Rattle.zh_ledger.proofs.opening.read_count.Goals as goal

pub returns-in_err-setup_equals-clause-call : goal.returns-in_err-setup_equals-clause-call
returns-in_err-setup_equals-clause-call g c =
    failed c.from_residual.ensures (λ d is. rw is refl) (λ d is h by. asks_so (λ compares. count_unread d is) by) c.in_err-setup_equals.ensures.call

pub returns-then-not-branch-clause-call : goal.returns-then-not-branch-clause-call
returns-then-not-branch-clause-call g c =
    handed refl
    (λ h by. asks_so (λ compares. count_differs (differs_so c.args.store.now c.args.reader.now c.args.count.now.canton c.args.setup.now
    c.in_ok-setup_equals.field-0 _ c.requires.setup compares c.if-not-branch.true)) by)
    c.in_ok-setup_equals.ensures.call

pub returns-in_err-payload-clause-call : goal.returns-in_err-payload-clause-call
returns-in_err-payload-clause-call g c =
    failed c.from_residual-in_err-payload.ensures (λ d is. rw is refl) (λ d is h by. asks_so (λ two. count_unread d is) by)
    (asked refl c.in_ok-setup_equals.ensures.call c.in_err-payload.ensures.call)

pub returns-in_default-clause-call : goal.returns-in_default-clause-call
returns-in_default-clause-call g c =
    let canton = c.args.count.now.canton in
    let payload = c.in_ok-payload.payload.now in
    handed refl
    (λ h by. asks_so (λ two.
    let read = read_so c.args.store.now c.args.reader.now canton c.args.setup.now c.in_ok-setup_equals.field-0 _ c.requires.setup two.0 c.if-not-branch.false payload two.1 in
    count_wrong (λ x left. wrong_format canton x payload (read x left) c.in_default.ensures.refused)) by)
    (asked refl c.in_ok-setup_equals.ensures.call c.in_ok-payload.ensures.call)

pub returns-then-not-decode-clause-call : goal.returns-then-not-decode-clause-call
returns-then-not-decode-clause-call g c =
    let canton = c.args.count.now.canton in
    let payload = c.in_ok-payload.payload.now in
    handed refl
    (λ h by. asks_so (λ two.
    let read = read_so c.args.store.now c.args.reader.now canton c.args.setup.now c.in_ok-setup_equals.field-0 _ c.requires.setup two.0 c.if-not-branch.false payload two.1 in
    count_wrong (λ x left. wrong_snapshot canton x payload (read x left) (c.if-not-decode.ensures.refused refl))) by)
    (asked refl c.in_ok-setup_equals.ensures.call c.in_ok-payload.ensures.call)

pub returns-then-not-replay-clause-call : goal.returns-then-not-replay-clause-call
returns-then-not-replay-clause-call g c =
    let canton = c.args.count.now.canton in
    let payload = c.in_ok-payload.payload.now in
    handed refl
    (λ h by. asks_so (λ two.
    let read = read_so c.args.store.now c.args.reader.now canton c.args.setup.now c.in_ok-setup_equals.field-0 _ c.requires.setup two.0 c.if-not-branch.false payload two.1 in
    count_wrong (λ x left. wrong_records canton x payload (read x left) c.in-Some.format c.decode.new.self
    (record { says = c.in-Some.ensures.read; its = c.decode.ensures.canton; limits = c.decode.ensures.limits; spelled = c.if-not-decode.ensures.read refl })
    (c.if-not-replay.ensures.refused refl x.records left.left))) by)
    (asked refl c.in_ok-setup_equals.ensures.call c.in_ok-payload.ensures.call)

pub returns-clause-call : goal.returns-clause-call
returns-clause-call g c =
    let canton = c.args.count.now.canton in
    let payload = c.in_ok-payload.payload.now in
    handed refl
    (λ h by. asks_so (λ two.
    let read = read_so c.args.store.now c.args.reader.now canton c.args.setup.now c.in_ok-setup_equals.field-0 _ c.requires.setup two.0 c.if-not-branch.false payload two.1 in
    count_read c.in-Some.format (λ x left. found_stands canton x payload (read x left) c.in-Some.format c.decode.new.self
    (record { says = c.in-Some.ensures.read; its = c.decode.ensures.canton; limits = c.decode.ensures.limits; spelled = c.if-not-decode.ensures.read refl })
    c.replay.new.count c.replay.ensures.canton
    (c.if-not-replay.ensures.replayed refl x.records left.left))) by)
    (asked refl c.in_ok-setup_equals.ensures.call c.in_ok-payload.ensures.call)

pub returns-clause-canton : goal.returns-clause-canton
returns-clause-canton g c = c.replay.ensures.canton ∙ c.decode.ensures.canton

pub snapshot-requires : goal.snapshot-requires
snapshot-requires g c = c.requires.buffer

pub decode-requires : goal.decode-requires
decode-requires g c = c.requires.count
