use Rattle.std.proofs.Common.{◌≡◌, ◌∙◌, ◌++◌, ◌<◌, ◌≤◌, take, List, ℕ, length, arith, ap, refl, false}
use Rattle.std.proofs.Math.Seq.{take-append_seam}
use Rattle.std.proofs.lemmas.Bool.{lt-leb, le-leb}
use Rattle.zh_disk.proofs.CallerLemmas.{no_call, handed, failed}
use Rattle.zh_journal.specs.Pages.{pages_of}
use Rattle.zh_journal.specs.Place.{pages_left}
use Rattle.zh_returns.specs.declared.command.Format.TheVariants.{Two}
use Rattle.zh_returns.proofs.CallerLemmas.{short, speakable_fit}
use Rattle.zh_ledger.specs.Ledger.{has_room, pages_for}
use Rattle.zh_ledger.specs.Ledger.{ledger_of}
use Rattle.zh_ledger.proofs.ReadyLemmas.{has_made_room}
use Rattle.zh_ledger.proofs.SwitchLemmas.{makes_room, makes_no_room}
use Rattle.zh_ledger.proofs.storage.make_room.Goals as goal

-- what was written is at the front
in_front : (n : ℕ) (spelling rest out : List ℕ) → out ≡ spelling ++ rest → n ≡ length spelling → take n out ≡ spelling
in_front n spelling rest out is len = ap (take n) is ∙ ap (λ k. take k (spelling ++ rest)) len ∙ take-append_seam spelling rest

pub encode_command-len-requires-clause-room : goal.encode_command-len-requires-clause-room
encode_command-len-requires-clause-room g c = omega (arith, short Two c.args.command.now c.requires.speakable, c.requires.buffer)

pub encode_command-requires-clause-fits : goal.encode_command-requires-clause-fits
encode_command-requires-clause-fits g c = speakable_fit Two c.args.command.now c.requires.speakable

pub returns-then-pages_of-pages_left-clause-written : goal.returns-then-pages_of-pages_left-clause-written
returns-then-pages_of-pages_left-clause-written g c = in_front _ _ _ _ c.encode_command-len.ensures.spelling c.encode_command-len.ensures.length

pub returns-clause-written : goal.returns-clause-written
returns-clause-written g c = in_front _ _ _ _ c.encode_command.ensures.spelling c.encode_command.ensures.length

pub returns-then-pages_of-pages_left-clause-call : goal.returns-then-pages_of-pages_left-clause-call
returns-then-pages_of-pages_left-clause-call g c =
    let x = c.args.command.now in
    let enough : pages_for x ≤ pages_left c.args.store.now.area =
    omega (arith, c.if-pages_of-pages_left.true, c.pages_left.ensures, c.pages_of.ensures, ap pages_of c.encode_command-len.ensures.length) in
    no_call refl (λ h. has_made_room (ledger_of c.args.count.now c.args.store.now) x _ _ (le-leb (pages_for x) (pages_left c.args.store.now.area) enough))

pub returns-clause-call : goal.returns-clause-call
returns-clause-call g c =
    let s = ledger_of c.args.count.now c.args.store.now in
    let x = c.args.command.now in
    let few : pages_left c.args.store.now.area < pages_for x =
    omega (arith, c.if-pages_of-pages_left.false, c.pages_left.ensures, c.pages_of.ensures, ap pages_of c.encode_command-len.ensures.length) in
    let none : has_room s x ≡ false = lt-leb (pages_for x) (pages_left c.args.store.now.area) few in
    handed refl (λ h by. makes_room c.args.count.now c.args.store.now c.switch.ensures.limits x _ _ _ _ none by) c.in_ok-switch.ensures.call

pub returns-in_err-switch-clause-call : goal.returns-in_err-switch-clause-call
returns-in_err-switch-clause-call g c =
    failed c.from_residual.ensures (λ e is. rw is refl)
    (λ e is h by. makes_no_room c.args.count.now c.args.store.now c.switch.ensures.limits c.args.command.now _ e _ _ by)
    c.in_err-switch.ensures.call
