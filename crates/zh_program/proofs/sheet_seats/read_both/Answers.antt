use Rattle.std.proofs.Common.{◌≡◌, Err, inl, inr, lit≤, refl, rules}
use Rattle.zh_program.specs.Check.{a_sheet}
use Rattle.zh_program.specs.Texts.{a_setup}
use Rattle.zh_program.proofs.TextLemmas.{calls_after, gives, lacks}
use Rattle.zh_program.proofs.sheet_seats.read_both.Goals as goal

pub returns-in_err-setup-clause-calls : goal.returns-in_err-setup-clause-calls
returns-in_err-setup-clause-calls g c = (1, lit≤ tt, c.setup_at.ensures.call)

pub returns-in_err-text-clause-calls : goal.returns-in_err-text-clause-calls
returns-in_err-text-clause-calls g c = (2, lit≤ tt, calls_after g.F.Files 1 1 _ _ _ c.setup_at.ensures.call c.sheet_at.ensures.call)

pub returns-clause-calls : goal.returns-clause-calls
returns-clause-calls g c = (2, lit≤ tt, calls_after g.F.Files 1 1 _ _ _ c.setup_at.ensures.call c.sheet_at.ensures.call)

pub returns-in_err-setup-clause-read : goal.returns-in_err-setup-clause-read
returns-in_err-setup-clause-read g c =
    let is : c.from_residual.result ≡ Err c.in_err-setup.field-0.0 = search rules in
    rw is (inl (lacks g.F.Files a_setup c.args.paths.setup.now _ _ c.setup_at.ensures.call c.in_err-setup.field-0.0 c.in_err-setup.ensures.fault))

pub returns-in_err-text-clause-read : goal.returns-in_err-text-clause-read
returns-in_err-text-clause-read g c =
    let is : c.from_residual-in_err-text.result ≡ Err c.in_err-text.field-0.0 = search rules in
    let setup = gives g.F.Files a_setup c.args.paths.setup.now _ _ c.setup_at.ensures.call c.in_ok-setup.setup c.in_ok-setup.ensures.setup in
    let none = lacks g.F.Files a_sheet c.args.paths.sheet.now _ _ c.sheet_at.ensures.call c.in_err-text.field-0.0 c.in_err-text.ensures.fault in
    rw is (inr (c.setup_at.new.files, c.in_ok-setup.setup, setup, inl none))

pub returns-clause-read : goal.returns-clause-read
returns-clause-read g c =
    let setup = gives g.F.Files a_setup c.args.paths.setup.now _ _ c.setup_at.ensures.call c.in_ok-setup.setup c.in_ok-setup.ensures.setup in
    let sheet = gives g.F.Files a_sheet c.args.paths.sheet.now _ _ c.sheet_at.ensures.call c.in_ok-text.text.items c.in_ok-text.ensures.sheet in
    (c.setup_at.new.files, c.in_ok-setup.setup, setup, (c.sheet_at.new.files, c.in_ok-text.text.items, sheet, (refl, refl)))
