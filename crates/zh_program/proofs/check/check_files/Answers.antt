use Rattle.std.proofs.Common.{◌≡◌, ◌+◌, Option, refl, rules, Err, inl, inr, arith, lit≤}
use Rattle.std.specs.Option.{option_copied}
use Rattle.zh_csv.specs.declared.held_sums.HeldSums.{HeldSums}
use Rattle.zh_verdicts.specs.Checks.{Inputs}
use Rattle.zh_program.specs.Check.{a_sheet}
use Rattle.zh_program.specs.Texts.{a_setup}
use Rattle.zh_program.proofs.CheckLemmas.{held_calls}
use Rattle.zh_program.proofs.TextLemmas.{calls_after, gives, lacks}
use Rattle.zh_program.proofs.check.check_files.Goals as goal

pub returns-in_err-setup : goal.returns-in_err-setup
returns-in_err-setup g c =
    let is : c.from_residual.result ≡ Err c.in_err-setup.field-0.0 = search rules in
    let call = c.setup_at.ensures.call in
    rw is (record {
      files = c.setup_at.new.files;
      rest = refl;
      calls = (1, lit≤ tt, call);
      done = inl (inl (lacks g.F.Files a_setup c.args.paths.setup.now _ _ call c.in_err-setup.field-0.0 c.in_err-setup.ensures.fault), refl);
    })

pub returns-in_err-sheet : goal.returns-in_err-sheet
returns-in_err-sheet g c =
    let is : c.from_residual-in_err-sheet.result ≡ Err c.in_err-sheet.field-0.0 = search rules in
    let first = c.setup_at.ensures.call in
    let second = c.sheet_at.ensures.call in
    let setup = gives g.F.Files a_setup c.args.paths.setup.now _ _ first c.in_ok-setup.setup c.in_ok-setup.ensures.setup in
    let none = lacks g.F.Files a_sheet c.args.paths.sheet.now _ _ second c.in_err-sheet.field-0.0 c.in_err-sheet.ensures.fault in
    rw is (record {
      files = c.sheet_at.new.files;
      rest = refl;
      calls = (2, lit≤ tt, calls_after g.F.Files 1 1 _ _ _ first second);
      done = inl (inr (c.setup_at.new.files, c.in_ok-setup.setup, setup, inl none), refl);
    })

pub returns-in_err-held : goal.returns-in_err-held
returns-in_err-held g c =
    let is : c.from_residual-in_err-held.result ≡ Err c.in_err-held.field-0.0 = search rules in
    let first = c.setup_at.ensures.call in
    let second = c.sheet_at.ensures.call in
    let setup = gives g.F.Files a_setup c.args.paths.setup.now _ _ first c.in_ok-setup.setup c.in_ok-setup.ensures.setup in
    let sheet = gives g.F.Files a_sheet c.args.paths.sheet.now _ _ second c.in_ok-sheet.sheet.items c.in_ok-sheet.ensures.sheet in
    let third = held_calls g.F.Files c.in_ok-setup.setup _ _ _ _ c.held_if_named.ensures in
    let none = rw c.in_err-held.was at c.held_if_named.ensures in
    rw is (record {
      files = c.held_if_named.new.files;
      rest = refl;
      calls = (2 + third.0, omega (arith, third.1), calls_after g.F.Files 2 third.0 _ _ _ (calls_after g.F.Files 1 1 _ _ _ first second) third.2);
      done = inl (inr (c.setup_at.new.files, c.in_ok-setup.setup, setup, inr (c.sheet_at.new.files, c.in_ok-sheet.sheet.items, sheet, inl none)), refl);
    })

pub returns : goal.returns
returns g c =
    let canton = c.in_ok-setup.setup in
    let first = c.setup_at.ensures.call in
    let second = c.sheet_at.ensures.call in
    let setup = gives g.F.Files a_setup c.args.paths.setup.now _ _ first canton c.in_ok-setup.ensures.setup in
    let bytes = c.deref.result.now in
    let sheet = gives g.F.Files a_sheet c.args.paths.sheet.now _ _ second bytes (rw (← c.deref.ensures.value) at c.in_ok-sheet.ensures.sheet) in
    let third = held_calls g.F.Files canton _ _ _ _ c.held_if_named.ensures in
    let read = rw c.in_ok-held.was at c.held_if_named.ensures in
    let sums : Option HeldSums = option_copied c.as_ref.result in
    let held = rw (← c.as_ref.ensures.value) at read in
    let inputs : Inputs = record { canton = canton; sheet = bytes; held = sums } in
    record {
      files = c.held_if_named.new.files;
      rest = refl;
      calls = (2 + third.0, omega (arith, third.1), calls_after g.F.Files 2 third.0 _ _ _ (calls_after g.F.Files 1 1 _ _ _ first second) third.2);
      done = inr (
        inputs,
        (c.setup_at.new.files, canton, setup, (c.sheet_at.new.files, bytes, sheet, (c.held_if_named.new.files, sums, held, (refl, refl)))),
        (refl, c.answer.ensures),
      );
    }
