use Rattle.std.proofs.Common.{◌≡◌, Err, Ok, List, ℕ, inl, inr, refl, rules, subst, sym, arith}
use Rattle.zh_program.specs.SheetSeats.{MayShowSheet, ReadsBoth}
use Rattle.zh_program.specs.World.{WorldOf, known}
use Rattle.zh_program.specs.declared.fault.TaskFault.TheVariants as faults
use Rattle.zh_program.proofs.ShownLemmas.{files_stay, shows}
use Rattle.zh_program.proofs.sheet_seats.sheet_seats.Goals as goal

pub returns-in_err-setup : goal.returns-in_err-setup
returns-in_err-setup g c =
    let is : c.from_residual.result ≡ Err c.in_err-setup.field-0.0 = search rules in
    let calls = c.read_both.ensures.calls in
    rw is (record {
      files = c.read_both.new.files;
      rest = refl;
      calls = (calls.0, omega (arith, calls.1), calls.2);
      done = inl (c.in_err-setup.ensures.read, refl);
    })

pub returns-in_err-shown : goal.returns-in_err-shown
returns-in_err-shown g c =
    let is : c.from_residual-in_err-shown.result ≡ Err faults.Memory = search rules in
    let calls = c.read_both.ensures.calls in
    let canton = c.in_ok-setup.setup in
    let read = subst (λ (bytes : List ℕ). ReadsBoth g.F.Files c.args.paths c.args.world.now.files c.read_both.new.files (Ok (canton, bytes))) (sym c.deref.ensures.value) c.in_ok-setup.ensures.read in
    rw is (record {
      files = c.read_both.new.files;
      rest = refl;
      calls = (calls.0, omega (arith, calls.1), calls.2);
      done = inr ((canton, c.deref.result.now), read, refl);
    })

pub returns : goal.returns
returns g c =
    let of = known g.I.Read g.O.Write g.E.Write g.F.Files g.F.Disk.Disk in
    let calls = c.read_both.ensures.calls in
    let canton = c.in_ok-setup.setup in
    let bytes = c.deref.result.now in
    let asked : WorldOf of = record c.args.world.now { files = c.read_both.new.files } in
    let new = c.write_shown.new.world in
    let written = c.write_shown.ensures in
    let May = MayShowSheet canton bytes c.args.paths.layout in
    let read = subst (λ (bytes : List ℕ). ReadsBoth g.F.Files c.args.paths c.args.world.now.files c.read_both.new.files (Ok (canton, bytes))) (sym c.deref.ensures.value) c.in_ok-setup.ensures.read in
    record {
      files = c.read_both.new.files;
      rest = files_stay of asked new written.rest;
      calls = (calls.0, omega (arith, calls.1), calls.2);
      done = inr ((canton, bytes), read, shows of asked new May c.in_ok-shown.shown c.write_shown.result c.in_ok-shown.ensures written.rest written.written);
    }
