use Rattle.std.proofs.Common.{rules, refl, ◌≡◌, Err, inl, inr, lit≤}
use Rattle.zh_program.specs.List.{MayList}
use Rattle.zh_program.specs.Texts.{a_setup}
use Rattle.zh_program.specs.World.{WorldOf, known}
use Rattle.zh_program.proofs.ShownLemmas.{files_stay, shows}
use Rattle.zh_program.proofs.TextLemmas.{gives, lacks}
use Rattle.zh_program.proofs.list.list_at.Goals as goal

pub returns-in_err-setup : goal.returns-in_err-setup
returns-in_err-setup g c =
    let is : c.from_residual.result ≡ Err c.in_err-setup.field-0.0 = search rules in
    let call = c.setup_at.ensures.call in
    rw is (record {
      files = c.setup_at.new.files;
      rest = refl;
      calls = (1, lit≤ tt, call);
      done = inl (lacks g.F.Files a_setup c.args.path.now _ _ call c.in_err-setup.field-0.0 c.in_err-setup.ensures.fault, refl);
    })

pub returns-in_err-shown : goal.returns-in_err-shown
returns-in_err-shown g c =
    let is : c.from_residual-in_err-shown.result ≡ Err c.in_err-shown.field-0.0 = search rules in
    let call = c.setup_at.ensures.call in
    rw is (record {
      files = c.setup_at.new.files;
      rest = refl;
      calls = (1, lit≤ tt, call);
      done = inr (c.in_ok-setup.setup, gives g.F.Files a_setup c.args.path.now _ _ call c.in_ok-setup.setup c.in_ok-setup.ensures.setup, inl (c.in_err-shown.ensures, refl));
    })

pub returns : goal.returns
returns g c =
    let of = known g.I.Read g.O.Write g.E.Write g.F.Files g.F.Disk.Disk in
    let call = c.setup_at.ensures.call in
    let canton = c.in_ok-setup.setup in
    let asked : WorldOf of = record c.args.world.now { files = c.setup_at.new.files } in
    let new = c.write_shown.new.world in
    let written = c.write_shown.ensures in
    let shown = shows of asked new (MayList canton c.args.table) c.in_ok-shown.shown c.write_shown.result c.in_ok-shown.ensures written.rest written.written in
    record {
      files = c.setup_at.new.files;
      rest = files_stay of asked new written.rest;
      calls = (1, lit≤ tt, call);
      done = inr (canton, gives g.F.Files a_setup c.args.path.now _ _ call canton c.in_ok-setup.ensures.setup, inr shown);
    }
