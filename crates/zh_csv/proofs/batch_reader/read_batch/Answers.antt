use Rattle.std.proofs.Common.{rules, refl, ap, ◌≡◌, [], Ok, Err, option_map}
use Rattle.zh_csv.specs.Front.{front_of}
use Rattle.zh_csv.specs.Load.{AreLoaded}
use Rattle.zh_csv.proofs.LoadingLemmas.{loads_of_front}
use Rattle.zh_csv.proofs.batch_reader.read_batch.Goals as goal

pub returns-in_err-read_rows-clause-loads : goal.returns-in_err-read_rows-clause-loads
returns-in_err-read_rows-clause-loads g c bytes known =
    let is : c.from_residual.result ≡ Err c.in_err-read_rows.field-0.0 = search rules in
    let none : AreLoaded c.args.setup.now [] = search rules in
    let refused = rw c.in_err-read_rows.was at (c.read_rows.ensures.rows c.args.setup.now (refl, c.new.ensures, none)) in
    rw is (loads_of_front c.args.setup.now bytes (Err c.in_err-read_rows.field-0.0) (refused (front_of bytes) (ap (option_map front_of) known)))

pub returns-clause-loads : goal.returns-clause-loads
returns-clause-loads g c bytes known =
    let none : AreLoaded c.args.setup.now [] = search rules in
    let (rows, holds, count, all) = rw c.in_ok-read_rows.was at (c.read_rows.ensures.rows c.args.setup.now (refl, c.new.ensures, none)) in
    rw holds.1 (loads_of_front c.args.setup.now bytes (Ok rows) (all (front_of bytes) (ap (option_map front_of) known), holds.2))

pub returns-clause-loaded : goal.returns-clause-loaded
returns-clause-loaded g c =
    let none : AreLoaded c.args.setup.now [] = search rules in
    let (rows, holds, count, all) = rw c.in_ok-read_rows.was at (c.read_rows.ensures.rows c.args.setup.now (refl, c.new.ensures, none)) in
    rw holds.1 holds.2
