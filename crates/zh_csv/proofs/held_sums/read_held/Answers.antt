use Rattle.std.proofs.Common.{rules, ap, ◌≡◌, ◌∙◌, Ok, Err, option_map}
use Rattle.zh_csv.specs.Front.{front_of}
use Rattle.zh_csv.specs.Held.{AreSums}
use Rattle.zh_csv.specs.declared.held_sums.HeldSums.{HeldSums}
use Rattle.zh_csv.proofs.HoldingLemmas.{adds_up_of_front}
use Rattle.zh_csv.proofs.held_sums.read_held.Goals as goal

pub returns-in_err-rows-clause-held : goal.returns-in_err-rows-clause-held
returns-in_err-rows-clause-held g c =
    let is : c.from_residual-in_err-rows.result ≡ Err c.in_err-rows.field-0.0 = search rules in
    let refused = rw c.in_err-rows.was at (c.read_rows.ensures.rows c.args.setup.now c.in_ok-sums.ensures) in
    rw is (record {
      known = λ bytes known.
          let of_front = refused (front_of bytes) (ap (option_map front_of) known) in
          adds_up_of_front c.args.setup.now bytes (Err c.in_err-rows.field-0.0) of_front;
      sums = tt;
    })

pub returns-clause-held : goal.returns-clause-held
returns-clause-held g c =
    let (rows, holds, count, all) = rw c.in_ok-rows.was at (c.read_rows.ensures.rows c.args.setup.now c.in_ok-sums.ensures) in
    let sums : HeldSums = record { rows = c.in_ok-rows.rows; totals = c.totals.result } in
    let are : AreSums c.args.setup.now rows sums =
    record { held = holds.held; count = count; totals = c.totals.ensures ∙ holds.totals } in
    record {
      known = λ bytes known.
          let records = all (front_of bytes) (ap (option_map front_of) known) in
          adds_up_of_front c.args.setup.now bytes (Ok sums) (record { rows = rows; records = records; are = are });
      sums = (rows, are);
    }
