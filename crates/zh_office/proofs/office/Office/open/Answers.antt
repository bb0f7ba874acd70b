use Rattle.std.proofs.Common.{rules, ◌≡◌, Err, refl}
use Rattle.zh_disk.proofs.CallerLemmas.{leaves_none, no_call}
use Rattle.zh_disk.specs.History.{History}
use Rattle.zh_districts.specs.Canton.{Canton}
use Rattle.zh_ledger.specs.Opening.{Opening}
use Rattle.zh_ledger.specs.declared.opening.OpenFault.TheVariants as faults
use Rattle.zh_office.proofs.office.Office.open.Goals as goal

-- if memory is refused, the disk is not called
without_memory : (canton : Canton) (history : History) → Opening canton history history (Err faults.Memory)
without_memory canton history = record {
  ready = tt;
  call = no_call refl (λ honest. record {
    moments = leaves_none _ history.trail history.trail refl;
    opened = tt;
    refused = tt;
    unchanged = λ other. leaves_none _ history.trail history.trail refl;
  });
}

pub returns-in_err-rows-clause-opening : goal.returns-in_err-rows-clause-opening
returns-in_err-rows-clause-opening g c =
    let is : c.from_residual.result ≡ Err faults.Memory = search rules in
    rw is (without_memory _ _)

pub returns-in_err-ledger-clause-opening : goal.returns-in_err-ledger-clause-opening
returns-in_err-ledger-clause-opening g c =
    let is : c.from_residual-in_err-ledger.result ≡ Err c.in_err-ledger.field-0.0 = search rules in
    rw is c.in_err-ledger.ensures.opening

pub returns-clause-opening : goal.returns-clause-opening
returns-clause-opening g c = c.in_ok-ledger.ensures.opening
