use Rattle.std.proofs.Common.{◌≡◌, ◌∙◌, Err, rules, refl}
use Rattle.zh_program.specs.Remarks.{BecameOf}
use Rattle.zh_program.specs.declared.fault.TaskFault.TheVariants as faults
use Rattle.zh_program.proofs.FormatLemmas.{memory_first, said_of}
use Rattle.zh_program.proofs.format.format_with.Goals as goal

pub returns-in_err-problems : goal.returns-in_err-problems
returns-in_err-problems g c =
    let is : c.from_residual.result ≡ Err faults.Memory = search rules in
    rw is (record { rest = refl; said = (refl, refl); call = memory_first c.args.setup.now; fault = tt })

pub returns-in_err-format_blank : goal.returns-in_err-format_blank
returns-in_err-format_blank g c =
    let is : c.from_residual-in_err-format_blank.result ≡ Err c.in_err-format_blank.field-0.0 = search rules in
    rw is (record { rest = refl; said = (refl, refl); call = c.in_err-format_blank.ensures.call; fault = c.in_err-format_blank.ensures.fault })

pub returns : goal.returns
returns g c = record {
  rest = refl;
  said = said_of c.args.setup.now c.in_ok-problems.problems c.count.result c.deref.result.now
      (BecameOf c.say_problems.new.remark (g.E.Write.contents c.args.world.now.faults) (g.E.Write.contents c.say_problems.new.faults))
      _ c.count.ensures (c.deref.ensures.0 ∙ c.problems_line-line.ensures) c.in_ok-problems.ensures.problems c.say_problems.ensures;
  call = c.in_ok-format_blank.ensures.call;
  fault = tt;
}
