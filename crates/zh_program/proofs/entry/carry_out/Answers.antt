use Rattle.std.proofs.Common.{rules, ◌≡◌}
use Rattle.zh_arguments.specs.declared.arguments.Task.TheVariants.{Show}
use Rattle.zh_program.proofs.entry.carry_out.Goals as goal

pub returns-in-Show : goal.returns-in-Show
returns-in-Show g c =
    let is : c.args.task ≡ Show c.in-Show.paths c.in-Show.query = search rules in
    rw is c.on_disk-in-Show.ensures
