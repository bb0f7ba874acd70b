use Rattle.std.proofs.Common.{◌≡◌, ◌+◌, arith, rules}
use Rattle.zh_count_tables.specs.Returned.{is_due, is_held}
use Rattle.zh_tables.specs.Progress.{one_if}
use Rattle.zh_tables.proofs.CallerLemmas.{count_step, one_few}
use Rattle.zh_count_tables.proofs.returned.returned_of.Goals as goal

pub loop-place-preserved : goal.loop-place-preserved
loop-place-preserved c =
    let n = c.loop-place.place in
    let held = is_held c.args.count.now c.args.region c.args.group in
    let due = is_due c.args.count.now.canton c.args.region c.args.group in
    let one_held : c.one_if-held.result ≡ one_if (held (n + 1)) = search rules in
    let one_due : c.one_if-due.result ≡ one_if (due (n + 1)) = search rules in
    record {
      so_far_held = count_step held n c.loop-place.held c.one_if-held.result c.loop-place.invariant.so_far_held one_held;
      so_far_due = count_step due n c.loop-place.due c.one_if-due.result c.loop-place.invariant.so_far_due one_due;
      few_held = omega (arith, c.loop-place.invariant.few_held, one_held, one_few (held (n + 1)));
      few_due = omega (arith, c.loop-place.invariant.few_due, one_due, one_few (due (n + 1)));
    }
