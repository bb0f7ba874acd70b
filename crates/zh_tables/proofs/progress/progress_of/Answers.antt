use Rattle.std.proofs.Common.{◌≡◌, ◌+◌, arith, is_some, rules}
use Rattle.zh_districts.specs.Canton.{constituency_of, stands}
use Rattle.zh_returns.specs.Tally.{held}
use Rattle.zh_tables.specs.Progress.{one_if, entry_votes, is_missing}
use Rattle.zh_tables.proofs.ProgressLemmas.{count_step, one_few, sum_step, votes_few}
use Rattle.zh_tables.proofs.progress.progress_of.Goals as goal

pub loop-place-preserved : goal.loop-place-preserved
loop-place-preserved c =
    let n = c.loop-place.place in
    let tally = c.args.count.now in
    let m = c.args.municipality in
    let there : c.one_if-held.result ≡ one_if (is_some (held tally m (n + 1))) = search rules in
    let due : c.one_if-due.result ≡ one_if (stands tally.canton (constituency_of tally.canton m) (n + 1)) = search rules in
    let missing : c.one_if-missing.result ≡ one_if (is_missing tally m (n + 1)) = search rules in
    let votes : c.entry_votes-votes.result ≡ entry_votes (held tally m (n + 1)) = search rules in
    record {
      so_far_held = count_step (λ list. is_some (held tally m list)) n c.loop-place.held c.one_if-held.result c.loop-place.invariant.so_far_held there;
      so_far_due = count_step (stands tally.canton (constituency_of tally.canton m)) n c.loop-place.due c.one_if-due.result c.loop-place.invariant.so_far_due due;
      so_far_missing = count_step (is_missing tally m) n c.loop-place.missing c.one_if-missing.result c.loop-place.invariant.so_far_missing missing;
      so_far_votes = sum_step (λ list. entry_votes (held tally m list)) n c.loop-place.votes c.entry_votes-votes.result c.loop-place.invariant.so_far_votes votes;
      few_held = omega (arith, c.loop-place.invariant.few_held, there, one_few (is_some (held tally m (n + 1))));
      few_due = omega (arith, c.loop-place.invariant.few_due, due, one_few (stands tally.canton (constituency_of tally.canton m) (n + 1)));
      few_missing = omega (arith, c.loop-place.invariant.few_missing, missing, one_few (is_missing tally m (n + 1)));
      few_votes = omega (arith, c.loop-place.invariant.few_votes, c.entry_votes-votes.ensures, votes_few c.entry-entry.result c.entry-entry.ensures.limits);
    }
