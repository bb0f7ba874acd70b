use Rattle.std.proofs.Common.{◌∙◌, ◌+◌, ap, arith, subst, sym}
use Rattle.zh_tables.specs.Progress.{AreFew, both, is_within}
use Rattle.zh_tables.proofs.ProgressLemmas.{few_both, few_more, over_next, over_other}
use Rattle.zh_tables.proofs.progress.progress_within.Goals as goal
use Rattle.zh_tables.proofs.progress.progress_within.Goals.{then-is_within, else-is_within}

pub loop-place-preserved : goal.loop-place-preserved
loop-place-preserved c =
    let n = c.loop-place.place in
    let tally = c.args.count.now in
    let p = is_within tally.canton c.args.region in
    let old = c.loop-place.progress in
    elim c.if-is_within.branch [
      | then-is_within w ↦ record {
        progress = w.progress-is ∙ w.both-progress.ensures ∙ ap (both old) w.progress_of.ensures.progress ∙ over_next tally p n old c.loop-place.invariant.progress (sym c.is_within.ensures ∙ w.if-is_within.true);
        few = subst (AreFew (n + 1)) (sym (w.progress-is ∙ w.both-progress.ensures)) (few_both n old w.progress_of.result c.loop-place.invariant.few w.progress_of.ensures.few);
      }
      | else-is_within w ↦ record {
        progress = w.progress-is ∙ over_other tally p n old c.loop-place.invariant.progress (sym c.is_within.ensures ∙ w.if-is_within.false);
        few = subst (AreFew (n + 1)) (sym w.progress-is) (few_more n (n + 1) old c.loop-place.invariant.few (omega arith));
      }
    ]
