use Rattle.zh_matrices.specs.Asked.{asked}
use Rattle.zh_lower.proofs.FilledLemmas.{AreWithin-started}
use Rattle.zh_lower.proofs.alternating_scaling.start_rows.Goals as goal

pub middle_rows-requires-clause-columns : goal.middle_rows-requires-clause-columns
middle_rows-requires-clause-columns c = rw c.deref.ensures.value (AreWithin-started (asked c.args.question.now) c.args.state.now.of_columns.items c.requires.unstarted.columns)
