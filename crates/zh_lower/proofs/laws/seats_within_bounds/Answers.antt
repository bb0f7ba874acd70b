use Rattle.zh_lower.proofs.BoundLemmas.{weak-within, within-weak}
use Rattle.zh_lower.proofs.laws.seats_within_bounds.Goals as goal

pub returns : goal.returns
returns c = λ q of_rows of_columns seats proper limits.
    (weak-within q of_rows of_columns seats proper, within-weak q of_rows of_columns seats proper limits)
