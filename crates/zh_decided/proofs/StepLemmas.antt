-- Sums, term by term.
use Rattle.zh_divisors.proofs.CallerLemmas.{sum_to-suc}

pub ruleset sum_steps = (sum_to-suc)
