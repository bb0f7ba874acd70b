use Rattle.std.proofs.Common.{rules}
use Rattle.zh_lower.proofs.apportionment.first_without_votes.Goals as goal

pub returns-then-not-row_has_votes-clause-first : goal.returns-then-not-row_has_votes-clause-first
returns-then-not-row_has_votes-clause-first c = search rules
