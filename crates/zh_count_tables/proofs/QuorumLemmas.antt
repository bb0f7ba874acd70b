-- The quorum of a list, as a Boolean function.
use Rattle.std.proofs.Common.{arith}
use Rattle.zh_totals.specs.Totals.{VoteTotals}
use Rattle.zh_count_tables.specs.Quorums.{TellQuorums, reaches_quorum}

pub told : (totals : VoteTotals) → TellQuorums totals (reaches_quorum totals)
told totals d g from_one there group_from_one group_there = grind arith
