use Rattle.zh_decided.proofs.WayLemmas.{all_none}
use Rattle.zh_decided.proofs.completion.add_seat.Goals as goal

pub reach-requires-clause-none : goal.reach-requires-clause-none
reach-requires-clause-none c = all_none 32

pub returns-in-None-clause-blocked : goal.returns-in-None-clause-blocked
returns-in-None-clause-blocked c = record {
  some_left = c.requires.some_left;
  each_placed = c.requires.placed;
  ways = c.reach.new.ways;
  stuck = c.in-None.ensures.stuck;
  without = c.rows_without_way.ensures;
}
