-- What the fields of a count mean.
use Rattle.std.specs.Prelude.{◌≡◌, length}
use Rattle.zh_returns.specs.Tally.{Tally}
use Rattle.zh_returns.specs.Limits.{IsTally}
use Rattle.zh_returns.specs.Tables.{tally_from}
use Rattle.zh_returns.specs.declared.count.Count.TheInside.{Inside}

abbrev pub tally_of : Inside → Tally
tally_of c = tally_from c.setup.now c.entries.items c.closed.items c.accepted

-- both tables have all places, and the count in them is within its limits
pub record IsInside (c : Inside) : Type 0 where
  pub places : length c.entries.items ≡ 16384
  pub flags : length c.closed.items ≡ 512
  pub tally : IsTally (tally_of c)
