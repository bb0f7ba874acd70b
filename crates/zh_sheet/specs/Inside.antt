-- What the fields of a sheet mean.
use Rattle.std.specs.Prelude.{◌≡◌}
use Rattle.zh_sheet.specs.Distribution.{Distribution, IsDistribution, seated_groups}
use Rattle.zh_sheet.specs.declared.sheet.Sheet.TheInside.{Inside}

abbrev pub distribution_in : Inside → Distribution
distribution_in s = record {
  totals = s.totals;
  seats = s.seats;
  taking = s.taking.items;
  voters = s.voters.items;
  upper = s.upper;
  lower = s.lower;
}

-- the parts are a distribution, and `seated` contains the seated groups
pub record IsSheetInside (s : Inside) : Type 0 where
  pub distribution : IsDistribution (distribution_in s)
  pub seated : s.seated.items ≡ seated_groups s.upper.seats
