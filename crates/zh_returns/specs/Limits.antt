-- The limits of a count.
use Rattle.std.specs.Prelude.{◌≡◌, ℕ, ◌≤◌, ◌<◌, ◌^◌, true, IfSome}
use Rattle.std.specs.FinSet as set
use Rattle.zh_districts.specs.Canton.{IsCanton, has_municipality, stands, constituency_of}
use Rattle.zh_returns.specs.declared.command.Format.{Format}
use Rattle.zh_returns.specs.declared.command.Format.TheVariants.{Two}
use Rattle.zh_returns.specs.declared.entry.Entry.{Entry}
use Rattle.zh_returns.specs.Origin.{IsOriginOf}
use Rattle.zh_returns.specs.Tally.{Tally, held}

-- the greatest number of votes of a return
abbrev pub most_votes : ℕ
most_votes = 1000000000

-- an origin that the format can name, a replacement number from 1 on, and no more votes than a return may have
pub record IsEntryOf (format : Format) (entry : Entry) : Type 0 where
  pub origin : IsOriginOf format entry.origin
  pub number : (1 ≤ entry.number) × (entry.number < 2 ^ 32)
  pub votes : IfSome entry.votes (λ votes. votes ≤ most_votes)

-- the same for format Two, in which entries are written
abbrev pub IsEntry : Entry → Type 0
IsEntry = IsEntryOf Two

-- a count whose entries have origins that the format can name
abbrev pub IsSaidIn : Format → Tally → Type 0
IsSaidIn format tally = (municipality list : ℕ) → IfSome (held tally municipality list) (λ entry. IsOriginOf format entry.origin)

-- the set-up and the entries are within their limits; the lists of the entries stand in their municipalities, which are in the
-- set-up, and so are the closed municipalities; fewer than 2 ^ 64 commands were accepted
pub record IsTally (tally : Tally) : Type 0 where
  pub canton : IsCanton tally.canton
  pub entries : (municipality list : ℕ) → IfSome (held tally municipality list) (IsEntryOf Two)
  pub lists : (municipality list : ℕ) → IfSome (held tally municipality list)
      (λ _. stands tally.canton (constituency_of tally.canton municipality) list ≡ true)
  pub municipalities : (municipality list : ℕ) → IfSome (held tally municipality list)
      (λ _. has_municipality tally.canton municipality ≡ true)
  pub closed : (municipality : ℕ) → set.contains tally.closed municipality ≡ true → has_municipality tally.canton municipality ≡ true
  pub accepted : tally.accepted < 2 ^ 64
