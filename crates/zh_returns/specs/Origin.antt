-- Where an entry came from, and its three bytes.
use Rattle.std.specs.Prelude.{◌≤◌, ℕ, List, [], ◌∷◌}
use Rattle.zh_returns.specs.Spelling.{last_desk}
use Rattle.zh_returns.specs.declared.command.Command.{Command}
use Rattle.zh_returns.specs.declared.command.Command.TheVariants as commands
use Rattle.zh_returns.specs.declared.command.Format.{Format}
use Rattle.zh_returns.specs.declared.entry.Origin.{Origin}

-- desk 0: no desk, or a desk that is not known
abbrev pub no_desk : Origin
no_desk = record { desk = 0 }

-- the origin of the entries that a command puts into the count; a closing and a reopening put none
abbrev pub origin_of : Command → Origin
origin_of (commands.Return desk row) = record { desk = desk }
origin_of (commands.Withdraw desk municipality list number) = record { desk = desk }
origin_of (commands.Close municipality) = no_desk
origin_of (commands.Reopen municipality) = no_desk
origin_of (commands.Batch desk rows) = record { desk = desk }

-- an origin that the format can name
pub record IsOriginOf (format : Format) (origin : Origin) : Type 0 where
  pub desk : origin.desk ≤ last_desk format

-- the desk and two zero bytes
abbrev pub origin_spelling : Origin → List ℕ
origin_spelling origin = origin.desk ∷ 0 ∷ 0 ∷ []
