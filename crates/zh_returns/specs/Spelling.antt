-- The bytes of a command. Numbers are big endian.
use Rattle.std.specs.Prelude.{ℕ, ◌<◌, ◌≤◌, ◌^◌, List, [], ◌∷◌, ◌++◌, length, All}
use Rattle.std.specs.Int.{w16, w32, to_be_bytes}
use Rattle.std.specs.List.{flat_map}
use Rattle.zh_returns.specs.declared.command.Command.{Command}
use Rattle.zh_returns.specs.declared.command.Command.TheVariants as commands
use Rattle.zh_returns.specs.declared.command.Format.{Format}
use Rattle.zh_returns.specs.declared.command.Format.TheVariants.{One, Two}
use Rattle.zh_returns.specs.Rows.{row_spelling, FitsRow, IsSpeakableRow, IsBatch}

-- how a command that has a desk begins: with its kind in format One; with a different kind and the desk, one byte each, in
-- format Two
abbrev pub head : Format → ℕ → ℕ → ℕ → List ℕ
head One one two desk = one ∷ []
head Two one two desk = two ∷ desk ∷ []

-- the kind of the command and its content: a municipality in two bytes, a list in one, a replacement number in four; for a
-- batch, the number of rows in two bytes and the rows in order
abbrev pub command_spelling : Format → Command → List ℕ
command_spelling format (commands.Return desk row) = head format 1 6 desk ++ row_spelling row
command_spelling format (commands.Withdraw desk municipality list number) =
    head format 2 7 desk ++ (to_be_bytes w16 municipality ++ (list ∷ to_be_bytes w32 number))
command_spelling format (commands.Close municipality) = 3 ∷ to_be_bytes w16 municipality
command_spelling format (commands.Reopen municipality) = 4 ∷ to_be_bytes w16 municipality
command_spelling format (commands.Batch desk rows) = head format 5 8 desk ++ (to_be_bytes w16 (length rows) ++ flat_map row_spelling rows)

-- the greatest desk number in a format: 0 in format One, which has no desks
abbrev pub last_desk : Format → ℕ
last_desk One = 0
last_desk Two = 8

-- the numbers of a withdrawal fit into their bytes, and the replacement number is at least 1
abbrev pub IsWithdrawal : ℕ → ℕ → ℕ → Type 0
IsWithdrawal municipality list number = (municipality < 2 ^ 16) × (list < 2 ^ 8) × (1 ≤ number) × (number < 2 ^ 32)

-- the desk, the municipalities and the lists of a command fit into its bytes in format Two
abbrev pub FitsCommand : Command → Type 0
FitsCommand (commands.Return desk row) = (desk ≤ last_desk Two) × FitsRow row
FitsCommand (commands.Withdraw desk municipality list number) = (desk ≤ last_desk Two) × (municipality < 2 ^ 16) × (list < 2 ^ 8)
FitsCommand (commands.Close municipality) = municipality < 2 ^ 16
FitsCommand (commands.Reopen municipality) = municipality < 2 ^ 16
FitsCommand (commands.Batch desk rows) = (desk ≤ last_desk Two) × All FitsRow rows

-- a desk that the format can name, numbers that fit into their bytes, replacement numbers from 1 on, and rows that are a batch
abbrev pub IsSpeakable : Format → Command → Type 0
IsSpeakable format (commands.Return desk row) = (desk ≤ last_desk format) × IsSpeakableRow row
IsSpeakable format (commands.Withdraw desk municipality list number) = (desk ≤ last_desk format) × IsWithdrawal municipality list number
IsSpeakable format (commands.Close municipality) = municipality < 2 ^ 16
IsSpeakable format (commands.Reopen municipality) = municipality < 2 ^ 16
IsSpeakable format (commands.Batch desk rows) = (desk ≤ last_desk format) × IsBatch rows

-- a desk that format Two can name, replacement numbers from 1 on that fit into four bytes, and rows that are a batch
abbrev pub HasNumbers : Command → Type 0
HasNumbers (commands.Return desk row) = (desk ≤ last_desk Two) × (1 ≤ row.number) × (row.number < 2 ^ 32)
HasNumbers (commands.Withdraw desk municipality list number) = (desk ≤ last_desk Two) × (1 ≤ number) × (number < 2 ^ 32)
HasNumbers (commands.Close municipality) = Unit {0}
HasNumbers (commands.Reopen municipality) = Unit {0}
HasNumbers (commands.Batch desk rows) = (desk ≤ last_desk Two) × IsBatch rows
