-- How each request is written after the desk of its line.
use Rattle.std.specs.Prelude.{ℕ, List, [], ◌∷◌, codes, Option, Some, None}
use Rattle.zh_returns.specs.declared.row.Row.{Row}
use Rattle.zh_commands.specs.declared.lines.Request.{Request}
use Rattle.zh_commands.specs.declared.lines.Request.TheVariants.{Command, Commit, Batch, Query}
use Rattle.zh_commands.specs.declared.lines.DeskCommand.TheVariants as commands
use Rattle.zh_commands.specs.declared.lines.BatchStep.TheVariants as steps
use Rattle.zh_commands.specs.declared.lines.DeskQuery.TheVariants as queries

-- a word, the numbers after it, and which of these is a replacement number, if one is
pub record Form : Type 0 where
  pub word : List ℕ
  pub numbers : List ℕ
  pub replacement : Option ℕ

-- the numbers of a row, in their order
abbrev pub row_numbers : Row → List ℕ
row_numbers row = row.municipality ∷ row.list ∷ row.number ∷ row.votes ∷ []

-- the form of each request
abbrev pub form_of : Request → Form
form_of (Command (commands.Return row)) = record { word = codes "return"; numbers = row_numbers row; replacement = Some row.number }
form_of (Command (commands.Withdraw municipality list number)) =
    record { word = codes "withdraw"; numbers = municipality ∷ list ∷ number ∷ []; replacement = Some number }
form_of (Command (commands.Close municipality)) = record { word = codes "close"; numbers = municipality ∷ []; replacement = None }
form_of (Command (commands.Reopen municipality)) = record { word = codes "reopen"; numbers = municipality ∷ []; replacement = None }
form_of Commit = record { word = codes "commit"; numbers = []; replacement = None }
form_of (Batch steps.Open) = record { word = codes "open"; numbers = []; replacement = None }
form_of (Batch (steps.Row row)) = record { word = codes "row"; numbers = row_numbers row; replacement = Some row.number }
form_of (Batch steps.Drop) = record { word = codes "drop"; numbers = []; replacement = None }
form_of (Query (queries.Show municipality list)) = record { word = codes "show"; numbers = municipality ∷ list ∷ []; replacement = None }
form_of (Query (queries.Last municipality list)) = record { word = codes "last"; numbers = municipality ∷ list ∷ []; replacement = None }
form_of (Query queries.Sheet) = record { word = codes "sheet"; numbers = []; replacement = None }
form_of (Query queries.Final) = record { word = codes "final"; numbers = []; replacement = None }
