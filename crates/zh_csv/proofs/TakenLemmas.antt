-- What a record leads to, after rows that are held.
use Rattle.std.proofs.Common.{◌≡◌, ◌≢◌, ◌<◌, ◌⊎◌, inr, List, [], ◌∷◌, ◌++◌, length, Some, Result, Ok, Err, arith}
use Rattle.std.specs.Prelude.{MatchResult}
use Rattle.std.proofs.lemmas.List.{length_push}
use Rattle.zh_districts.specs.Canton.{Canton, IsCanton}
use Rattle.zh_csv.specs.Reading.{IsUnheld, IsUnread}
use Rattle.zh_csv.specs.Records.{Record}
use Rattle.zh_csv.specs.declared.batch_reader.LoadFault.{LoadFault}
use Rattle.zh_csv.specs.declared.batch_reader.LoadFault.TheVariants as faults
use Rattle.zh_csv.specs.Held.{holding, row_fault}
use Rattle.zh_csv.specs.Rows.{AreHeld, IsHeldRow, held_fields}
use Rattle.zh_csv.specs.Running.{HasTaken}
use Rattle.zh_csv.specs.declared.held_sums.HeldRow.{HeldRow}
use Rattle.zh_csv.specs.declared.held_sums.RunningSums.{RunningSums}
use Rattle.zh_csv.proofs.FewRowsLemmas.{few_rows}

pub note_taken : (canton : Canton) (rows : List HeldRow) (row : HeldRow) (last : Record) (old new : RunningSums)
    → IsCanton canton → IsHeldRow row → last ≡ held_fields row → HasTaken canton rows old → (result : Result (Unit {0}) LoadFault)
    → MatchResult result (λ _. HasTaken canton (rows ++ row ∷ []) new) (λ fault. fault ≢ faults.Memory → row_fault canton rows row ≡ Some fault)
    → MatchResult result (λ _. (length rows < 16384) × ((other : HeldRow) × (last ≡ held_fields other) × HasTaken canton (rows ++ other ∷ []) new))
    (λ fault. AreHeld canton rows × (fault ≢ faults.Memory → IsUnread held_fields IsHeldRow last fault ⊎ IsUnheld (holding canton) rows last fault))
note_taken canton rows row last old new limits readable is has (Ok done) taken =
    (omega (arith, few_rows canton (rows ++ row ∷ []) limits taken.held, length_push rows row), (row, is, taken))
note_taken canton rows row last old new limits readable is has (Err fault) refused =
    (has.held, λ other. inr (row, readable, is, refused other))
