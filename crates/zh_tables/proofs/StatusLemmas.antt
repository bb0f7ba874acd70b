-- The text of a view, from the text of its table.
use Rattle.std.proofs.Common.{List, ℕ, ◌++◌, Result, IfOk, Option, refl}
use Rattle.std.proofs.lemmas.Result.{IfOk-weaker}
use Rattle.std.specs.Io.KnownBytes.{Appends}
use Rattle.zh_record_text.specs.Records.{record_text}
use Rattle.zh_returns.specs.Tally.{Tally}
use Rattle.zh_tables.specs.Status.{AreRowsOf, IsStatusText, columns}
use Rattle.zh_tables.specs.declared.view.View.{View}

pub status_text : {W E : Type 0} (contents : W → Option (List ℕ)) (writer : W) (tally : Tally) (view : View) (rows : List ℕ) (result : Result W E) → AreRowsOf tally view rows
    → IfOk result (λ after. Appends (contents writer) (contents after) (record_text (columns view) ++ rows))
    → IfOk result (λ after. (text : List ℕ) × IsStatusText tally view text × Appends (contents writer) (contents after) text)
status_text contents writer tally view rows result are written =
    IfOk-weaker result _ _ (λ after appends. (record_text (columns view) ++ rows, (rows, are, refl), appends)) written
