use Rattle.std.proofs.Common.{◌≡◌, ◌≤◌, List, ℕ, ◌∷◌, [], map, length}
use Rattle.zh_districts.specs.Canton.{Canton}
use Rattle.zh_csv.specs.Records.{names, HasRead}
use Rattle.zh_csv.proofs.row_reader.take_rows.Given as goal

abbrev pub invariant-loop-rows : goal.invariant-loop-rows
invariant-loop-rows g l = record {
  some : (canton : Canton) × (rows : List _) × g.T.Takes.holds canton l.taker rows × (length rows ≡ l.rows) × (length rows ≤ 16384);
  taken : (canton : Canton) → g.T.Takes.holds canton l.fn.taker []
      → (rows : List _) × g.T.Takes.holds canton l.taker rows × (length rows ≡ l.rows)
      × ((text : List ℕ) → HasRead g.R.Read.remaining text (names ∷ []) l.fn.reader
      → HasRead g.R.Read.remaining text (names ∷ map (g.T.Takes.kind canton).fields rows) l.reader);
}
