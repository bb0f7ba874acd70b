use Rattle.std.proofs.Common.{◌≡◌, ◌*◌, ◌<◌, ℕ, None, take, get_or}
use Rattle.std.specs.Prelude.{IfSome}
use Rattle.std.specs.List.{flat_map}
use Rattle.zh_returns.specs.EntryBytes.{entry_spelling}
use Rattle.zh_returns.specs.Tables.{IsHeldAt, key_of}
use Rattle.zh_returns.proofs.payload.read_entries.Given as goal

abbrev pub invariant-loop-place : goal.invariant-loop-place
invariant-loop-place l = record {
  spelled : take (16 * l.place) l.bytes ≡ flat_map entry_spelling (take l.place l.table);
  held : (k : ℕ) → k < l.place → IfSome (get_or l.table k None) (IsHeldAt l.format l.setup (key_of k));
}
