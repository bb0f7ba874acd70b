use Rattle.std.proofs.Common.{◌≡◌, ◌*◌, take}
use Rattle.std.specs.List.{flat_map}
use Rattle.zh_returns.specs.EntryBytes.{entry_spelling}
use Rattle.zh_returns.proofs.payload.write_entries.Given as goal

abbrev pub invariant-loop-place : goal.invariant-loop-place
invariant-loop-place l = take (16 * l.place) l.out ≡ flat_map entry_spelling (take l.place l.table)
