use Rattle.std.proofs.Common.{◌≡◌, ◌++◌, length, map, take}
use Rattle.std.specs.List.{flat_map}
use Rattle.std.specs.Int.{w16, to_be_bytes}
use Rattle.zh_districts.specs.Parts.{municipality}
use Rattle.zh_districts.specs.Spelling.{municipality_spelling}
use Rattle.zh_districts.proofs.bytes.put_municipalities.Given as goal

abbrev pub invariant-loop-part : goal.invariant-loop-part
invariant-loop-part l =
    l.out.items ≡ l.fn.out.items ++ (to_be_bytes w16 (length l.parts) ++ flat_map municipality_spelling (map municipality (take l.part-index l.parts)))
