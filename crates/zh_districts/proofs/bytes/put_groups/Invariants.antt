use Rattle.std.proofs.Common.{◌≡◌, ◌++◌, ◌∷◌, length, map, take}
use Rattle.std.specs.List.{flat_map}
use Rattle.zh_districts.specs.Parts.{group}
use Rattle.zh_districts.specs.Spelling.{group_spelling}
use Rattle.zh_districts.proofs.bytes.put_groups.Given as goal

abbrev pub invariant-loop-part : goal.invariant-loop-part
invariant-loop-part l = l.out.items ≡ l.fn.out.items ++ (length l.parts ∷ flat_map group_spelling (map group (take l.part-index l.parts)))
