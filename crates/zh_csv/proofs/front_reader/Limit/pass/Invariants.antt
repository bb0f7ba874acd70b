use Rattle.std.proofs.Common.{◌≡◌, ◌<◌, List, ℕ, ◌++◌, take, drop}
use Rattle.zh_csv.specs.Front.{front, most_read}
use Rattle.zh_csv.proofs.front_reader.Limit.pass.Given as goal

abbrev pub invariant-loop-place : goal.invariant-loop-place
invariant-loop-place l = record {
  some : l.place ≡ 0 → 0 < l.fn.self.left → 0 < l.self.left;
  passed : (rest : List ℕ) → front most_read l.fn.self.point l.fn.self.left (l.bytes ++ rest) ≡ take l.place l.bytes ++ front most_read l.self.point l.self.left (drop l.place l.bytes ++ rest);
}
