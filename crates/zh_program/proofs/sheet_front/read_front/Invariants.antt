use Rattle.std.proofs.Common.{◌≡◌, ◌≤◌, false, length}
use Rattle.std.specs.Io.KnownBytes.{Consumes}
use Rattle.zh_csv.specs.Noted.{has_failed, inner_reader}
use Rattle.zh_program.proofs.sheet_front.read_front.Given as goal

-- The text is what was read so far, and no read failed.
abbrev pub invariant-loop : goal.invariant-loop
invariant-loop g l = record {
  read : Consumes (g.R.Read.remaining (inner_reader l.fn.file)) (g.R.Read.remaining (inner_reader l.file)) l.text.items;
  few : length l.text.items ≤ 280065;
  unfailed : has_failed l.file ≡ false;
}
