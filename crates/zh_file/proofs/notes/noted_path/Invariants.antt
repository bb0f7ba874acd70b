use Rattle.std.proofs.Common.{◌≡◌, drop}
use Rattle.zh_film.specs.Past.{items}
use Rattle.zh_file.proofs.notes.noted_path.Given as goal

abbrev pub invariant-loop-k : goal.invariant-loop-k
invariant-loop-k l = items l.noted ≡ drop l.k l.path
