use Rattle.std.proofs.Common.{◌≡◌}
use Rattle.zh_setups.specs.Document.{stands_of}
use Rattle.zh_setups.proofs.document.stands_among.Given as goal

abbrev pub invariant-loop-before : goal.invariant-loop-before
invariant-loop-before l = l.stands.items ≡ stands_of l.before l.numbers
