use Rattle.std.proofs.Common.{refl, sym}
use Rattle.zh_setups.proofs.document.read_document.Goals as goal

pub returns-then-misses_key : goal.returns-then-misses_key
returns-then-misses_key c = rw (sym c.if-misses_key.ensures) refl

pub returns-then-has_other_key : goal.returns-then-has_other_key
returns-then-has_other_key c = rw (sym c.if-misses_key.ensures, sym c.if-has_other_key.ensures) refl

pub returns : goal.returns
returns c = rw (sym c.if-misses_key.ensures, sym c.if-has_other_key.ensures) c.read_undoubled.ensures
