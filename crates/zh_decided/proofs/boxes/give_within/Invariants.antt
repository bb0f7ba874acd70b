use Rattle.std.proofs.Common.{◌≡◌, ℕ, ◌-◌, ◌*◌, ◌<◌, length}
use Rattle.zh_matrices.specs.Asked.{asked}
use Rattle.zh_decided.specs.Sweeps.{StandsFree}
use Rattle.zh_decided.specs.Taken.{logs, priced_in}
use Rattle.zh_decided.specs.declared.sweeps.Potentials.{Potentials}
use Rattle.zh_decided.specs.Boxes.{NoneInRange, StandsInBox}
use Rattle.zh_decided.proofs.boxes.give_within.Given as goal

abbrev pub invariant-loop-smaller : goal.invariant-loop-smaller
invariant-loop-smaller l = record {
  rows : length l.of_rows ≡ l.priced.question.now.rows;
  columns : length l.of_columns ≡ l.priced.question.now.columns;
  moves : (k : ℕ) → k < l.smaller → (p : Potentials) → ¬ StandsInBox (asked l.priced.question.now) (logs l.priced.logarithms.now) l.priced.seats.now (20 - 4 * k) p;
  none : 0 < l.smaller → (p : Potentials) →
      StandsFree (priced_in l.priced) 4102 6 p → NoneInRange (asked l.priced.question.now) l.priced.seats.now;
}
