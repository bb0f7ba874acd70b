-- Tables of sources.
use Rattle.std.proofs.Common.{◌≡◌, ℕ, ◌+◌, ◌<◌, Bool, false, not, Option, Some, None, IfNone, IfSome, is_some, List, length, set, inl, inr, sym, ◌∙◌, arith}
use Rattle.std.proofs.lemmas.Bool.{cases_eq, false≢true}
use Rattle.std.proofs.lemmas.List.{get_or-set_other, get_or-set_same}
use Rattle.zh_matrices.specs.Question.{Question}
use Rattle.zh_decided.specs.Bounds.{CellBounds}
use Rattle.zh_decided.specs.Ways.{AreSources, HasNoSource, IsSource, source_at}
use Rattle.zh_decided.specs.declared.ways.Source.{Source}
use Rattle.zh_decided.specs.declared.ways.Way.{Way}

if-some : (P : Source → Type 0) (o : Option Source) (source : Source) → o ≡ Some source → IfSome o P → P source
if-some P o source is here = let there : IfSome (Some source) P = rw is at here in there

if-none : (P : Type 0) (o : Option Source) → o ≡ None → IfNone o P → P
if-none P None is here = here
if-none P (Some source) is here = absurd (cc)

not-none : (o : Option Source) (is_none : Bool) → is_some o ≡ not is_none → is_none ≡ false → ¬ (o ≡ None)
not-none (Some source) is_none tells fails none = cc
not-none None is_none tells fails none =
    let both : false ≡ not false = rw fails at tells in false≢true both

-- the sources after one was written
pub sources-written : (q : Question) (b : CellBounds) (seats : List ℕ) (ways : List (Option Way)) (sources : List (Option Source)) (column : ℕ)
    (o : Option Source) → column < length sources → IfSome o (IsSource q b seats ways column) → AreSources q b seats ways sources →
    AreSources q b seats ways (set sources column o)
sources-written q b seats ways sources column o within here all g source gn is = elim (cases_eq g column) [
  | inl same ↦
      let there : source_at (set sources column o) column ≡ Some source = rw same at is in
      rw same (if-some (IsSource q b seats ways column) o source (sym (get_or-set_same sources column o None within) ∙ there) here)
  | inr other ↦ all g source gn (sym (get_or-set_other sources column g o None other) ∙ is)
]

-- the columns without a source after one was written
pub none-written : (q : Question) (b : CellBounds) (seats : List ℕ) (ways : List (Option Way)) (sources : List (Option Source)) (column : ℕ)
    (o : Option Source) → column < length sources → IfNone o (HasNoSource q b seats ways column) →
    ((g : ℕ) → g < column → source_at sources g ≡ None → HasNoSource q b seats ways g) →
    (g : ℕ) → g < column + 1 → source_at (set sources column o) g ≡ None → HasNoSource q b seats ways g
none-written q b seats ways sources column o within here before g lt is = elim (cases_eq g column) [
  | inl same ↦
      let there : source_at (set sources column o) column ≡ None = rw same at is in
      rw same (if-none (HasNoSource q b seats ways column) o (sym (get_or-set_same sources column o None within) ∙ there) here)
  | inr other ↦ before g (omega arith) (sym (get_or-set_other sources column g o None other) ∙ is)
]

-- the same if the column has a source already
pub none-kept : (q : Question) (b : CellBounds) (seats : List ℕ) (ways : List (Option Way)) (sources : List (Option Source)) (column : ℕ)
    (is_none : Bool) → is_some (source_at sources column) ≡ not is_none → is_none ≡ false →
    ((g : ℕ) → g < column → source_at sources g ≡ None → HasNoSource q b seats ways g) →
    (g : ℕ) → g < column + 1 → source_at sources g ≡ None → HasNoSource q b seats ways g
none-kept q b seats ways sources column is_none tells fails before g lt is = elim (cases_eq g column) [
  | inl same ↦ absurd (not-none (source_at sources column) is_none tells fails (rw same at is))
  | inr other ↦ before g (omega arith) is
]
