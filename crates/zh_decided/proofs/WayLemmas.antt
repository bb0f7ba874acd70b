-- Tables of ways.
use Rattle.std.proofs.Common.{◌≡◌, ◌≢◌, ℕ, ◌+◌, ◌<◌, ◌≤◌, Bool, true, false, ◌↔◌, IsTrue, Option, Some, None, IsSome, is_none, is_some}
use Rattle.std.proofs.Common.{not, List, length, get_or, replicate, set, inl, inr, refl, sym, ap, ◌∙◌, arith}
use Rattle.std.proofs.lemmas.Bool.{cases_eq, cases_lt}
use Rattle.std.proofs.lemmas.List.{get_or-replicate, get_or-set_other, get_or-set_same, length-replicate}
use Rattle.std.proofs.Math.ListN.{get_or-eq_default}
use Rattle.std.proofs.Math.Nat.{le_of_eq}
use Rattle.zh_divisors.specs.Sums.{sum_to}
use Rattle.zh_divisors.proofs.CallerLemmas.{sum_to-zero}
use Rattle.zh_matrices.specs.Question.{Question, cell}
use Rattle.zh_decided.specs.Bounds.{CellBounds}
use Rattle.zh_decided.specs.Ways.{AreSources, AreWays, CanGive, GivesBelow, IsSource, IsWay, RowLacks, row_seats, source_at, way_at}
use Rattle.zh_decided.specs.declared.ways.Source.{Source}
use Rattle.zh_decided.specs.declared.ways.Source.TheVariants.{Giver, Spare}
use Rattle.zh_decided.specs.declared.ways.Way.{Way}
use Rattle.zh_matrices.proofs.CallerLemmas.{one_if, same_terms}
use Rattle.zh_decided.proofs.OneMoreLemmas.{sum_to-one_more, sum_to-ones}

-- the ranks of all ways are below this one
abbrev pub RanksAreBelow : Question → List (Option Way) → ℕ → Type 0
RanksAreBelow q ways rank = (d : ℕ) (way : Way) → d < q.rows → way_at ways d ≡ Some way → way.rank < rank

-- how many of the first n rows have a way
abbrev pub count : ℕ → List (Option Way) → ℕ
count n ways = sum_to n (λ d. one_if (is_some (way_at ways d)))

-- every way of one table is in the other
abbrev Extends : List (Option Way) → List (Option Way) → Type 0
Extends ways more = (d : ℕ) (way : Way) → way_at ways d ≡ Some way → way_at more d ≡ Some way

some_way : (o : Option Way) → IsSome o → (way : Way) × (o ≡ Some way)
some_way (Some way) some = (way, refl)
some_way None some = cc

IsSome-of : (o : Option Way) (way : Way) → o ≡ Some way → IsSome o
IsSome-of (Some other) way is = refl
IsSome-of None way is = cc

CanGive-more : (q : Question) (b : CellBounds) (seats : List ℕ) (ways more : List (Option Way)) (g d : ℕ) → Extends ways more →
    CanGive q b seats ways g d → CanGive q b seats more g d
CanGive-more q b seats ways more g d extends can =
    let (way, is) = some_way (way_at ways d) can.has_way in
    record { row = can.row; has_way = IsSome-of (way_at more d) way (extends d way is); seat = can.seat }

IsSource-more : (q : Question) (b : CellBounds) (seats : List ℕ) (ways more : List (Option Way)) (g : ℕ) (source : Source) → Extends ways more →
    IsSource q b seats ways g source → IsSource q b seats more g source
IsSource-more q b seats ways more g Spare extends lacks = lacks
IsSource-more q b seats ways more g (Giver d) extends can = CanGive-more q b seats ways more g d extends can

GivesBelow-more : (ways more : List (Option Way)) (rank : ℕ) (source : Source) → Extends ways more →
    GivesBelow ways rank source → GivesBelow more rank source
GivesBelow-more ways more rank Spare extends below = tt
GivesBelow-more ways more rank (Giver d) extends below =
    record { way = below.way; there = extends d below.way below.there; below = below.below }

IsWay-more : (q : Question) (b : CellBounds) (seats : List ℕ) (ways more : List (Option Way)) (d : ℕ) (way : Way) → Extends ways more →
    IsWay q b seats ways d way → IsWay q b seats more d way
IsWay-more q b seats ways more d way extends is = record {
  column = is.column;
  room = is.room;
  source = IsSource-more q b seats ways more way.column way.source extends is.source;
  below = GivesBelow-more ways more way.rank way.source extends is.below;
}

extends-set : (ways : List (Option Way)) (row : ℕ) (way : Way) → way_at ways row ≡ None → Extends ways (set ways row (Some way))
extends-set ways row way new d other is =
    let differ : d ≢ row = λ same. let here : way_at ways row ≡ Some other = rw same at is in cc in
    get_or-set_other ways row d (Some way) None differ ∙ is

pub AreWays-set : (q : Question) (b : CellBounds) (seats : List ℕ) (ways : List (Option Way)) (row : ℕ) (way : Way) → row < length ways → way_at ways row ≡ None →
    IsWay q b seats ways row way → AreWays q b seats ways → AreWays q b seats (set ways row (Some way))
AreWays-set q b seats ways row way within new is all d other dm there = elim (cases_eq d row) [
  | inl same ↦
      let here : way_at (set ways row (Some way)) row ≡ Some other = rw same at there in
      let at : way_at (set ways row (Some way)) row ≡ Some way = get_or-set_same ways row (Some way) None within in
      let equal : way ≡ other = cc in
      rw (same, ← equal) (IsWay-more q b seats ways (set ways row (Some way)) row way (extends-set ways row way new) is)
  | inr differ ↦
      IsWay-more q b seats ways (set ways row (Some way)) d other (extends-set ways row way new)
      (all d other dm (sym (get_or-set_other ways row d (Some way) None differ) ∙ there))
]

-- sources stay sources when a row gets a way
pub AreSources-set : (q : Question) (b : CellBounds) (seats : List ℕ) (ways : List (Option Way)) (sources : List (Option Source)) (row : ℕ)
    (way : Way) → way_at ways row ≡ None → AreSources q b seats ways sources → AreSources q b seats (set ways row (Some way)) sources
AreSources-set q b seats ways sources row way new all g source gn is =
    IsSource-more q b seats ways (set ways row (Some way)) g source (extends-set ways row way new) (all g source gn is)

pub RanksAreBelow-set : (q : Question) (ways : List (Option Way)) (row rank : ℕ) (way : Way) → row < length ways → way.rank ≡ rank →
    RanksAreBelow q ways rank → RanksAreBelow q (set ways row (Some way)) (rank + 1)
RanksAreBelow-set q ways row rank way within is all d other dm there = elim (cases_eq d row) [
  | inl same ↦
      let here : way_at (set ways row (Some way)) row ≡ Some other = rw same at there in
      let at : way_at (set ways row (Some way)) row ≡ Some way = get_or-set_same ways row (Some way) None within in
      let equal : way ≡ other = cc in
      rw (← equal) (omega arith)
  | inr differ ↦ omega (arith, all d other dm (sym (get_or-set_other ways row d (Some way) None differ) ∙ there))
]

pub count-set : (n : ℕ) (ways : List (Option Way)) (row : ℕ) (way : Way) → row < n → row < length ways → way_at ways row ≡ None →
    count n (set ways row (Some way)) ≡ count n ways + 1
count-set n ways row way dm within new =
    sum_to-one_more n (λ d. one_if (is_some (way_at ways d))) (λ d. one_if (is_some (way_at (set ways row (Some way)) d))) row dm
    (λ d lt differ. ap (λ o. one_if (is_some o)) (get_or-set_other ways row d (Some way) None differ))
    (ap (λ o. one_if (is_some o)) (get_or-set_same ways row (Some way) None within) ∙ sym (ap (λ o. one_if (is_some o) + 1) new))

pub count-none : (n : ℕ) (ways : List (Option Way)) → ((d : ℕ) → way_at ways d ≡ None) → count n ways ≡ 0
count-none n ways none = sum_to-zero n _ (λ d lt. ap (λ o. one_if (is_some o)) (none d))

one_if-le : (b : Bool) → one_if b ≤ 1
one_if-le true = omega arith
one_if-le false = omega arith

-- if as many rows have a way as there are rows, each row has one
pub each_has_way : (n : ℕ) (ways : List (Option Way)) → count n ways ≡ n → (d : ℕ) → d < n → ¬ (way_at ways d ≡ None)
each_has_way n ways all d dm none =
    let one : one_if (is_some (way_at ways d)) ≡ 1
    = same_terms n (λ e. one_if (is_some (way_at ways e))) (λ e. 1) (λ e lt. one_if-le (is_some (way_at ways e)))
    (le_of_eq (sum_to-ones n ∙ sym all)) d dm in
    let no : one_if (is_some (way_at ways d)) ≡ 0 = ap (λ o. one_if (is_some o)) none in
    absurd (omega arith)

-- no row with a way is short of a seat, if the row with the new way is not
pub none_lacks-set : (q : Question) (seats : List ℕ) (ways : List (Option Way)) (row : ℕ) (way : Way) → (RowLacks q seats row → ⊥) →
    ((d : ℕ) → d < q.rows → IsSome (way_at ways d) → get_or q.row_totals d 0 ≤ row_seats q seats d) →
    (d : ℕ) → d < q.rows → IsSome (way_at (set ways row (Some way)) d) → get_or q.row_totals d 0 ≤ row_seats q seats d
none_lacks-set q seats ways row way full all d dm some = elim (cases_eq d row) [
  | inl same ↦ rw same (elim (cases_lt (row_seats q seats row) (get_or q.row_totals row 0)) [ inl lacks ↦ absurd (full lacks) | inr le ↦ le ])
  | inr differ ↦ all d dm (rw (get_or-set_other ways row d (Some way) None differ) at some)
]

pub AreWays-none : (q : Question) (b : CellBounds) (seats : List ℕ) (ways : List (Option Way)) → ((d : ℕ) → way_at ways d ≡ None) → AreWays q b seats ways
AreWays-none q b seats ways none d way dm there = let nothing : way_at ways d ≡ None = none d in cc

pub RanksAreBelow-none : (q : Question) (ways : List (Option Way)) (rank : ℕ) → ((d : ℕ) → way_at ways d ≡ None) → RanksAreBelow q ways rank
RanksAreBelow-none q ways rank none d way dm there = let nothing : way_at ways d ≡ None = none d in cc

pub none_lacks-none : (q : Question) (seats : List ℕ) (ways : List (Option Way)) → ((d : ℕ) → way_at ways d ≡ None) →
    (d : ℕ) → d < q.rows → IsSome (way_at ways d) → get_or q.row_totals d 0 ≤ row_seats q seats d
none_lacks-none q seats ways none d dm some =
    let (way, is) = some_way (way_at ways d) some in
    let nothing : way_at ways d ≡ None = none d in
    cc

-- a test that failed
pub not-both : {P : Type 0} (b : Bool) → (IsTrue b ↔ P) → P → b ≡ false → ⊥
not-both b tells holds fails = let passes : IsTrue b = tells.1 holds in cc

-- if all ways have lower ranks, so does the way of a source
IsSource-below : (q : Question) (b : CellBounds) (seats : List ℕ) (ways : List (Option Way)) (g rank : ℕ) (source : Source) →
    RanksAreBelow q ways rank → IsSource q b seats ways g source → GivesBelow ways rank source
IsSource-below q b seats ways g rank Spare ranks lacks = tt
IsSource-below q b seats ways g rank (Giver d) ranks can =
    let (way, is) = some_way (way_at ways d) can.has_way in
    record { way = way; there = is; below = ranks d way can.row is }

pub IsWay-of : (q : Question) (b : CellBounds) (seats : List ℕ) (ways : List (Option Way)) (sources : List (Option Source)) (d : ℕ) (way : Way) →
    AreSources q b seats ways sources → RanksAreBelow q ways way.rank → way.column < q.columns →
    cell q.columns seats d way.column < cell q.columns b.most d way.column → source_at sources way.column ≡ Some way.source →
    IsWay q b seats ways d way
IsWay-of q b seats ways sources d way all ranks column room is = record {
  column = column;
  room = room;
  source = all way.column way.source column is;
  below = IsSource-below q b seats ways way.column way.rank way.source ranks (all way.column way.source column is);
}

-- a table without sources
pub AreSources-none : (q : Question) (b : CellBounds) (seats : List ℕ) (ways : List (Option Way)) (sources : List (Option Source)) →
    ((g : ℕ) → source_at sources g ≡ None) → AreSources q b seats ways sources
AreSources-none q b seats ways sources none g source gn is = let nothing : source_at sources g ≡ None = none g in cc

-- a new table has no entries
pub all_none : {A : Type 0} (n k : ℕ) → get_or (replicate {A = Option A} n None) k None ≡ None
all_none {A} n k = elim (cases_lt k n) [
  | inl inside ↦ get_or-replicate n k None None inside
  | inr outside ↦ get_or-eq_default (replicate n None) None (omega (arith, length-replicate {A = Option A} n None))
]

-- the test whether a row has a way
pub none-tested : (o : Option Way) (none : Bool) → is_some o ≡ not none → none ≡ is_none o
none-tested None true is = refl
none-tested None false is = cc
none-tested (Some way) true is = cc
none-tested (Some way) false is = refl
