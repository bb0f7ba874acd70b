-- The rows that a text loads are a kind of row. A text determines what it loads, unless memory is refused or the reader fails.
use Rattle.std.proofs.Common.{◌≡◌, ◌≤◌, ◌<◌, ℕ, nat_le, true, false, List, [], ◌∷◌, ◌++◌, map, length, None, Result, Ok, Err, refl, arith, All, length-append, decimal}
use Rattle.std.proofs.lemmas.Bool.Decides.{nat_tests}
use Rattle.std.proofs.lemmas.List.Elements.{All-push}
use Rattle.zh_districts.specs.Canton.{Canton}
use Rattle.zh_returns.specs.declared.row.Row.{Row}
use Rattle.zh_returns.specs.Rows.{IsSpeakableRow, row_key, has_key}
use Rattle.zh_returns.specs.RowFaults.{unfit, fault_in}
use Rattle.zh_returns.proofs.CallerLemmas.{batch_more, taken_by}
use Rattle.zh_csv.specs.Front.{front_of}
use Rattle.zh_csv.specs.Records.{names, may_be_row}
use Rattle.zh_csv.specs.Reading.{IsOfText, StopsAt}
use Rattle.zh_csv.specs.Load.{fields, fault_after, loading, AreLoaded, IsReadable, Loads}
use Rattle.zh_csv.specs.declared.batch_reader.LoadFault.{LoadFault}
use Rattle.zh_csv.proofs.FieldLemmas.{numeral_short, one_numeral}
use Rattle.zh_csv.proofs.ReadingLemmas.{IsKind, four_short, refused_by_front, rows_of_front}
use Rattle.zh_csv.proofs.OneReadingLemmas.{among_all, long, one_reading, own_key}

-- a record determines its row
same_row : (row other : Row) → IsReadable row → IsReadable other → fields row ≡ fields other → row ≡ other
same_row row other r o same =
    let m = one_numeral (fields row) (fields other) 0 row.municipality other.municipality r.municipality o.municipality refl refl same in
    let l = one_numeral (fields row) (fields other) 1 row.list other.list r.list o.list refl refl same in
    let n = one_numeral (fields row) (fields other) 2 row.number other.number r.number.1 o.number.1 refl refl same in
    let v = one_numeral (fields row) (fields other) 3 row.votes other.votes r.votes o.votes refl refl same in
    λ i. record { municipality = m i; list = l i; number = n i; votes = v i }

readable : (row : Row) → IsSpeakableRow row → IsReadable row
readable row is = record { municipality = omega (arith, is.municipality); list = omega (arith, is.list); number = is.number; votes = is.votes }

all_readable : (canton : Canton) (rows : List Row) → AreLoaded canton rows → All IsReadable rows
all_readable canton rows are i row within = readable _ (are.are_rows.speakable i row within)

-- the record of a row can be that of a row
pub may_be : (row : Row) → IsReadable row → may_be_row (fields row) ≡ true
may_be row is =
    four_short (decimal row.municipality) (decimal row.list) (decimal row.number) (decimal row.votes)
    (numeral_short row.municipality is.municipality) (numeral_short row.list is.list) (numeral_short row.number is.number.1) (numeral_short row.votes is.votes)

-- a row among rows that are loaded is not refused after those before it
module _ (canton : Canton) (rows : List Row) (row : Row) (others : List Row) (are : AreLoaded canton (rows ++ row ∷ others)) where
  room : nat_le 1000 (length rows) ≡ false
  room = let few : length rows < 1000 = omega (arith, are.are_rows.most, length-append rows (row ∷ others)) in grind (arith, nat_tests)

  is_fit : unfit canton row ≡ None
  is_fit = among_all (λ (r : Row). unfit canton r ≡ None) rows row others are.fit

  pub readable_there : IsReadable row
  readable_there = among_all IsReadable rows row others (all_readable canton _ are)

  pub no_fault : fault_after canton rows row ≡ None
  no_fault = let own : has_key rows (row_key row) ≡ false = own_key row_key rows row others are.are_rows.keys in rw is_fit (rw (own, room) refl)

-- these rows are a kind
pub is_loading : (canton : Canton) → IsKind (loading canton)
is_loading canton = record {
  may = may_be;
  once = same_row;
  readable = all_readable canton;
  follows = no_fault canton;
}

-- what the front of a text loads is what the text loads
pub loads_of_front : (canton : Canton) (text : List ℕ) (loaded : Result (List Row) LoadFault) → Loads canton (front_of text) loaded → Loads canton text loaded
loads_of_front canton text (Ok rows) (all, are) = (rows_of_front (loading canton) (is_loading canton) text rows are all, are)
loads_of_front canton text (Err fault) refused = refused_by_front (loading canton) (is_loading canton) text fault refused

pub one_loading : (canton : Canton) (text : List ℕ) (loaded other : Result (List Row) LoadFault)
    → Loads canton text loaded → Loads canton text other → IsOfText loaded → IsOfText other → loaded ≡ other
one_loading canton text =
    one_reading (loading canton) (is_loading canton) text (Loads canton text) (λ rows loads. (rows, loads.0, loads.1))
    (λ rows more x y same. same) (λ fault refused. refused)

-- a text is refused for a record after at most 1,000 rows
pub few_records : (canton : Canton) (text : List ℕ) (fault : LoadFault) (stops : StopsAt (loading canton) text fault) → length (names ∷ (map fields stops.rows ++ stops.last ∷ [])) ≤ 1002
few_records canton text fault stops = omega (arith, long fields stops.rows stops.last, stops.held.are_rows.most)

-- one more row
pub loaded_more : (canton : Canton) (rows : List Row) (row : Row) → AreLoaded canton rows
    → unfit canton row ≡ None → fault_in rows row ≡ None → IsSpeakableRow row → AreLoaded canton (rows ++ row ∷ [])
loaded_more canton rows row are fit none speakable =
    let (own, room) = taken_by rows row none in
    record {
      are_rows = batch_more rows row are.are_rows (grind (arith, nat_tests)) own speakable;
      fit = All-push (λ (r : Row). unfit canton r ≡ None) rows row are.fit fit;
    }
