-- A text can be read in only one way, unless memory is refused or the reader fails.
use Rattle.std.proofs.Common.{◌≡◌, ◌≤◌, ◌<◌, ◌+◌, ◌⊎◌, inl, inr, ℕ, suc, true, false, List, [], ◌∷◌, ◌++◌, map, length}
use Rattle.std.proofs.Common.{get_or, Some, None, Result, Ok, Err, refl, sym, ap, ◌∙◌, subst, arith, All, length-append}
use Rattle.std.specs.List.{list_any, IsDistinct}
use Rattle.std.specs.Ordering.{eq_by_cmp}
use Rattle.std.proofs.Math.Seq.{get_or-append_seam, take-append_seam}
use Rattle.std.proofs.lemmas.Bool.{cases_order}
use Rattle.std.proofs.lemmas.List.{append-nil, length-map, map-append}
use Rattle.zh_returns.specs.Keys.{key_cmp}
use Rattle.zh_returns.proofs.CallerLemmas.{fresh_from_distinct}
use Rattle.zh_csv.specs.Records.{Record, AreAll, AreFirst, names, may_be_row}
use Rattle.zh_csv.specs.Reading.{RowKind, HasNoNames, IsOfText, IsUnheld, IsUnread, Refuses, StopsAt}
use Rattle.zh_csv.specs.declared.batch_reader.LoadFault.{LoadFault}
use Rattle.zh_csv.specs.declared.batch_reader.LoadFault.TheVariants as faults
use Rattle.zh_csv.proofs.RecordsLemmas.{first_more, all_first, all_once, none_after}
use Rattle.zh_csv.proofs.ReadingLemmas.{IsKind}

-- what holds for all elements of a list holds for each
pub among_all : {X : Type 0} (P : X → Type 0) (rows : List X) (row : X) (others : List X) → All P (rows ++ row ∷ others) → P row
among_all P rows row others all =
    let there = all (length rows) row (omega (arith, length-append rows (row ∷ others))) in
    subst P (get_or-append_seam rows row others row) there

-- if no two elements have the same key, no element before this one has its key
pub own_key : {X : Type 0} (key_of : X → ℕ × ℕ) (rows : List X) (row : X) (others : List X)
    → IsDistinct (eq_by_cmp key_cmp) (map key_of (rows ++ row ∷ others))
    → list_any (eq_by_cmp key_cmp (key_of row)) (map key_of rows) ≡ false
own_key key_of rows row others keys =
    let before = map key_of rows in
    let after = key_of row ∷ map key_of others in
    let distinct : IsDistinct (eq_by_cmp key_cmp) (before ++ after) =
    subst (IsDistinct (eq_by_cmp key_cmp)) (map-append key_of rows (row ∷ others)) keys in
    let fresh = fresh_from_distinct (before ++ after) (length before) (0, 0) distinct (omega (arith, length-append before after)) in
    let its_key : ℕ × ℕ = get_or (before ++ after) (length before) (0, 0) in
    subst (λ (key : ℕ × ℕ). list_any (eq_by_cmp key_cmp key) before ≡ false) (get_or-append_seam before (key_of row) (map key_of others) (0, 0))
    (subst (λ (keys : List (ℕ × ℕ)). list_any (eq_by_cmp key_cmp its_key) keys ≡ false) (take-append_seam before after) fresh)

-- the number of records up to the one that is refused
pub long : {X : Type 0} (fields : X → Record) (rows : List X) (last : Record) → length (names ∷ (map fields rows ++ last ∷ [])) ≡ length rows + 2
long fields rows last = omega (arith, length-append (map fields rows) (last ∷ []), length-map rows fields)

-- a text that begins with the names has them
named : (text : List ℕ) (more : List Record) → AreFirst text (names ∷ more) → HasNoNames text → ⊥
named text more first (inl all) =
    let wrong : length (names ∷ more) ≤ 0 = none_after text [] (names ∷ more) all first in
    omega arith
named text more first (inr (other, its, differs)) =
    let (rest, is) = first_more text (other ∷ []) (names ∷ more) its first (omega arith) in
    differs (cc is)

module _ {X : Type 0} (kind : RowKind X) (is_kind : IsKind kind) where
  abbrev AllReadable : List X → Type 0
  AllReadable rows = All kind.IsReadable rows

  -- the records of some rows, and one more record
  abbrev up_to : List X → Record → List Record
  up_to rows last = map kind.fields rows ++ last ∷ []

  -- the last record is refused
  abbrev IsRefused : List X → Record → LoadFault → Type 0
  IsRefused rows last fault = IsUnread kind.fields kind.IsReadable last fault ⊎ IsUnheld kind rows last fault

  -- the rows after the first are readable
  later_readable : (row : X) (rows : List X) → AllReadable (row ∷ rows) → AllReadable rows
  later_readable row rows all = λ i x within. all (suc i) x (omega arith)

  -- rows with the same record are equal
  same_first : (row other : X) (rows others : List X) → AllReadable (row ∷ rows) → AllReadable (other ∷ others)
      → kind.fields other ≡ kind.fields row → other ≡ row
  same_first row other rows others small large same =
      is_kind.once other row (large 0 other (omega arith)) (small 0 row (omega arith)) same

  -- if some rows and a record begin the records of more rows, the record is that of the next row
  next_row : (rows more : List X) (last : Record) (tail rest : List Record) → AllReadable rows → AllReadable more
      → length rows < length more → map kind.fields more ++ tail ≡ up_to rows last ++ rest
      → (row : X) × (others : List X) × (more ≡ rows ++ row ∷ others) × (last ≡ kind.fields row)
  next_row [] [] last tail rest small large less same = absurd (omega arith)
  next_row [] (row ∷ more) last tail rest small large less same = (row, more, refl, cc same)
  next_row (r ∷ rows) [] last tail rest small large less same = absurd (omega arith)
  next_row (r ∷ rows) (m ∷ more) last tail rest small large less same =
      let others : map kind.fields more ++ tail ≡ up_to rows last ++ rest = cc same in
      let is : m ≡ r = same_first r m rows more small large (cc same) in
      let small' = later_readable r rows small in
      let large' = later_readable m more large in
      let (row, after, splits, found) = next_row rows more last tail rest small' large' (omega arith) others in
      (row, after, λ i. is i ∷ splits i, found)

  -- the same with the same number of rows
  same_rows : (rows more : List X) (last next : Record) (rest : List Record) → AllReadable rows → AllReadable more
      → length rows ≡ length more → up_to more next ≡ up_to rows last ++ rest → (more ≡ rows) × (next ≡ last)
  same_rows [] [] last next rest small large alike same = (refl, cc same)
  same_rows [] (m ∷ more) last next rest small large alike same = absurd (omega arith)
  same_rows (r ∷ rows) [] last next rest small large alike same = absurd (omega arith)
  same_rows (r ∷ rows) (m ∷ more) last next rest small large alike same =
      let others : up_to more next ≡ up_to rows last ++ rest = cc same in
      let is : m ≡ r = same_first r m rows more small large (cc same) in
      let small' = later_readable r rows small in
      let large' = later_readable m more large in
      let (splits, found) = same_rows rows more last next rest small' large' (omega arith) others in
      (λ i. is i ∷ splits i, found)

  all_same : (rows more : List X) → AllReadable rows → AllReadable more → map kind.fields more ≡ map kind.fields rows → more ≡ rows
  all_same [] [] small large same = refl
  all_same [] (m ∷ more) small large same = let wrong : kind.fields m ∷ map kind.fields more ≡ [] = same in cc wrong
  all_same (r ∷ rows) [] small large same = let wrong : [] ≡ kind.fields r ∷ map kind.fields rows = same in cc wrong
  all_same (r ∷ rows) (m ∷ more) small large same =
      let others : map kind.fields more ≡ map kind.fields rows = cc same in
      let is : m ≡ r = same_first r m rows more small large (cc same) in
      let splits = all_same rows more (later_readable r rows small) (later_readable m more large) others in
      λ i. is i ∷ splits i

  -- a row among rows that are held is readable
  readable_among : (rows : List X) (row : X) (others : List X) → kind.AreHeld (rows ++ row ∷ others) → kind.IsReadable row
  readable_among rows row others held = among_all kind.IsReadable rows row others (is_kind.readable (rows ++ row ∷ others) held)

  -- no record of such a row is refused
  unstopped : (rows : List X) (row : X) (others : List X) (fault : LoadFault) → kind.AreHeld (rows ++ row ∷ others)
      → IsRefused rows (kind.fields row) fault → ⊥
  unstopped rows row others fault held (inl unread) = by fault unread
    where
      may : may_be_row (kind.fields row) ≡ true
      may = is_kind.may row (readable_among rows row others held)

      by : (f : LoadFault) → IsUnread kind.fields kind.IsReadable (kind.fields row) f → ⊥
      by faults.Csv other = let wrong : true ≡ false = sym may ∙ other in cc wrong
      by faults.Syntax (_, none) = none row (readable_among rows row others held) refl
      by f wrong = wrong
  unstopped rows row others fault held (inr (other, readable, is, refused)) =
      let same : row ≡ other = is_kind.once row other (readable_among rows row others held) readable is in
      let wrong : None ≡ Some fault = sym (is_kind.follows rows row others held) ∙ ap (λ (r : X). kind.fault_after rows r) same ∙ refused in
      cc wrong

  -- a record is refused for only one reason
  unread_once : (last : Record) (f g : LoadFault) → IsUnread kind.fields kind.IsReadable last f → IsUnread kind.fields kind.IsReadable last g → f ≡ g
  unread_once last faults.Csv faults.Csv x y = refl
  unread_once last faults.Csv faults.Syntax x y = let wrong : false ≡ true = sym x ∙ y.0 in cc wrong
  unread_once last faults.Syntax faults.Csv x y = let wrong : false ≡ true = sym y ∙ x.0 in cc wrong
  unread_once last faults.Syntax faults.Syntax x y = refl
  unread_once last faults.Csv g x y = absurd y
  unread_once last faults.Syntax g x y = absurd y
  unread_once last f g x y = absurd x

  unread_or_held : (rows : List X) (last : Record) (f g : LoadFault) → IsUnread kind.fields kind.IsReadable last f → IsUnheld kind rows last g → ⊥
  unread_or_held rows last faults.Csv g x (row, readable, is, refused) = let wrong : false ≡ true = sym x ∙ ap may_be_row is ∙ is_kind.may row readable in cc wrong
  unread_or_held rows last faults.Syntax g x (row, readable, is, refused) = x.1 row readable is
  unread_or_held rows last f g x y = absurd x

  refused_once : (rows : List X) (last : Record) (f g : LoadFault) → IsRefused rows last f → IsRefused rows last g → f ≡ g
  refused_once rows last f g (inl x) (inl y) = unread_once last f g x y
  refused_once rows last f g (inl x) (inr y) = absurd (unread_or_held rows last f g x y)
  refused_once rows last f g (inr x) (inl y) = absurd (unread_or_held rows last g f y x)
  refused_once rows last f g (inr (row, readable, is, refused)) (inr (other, readable', is', refused')) =
      let same : row ≡ other = is_kind.once row other readable readable' (sym is ∙ is') in
      let both : Some f ≡ Some g = sym refused ∙ ap (λ (r : X). kind.fault_after rows r) same ∙ refused' in
      cc both

  -- a text that is refused at the record of one of these rows does not contain these rows
  stops_within : (text : List ℕ) (fault : LoadFault) (stops : StopsAt kind text fault) (rows : List X) (tail : List Record)
      → kind.AreHeld rows → AreFirst text (names ∷ (map kind.fields rows ++ tail)) → length stops.rows < length rows → ⊥
  stops_within text fault stops rows tail held first less =
      let few : List Record = names ∷ up_to stops.rows stops.last in
      let many : List Record = names ∷ (map kind.fields rows ++ tail) in
      let (rest, more) = first_more text few many stops.records first
      (omega (arith, long kind.fields stops.rows stops.last, length-append (map kind.fields rows) tail, length-map rows kind.fields)) in
      let same : map kind.fields rows ++ tail ≡ up_to stops.rows stops.last ++ rest = cc more in
      let small = is_kind.readable stops.rows stops.held in
      let (row, others, splits, is) = next_row stops.rows rows stops.last tail rest small (is_kind.readable rows held) less same in
      let refused = subst (λ (l : Record). IsRefused stops.rows l fault) is stops.refused in
      unstopped stops.rows row others fault (subst kind.AreHeld splits held) refused

  -- a text that gives its rows is not refused at any record
  read_or_stopped : (text : List ℕ) (rows : List X) (fault : LoadFault) → AreAll text (names ∷ map kind.fields rows) → kind.AreHeld rows
      → StopsAt kind text fault → ⊥
  read_or_stopped text rows fault all held stops =
      let first : AreFirst text (names ∷ (map kind.fields rows ++ [])) =
      subst (λ (l : List Record). AreFirst text (names ∷ l)) (sym (append-nil (map kind.fields rows))) (all_first text _ all) in
      let most = none_after text (names ∷ map kind.fields rows) _ all stops.records in
      stops_within text fault stops rows [] held first
      (omega (arith, most, long kind.fields stops.rows stops.last, length-map rows kind.fields))

  -- a text is refused at only one record
  stopped_even : (text : List ℕ) (f g : LoadFault) (x : StopsAt kind text f) (y : StopsAt kind text g) → length x.rows ≡ length y.rows → f ≡ g
  stopped_even text f g x y even =
      let (rest, more) = first_more text (names ∷ up_to x.rows x.last) (names ∷ up_to y.rows y.last) x.records y.records
      (omega (arith, long kind.fields x.rows x.last, long kind.fields y.rows y.last)) in
      let same : up_to y.rows y.last ≡ up_to x.rows x.last ++ rest = cc more in
      let small = is_kind.readable x.rows x.held in
      let (rows, last) = same_rows x.rows y.rows x.last y.last rest small (is_kind.readable y.rows y.held) even same in
      let of_last : IsRefused y.rows x.last g = subst (λ (l : Record). IsRefused y.rows l g) last y.refused in
      refused_once x.rows x.last f g x.refused (subst (λ (r : List X). IsRefused r x.last g) rows of_last)

  stopped_once : (text : List ℕ) (f g : LoadFault) → StopsAt kind text f → StopsAt kind text g → f ≡ g
  stopped_once text f g x y =
      elim (cases_order (length x.rows) (length y.rows)) [
        | inl even ↦ stopped_even text f g x y even
        | inr (inl less) ↦ absurd (stops_within text f x y.rows (y.last ∷ []) y.held y.records less)
        | inr (inr less) ↦ absurd (stops_within text g y x.rows (x.last ∷ []) x.held x.records less)
      ]

  read_once : (text : List ℕ) (rows more : List X) → AreAll text (names ∷ map kind.fields rows) → kind.AreHeld rows
      → AreAll text (names ∷ map kind.fields more) → kind.AreHeld more → rows ≡ more
  read_once text rows more all held all' held' =
      let is : names ∷ map kind.fields rows ≡ names ∷ map kind.fields more = all_once text _ _ all all' in
      let same : map kind.fields rows ≡ map kind.fields more = cc is in
      all_same more rows (is_kind.readable more held') (is_kind.readable rows held) same

  -- why a text is refused: the names are missing, or a record is refused
  abbrev IsWhy : List ℕ → LoadFault → Type 0
  IsWhy text fault = ((fault ≡ faults.Csv) × HasNoNames text) ⊎ StopsAt kind text fault

  alike : (text : List ℕ) (f g : LoadFault) → IsWhy text f → IsWhy text g → f ≡ g
  alike text f g (inl x) (inl y) = x.0 ∙ sym y.0
  alike text f g (inl x) (inr y) = absurd (named text _ y.records x.1)
  alike text f g (inr x) (inl y) = absurd (named text _ x.records y.1)
  alike text f g (inr x) (inr y) = stopped_once text f g x y

-- the result is determined by the rows of the text, or by the reason why it is refused
module _ {X A : Type 0} (kind : RowKind X) (is_kind : IsKind kind) (text : List ℕ) (Reads : Result A LoadFault → Type 0)
    (rows_of : (given : A) → Reads (Ok given) → (rows : List X) × AreAll text (names ∷ map kind.fields rows) × kind.AreHeld rows)
    (by_rows : (given other : A) (x : Reads (Ok given)) (y : Reads (Ok other)) → (rows_of given x).0 ≡ (rows_of other y).0 → given ≡ other)
    (why : (fault : LoadFault) → Reads (Err fault) → Refuses kind text fault) where
  reasons : (fault : LoadFault) → Reads (Err fault) → IsOfText {A = A} (Err fault) → ((fault ≡ faults.Csv) × HasNoNames text) ⊎ StopsAt kind text fault
  reasons fault refused of_text = why fault refused (λ e. of_text.0 (ap (λ (f : LoadFault). Err f) e)) (λ e. of_text.1 (ap (λ (f : LoadFault). Err f) e))

  read_or_refused : (given : A) (fault : LoadFault) → Reads (Ok given) → Reads (Err fault) → IsOfText {A = A} (Err fault) → ⊥
  read_or_refused given fault read refused of_text =
      let p = rows_of given read in
      elim (reasons fault refused of_text) [
        | inl (csv, none) ↦ named text (map kind.fields p.0) (all_first text _ p.1) none
        | inr stops ↦ read_or_stopped kind is_kind text p.0 fault p.1 p.2 stops
      ]

  pub one_reading : (read other : Result A LoadFault) → Reads read → Reads other → IsOfText read → IsOfText other → read ≡ other
  one_reading (Ok given) (Ok more) x y of_text of_text' =
      let p = rows_of given x in
      let q = rows_of more y in
      ap (λ (a : A). Ok a) (by_rows given more x y (read_once kind is_kind text p.0 q.0 p.1 p.2 q.1 q.2))
  one_reading (Ok given) (Err fault) x y of_text of_text' = absurd (read_or_refused given fault x y of_text')
  one_reading (Err fault) (Ok given) x y of_text of_text' = absurd (read_or_refused given fault y x of_text)
  one_reading (Err f) (Err g) x y of_text of_text' = ap (λ (e : LoadFault). Err e) (alike kind is_kind text f g (reasons f x of_text) (reasons g y of_text'))
