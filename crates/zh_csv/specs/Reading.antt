-- What is read of a text whose first record is the names of the columns, and each further one a row: rows of one kind, or why the text is
-- refused.
use Rattle.std.specs.Prelude.{◌≡◌, ◌≢◌, ◌⊎◌, ℕ, List, [], ◌∷◌, ◌++◌, length, map, true, false, Option, Some, Result, Ok, Err}
use Rattle.zh_csv.specs.Records.{Record, AreAll, AreFirst, names, may_be_row}
use Rattle.zh_csv.specs.declared.batch_reader.LoadFault.{LoadFault}
use Rattle.zh_csv.specs.declared.batch_reader.LoadFault.TheVariants as faults

-- A kind of row: the record of a row, which rows can be read, which can be held together, and why a row cannot follow others, apart from
-- refused memory.
pub record RowKind (X : Type 0) : Type 1 where
  pub fields : X → Record
  pub IsReadable : X → Type 0
  pub AreHeld : List X → Type 0
  pub fault_after : List X → X → Option LoadFault

module _ {X : Type 0} where
  -- why a record is not a row: it does not have four fields or is too long (`Csv`), or no readable row has these fields (`Syntax`)
  abbrev pub IsUnread : (X → Record) → (X → Type 0) → Record → LoadFault → Type 0
  IsUnread fields IsReadable last faults.Csv = may_be_row last ≡ false
  IsUnread fields IsReadable last faults.Syntax = (may_be_row last ≡ true) × ((row : X) → IsReadable row → last ≢ fields row)
  IsUnread fields IsReadable last fault = ⊥

  -- it is the record of a row that cannot follow these
  abbrev pub IsUnheld : RowKind X → List X → Record → LoadFault → Type 0
  IsUnheld kind rows last fault =
      (row : X) × kind.IsReadable row × (last ≡ kind.fields row) × (kind.fault_after rows row ≡ Some fault)

  -- the first record of the text is the names; the next ones are these rows, and then comes this record, which is refused
  pub record StopsAt (kind : RowKind X) (text : List ℕ) (fault : LoadFault) : Type 0 where
    pub rows : List X
    pub last : Record
    pub records : AreFirst text (names ∷ (map kind.fields rows ++ last ∷ []))
    pub held : kind.AreHeld rows
    pub refused : IsUnread kind.fields kind.IsReadable last fault ⊎ IsUnheld kind rows last fault

-- a text without a record, or whose first record is not the names of the columns
abbrev pub HasNoNames : List ℕ → Type 0
HasNoNames text = AreAll text [] ⊎ ((first : Record) × AreFirst text (first ∷ []) × (first ≢ names))

-- Why a text is refused. Refused memory and a failing reader do not depend on the text.
abbrev pub Refuses : {X : Type 0} → RowKind X → List ℕ → LoadFault → Type 0
Refuses kind text fault =
    fault ≢ faults.Memory → fault ≢ faults.Read → ((fault ≡ faults.Csv) × HasNoNames text) ⊎ StopsAt kind text fault

-- the result does not come from refused memory or from a reader that failed
abbrev pub IsOfText : {A : Type 0} → Result A LoadFault → Type 0
IsOfText read = (read ≢ Err faults.Memory) × (read ≢ Err faults.Read)

-- What is read of a text that satisfies `IsText`: the number of its rows, which are held as `Holds` says, or why it is refused.
abbrev pub ReadsRows : {X : Type 0} → RowKind X → (List ℕ → Type 0) → (List X → Type 0) → Result ℕ LoadFault → Type 0
ReadsRows kind IsText Holds (Ok count) =
    (rows : List _) × Holds rows × (count ≡ length rows) × ((text : List ℕ) → IsText text → AreAll text (names ∷ map kind.fields rows))
ReadsRows kind IsText Holds (Err fault) = (text : List ℕ) → IsText text → Refuses kind text fault
