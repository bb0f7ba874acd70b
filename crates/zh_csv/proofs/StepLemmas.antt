-- What a byte of a text leads to, in the state of our scanner and in that of the machine of `csv`.
use Rattle.std.proofs.Common.{◌≡◌, ◌≢◌, ◌≤◌, ◌<◌, ◌+◌, ◌*◌, ◌==◌, ℕ, suc, List, [], ◌∷◌, ◌++◌, length}
use Rattle.std.proofs.Common.{length-append, Option, Some, Bool, true, false, refl, arith}
use Rattle.std.proofs.lemmas.Bool.Decides.{nat_tests}
use Rattle.csv.specs.Machine.{Read, ends_at_end, field_after, fields_after, is_end, next_record, start_field, step}
use Rattle.csv.specs.Machine as machine
use Rattle.csv.specs.Reading.{default_config}
use Rattle.csv.specs.declared.parser.Action.{Action}
use Rattle.csv.specs.declared.parser.Action.TheVariants as actions
use Rattle.csv.specs.declared.parser.State.{State}
use Rattle.csv.specs.declared.parser.State.TheVariants as states
use Rattle.zh_csv.specs.Front.{point_after, at_field, front, in_field, left_at}
use Rattle.zh_csv.specs.Records.{Record, record_size}
use Rattle.zh_csv.specs.declared.front_reader.Point.{Point}
use Rattle.zh_csv.specs.declared.front_reader.Point.TheVariants as points

-- what the machine does with a byte: its next state, its action, and the fields and the part of a field that it then has
abbrev pub state_after : State → ℕ → State
state_after state byte = (step default_config state byte).0

abbrev pub action_at : State → ℕ → Action
action_at state byte = (step default_config state byte).1

abbrev pub record_after : State → ℕ → Record → List ℕ → Record
record_after state byte fields field = fields_after (action_at state byte) fields field

abbrev pub part_after : State → ℕ → List ℕ → List ℕ
part_after state byte field = field_after (action_at state byte) byte field

-- the next record that the machine reads
abbrev pub read_next : State → Record → List ℕ → List ℕ → Option Read
read_next state fields field text = next_record default_config state fields field text

-- what is read of a text from between two records on
abbrev pub front_between : ℕ → List ℕ → List ℕ
front_between most text = front most points.Between most text

-- the machine is in this state when our scanner is in that one
abbrev pub Stands : Point → State → Type 0
Stands points.Between states.StartRecord = Unit {0}
Stands points.Between states.AfterCr = Unit {0}
Stands points.Field states.StartField = Unit {0}
Stands points.Plain states.InField = Unit {0}
Stands points.Quoted states.InQuoted = Unit {0}
Stands points.Closed states.AfterQuote = Unit {0}
Stands point state = ⊥

-- the most quotation marks of the current field that were read and are not part of it, apart from those written twice
abbrev pub marks : Point → ℕ
marks points.Plain = 2
marks points.Quoted = 1
marks points.Closed = 2
marks point = 0

-- no more bytes of the current record were read than these fields and this part of a field can take
abbrev pub Counts : ℕ → ℕ → Point → Record → List ℕ → Type 0
Counts most left point fields field = most ≤ left + 3 * record_size fields + 2 * length field + marks point

-- what holds after a byte that leads from one state to the other
pub record Steps (most left : ℕ) (from to : Point) (state : State) (action : Action) (fields : Record) (field : List ℕ) : Type 0 where
  pub stands : Stands to state
  pub between : is_end action ≡ true → to ≡ points.Between
  pub fresh : is_end action ≡ false → to ≡ points.Between → (from ≡ points.Between) × (fields ≡ []) × (field ≡ [])
  pub counts : is_end action ≡ false → Counts most (left_at most to left) to fields field

pub size_push : (fields : Record) (field : List ℕ) → record_size (fields ++ field ∷ []) ≡ record_size fields + length field + 1
size_push [] field = omega arith
size_push (first ∷ fields) field = omega (arith, size_push fields field)

module _ (most left byte : ℕ) (from : Point) (fields : Record) (field : List ℕ) where
  abbrev pub StepsTo : Point → State × Action → Type 0
  StepsTo to next = Steps most left from to next.0 next.1 (fields_after next.1 fields field) (field_after next.1 byte field)

  field_steps : (k : ℕ) → k ≤ 2 → most ≤ suc left + 3 * record_size fields + 2 * length field + k
      → StepsTo (in_field byte) (machine.in_field default_config byte)
  field_steps k few counts = by (byte == 44) (byte == 13) (byte == 10) refl refl refl
    where
      by : (comma cr lf : Bool) → (byte == 44) ≡ comma → (byte == 13) ≡ cr → (byte == 10) ≡ lf
          → StepsTo (in_field byte) (machine.in_field default_config byte)
      by true cr lf e f g = rw e (record {
        stands = tt;
        between = λ w. cc w;
        fresh = λ _ w. cc w;
        counts = λ _. omega (arith, size_push fields field, counts);
      })
      by false true lf e f g = rw (e, f) (record { stands = tt; between = λ _. refl; fresh = λ w _. cc w; counts = λ w. cc w })
      by false false true e f g = rw (e, f, g) (record { stands = tt; between = λ _. refl; fresh = λ w _. cc w; counts = λ w. cc w })
      by false false false e f g = rw (e, f, g) (record {
        stands = tt;
        between = λ w. cc w;
        fresh = λ _ w. cc w;
        counts = λ _. omega (arith, length-append field (byte ∷ []), counts);
      })

  start_steps : most ≤ suc left + 3 * record_size fields + 2 * length field → StepsTo (at_field byte) (start_field default_config byte)
  start_steps counts = by (byte == 34) refl
    where
      by : (quote : Bool) → (byte == 34) ≡ quote → StepsTo (at_field byte) (start_field default_config byte)
      by true e = rw e (record { stands = tt; between = λ w. cc w; fresh = λ _ w. cc w; counts = λ _. omega (arith, counts) })
      by false e = rw e (field_steps 0 (omega arith) (omega (arith, counts)))

  closed_steps : most ≤ suc left + 3 * record_size fields + 2 * length field + 2 → StepsTo (at_field byte) (step default_config states.AfterQuote byte)
  closed_steps counts = by (byte == 34) refl
    where
      by : (quote : Bool) → (byte == 34) ≡ quote → StepsTo (at_field byte) (step default_config states.AfterQuote byte)
      by true e = rw e (record {
        stands = tt;
        between = λ w. cc w;
        fresh = λ _ w. cc w;
        counts = λ _. omega (arith, length-append field (byte ∷ []), counts);
      })
      by false e = rw e (field_steps 2 (omega arith) counts)

  quoted_steps : most ≤ suc left + 3 * record_size fields + 2 * length field + 1 → StepsTo (point_after points.Quoted byte) (step default_config states.InQuoted byte)
  quoted_steps counts = by (byte == 34) refl
    where
      by : (quote : Bool) → (byte == 34) ≡ quote → StepsTo (point_after points.Quoted byte) (step default_config states.InQuoted byte)
      by true e = rw e (record { stands = tt; between = λ w. cc w; fresh = λ _ w. cc w; counts = λ _. omega (arith, counts) })
      by false e = rw e (record {
        stands = tt;
        between = λ w. cc w;
        fresh = λ _ w. cc w;
        counts = λ _. omega (arith, length-append field (byte ∷ []), counts);
      })

  -- before a record
  record_steps : from ≡ points.Between → fields ≡ [] → field ≡ [] → most ≤ suc left + 3 * record_size fields + 2 * length field
      → (state : State) → Stands points.Between state → StepsTo (at_field byte) (step default_config state byte)
  record_steps at none empty counts states.StartRecord stands = by (byte == 13) (byte == 10) refl refl
    where
      by : (cr lf : Bool) → (byte == 13) ≡ cr → (byte == 10) ≡ lf → StepsTo (at_field byte) (step default_config states.StartRecord byte)
      by true lf f g =
          let is : byte ≡ 13 = grind (arith, nat_tests) in
          rw is (record { stands = tt; between = λ w. cc w; fresh = λ _ _. (at, none, empty); counts = λ _. omega arith })
      by false true f g =
          let is : byte ≡ 10 = grind (arith, nat_tests) in
          rw is (record { stands = tt; between = λ w. cc w; fresh = λ _ _. (at, none, empty); counts = λ _. omega arith })
      by false false f g = rw (f, g) (rw (f, g) at (start_steps counts))
  record_steps at none empty counts states.AfterCr stands = by (byte == 13) (byte == 10) refl refl
    where
      by : (cr lf : Bool) → (byte == 13) ≡ cr → (byte == 10) ≡ lf → StepsTo (at_field byte) (step default_config states.AfterCr byte)
      by true lf f g =
          let is : byte ≡ 13 = grind (arith, nat_tests) in
          rw is (record { stands = tt; between = λ w. cc w; fresh = λ _ _. (at, none, empty); counts = λ _. omega arith })
      by false true f g =
          let is : byte ≡ 10 = grind (arith, nat_tests) in
          rw is (record { stands = tt; between = λ w. cc w; fresh = λ _ _. (at, none, empty); counts = λ _. omega arith })
      by false false f g = rw (f, g) (rw (f, g) at (start_steps counts))
  record_steps at none empty counts state stands = absurd stands

-- what a byte leads to, in any state
pub steps : (most left byte : ℕ) (point : Point) (state : State) (fields : Record) (field : List ℕ) → Stands point state
    → (point ≡ points.Between → (fields ≡ []) × (field ≡ [])) → Counts most (suc left) point fields field
    → StepsTo most left byte point fields field (point_after point byte) (step default_config state byte)
steps most left byte points.Between state fields field stands fresh counts =
    record_steps most left byte points.Between fields field refl (fresh refl).0 (fresh refl).1 (omega (arith, counts)) state stands
steps most left byte points.Field states.StartField fields field stands fresh counts = start_steps most left byte points.Field fields field (omega (arith, counts))
steps most left byte points.Plain states.InField fields field stands fresh counts = field_steps most left byte points.Plain fields field 2 (omega arith) counts
steps most left byte points.Quoted states.InQuoted fields field stands fresh counts = quoted_steps most left byte points.Quoted fields field counts
steps most left byte points.Closed states.AfterQuote fields field stands fresh counts = closed_steps most left byte points.Closed fields field counts
steps most left byte point state fields field stands fresh counts = absurd stands

-- inside a record, the end of the text ends the record
pub inside_ends : (point : Point) (state : State) → Stands point state → point ≢ points.Between → ends_at_end state ≡ true
inside_ends points.Between state stands inside = absurd (inside refl)
inside_ends points.Field states.StartField stands inside = refl
inside_ends points.Plain states.InField stands inside = refl
inside_ends points.Quoted states.InQuoted stands inside = refl
inside_ends points.Closed states.AfterQuote stands inside = refl
inside_ends point state stands inside = absurd stands

-- the number of bytes of a record does not decrease
size_grows : (action : Action) (byte : ℕ) (fields : Record) (field : List ℕ) → is_end action ≡ false
    → record_size fields + length field ≤ record_size (fields_after action fields field) + length (field_after action byte field)
size_grows actions.Skip byte fields field goes = omega arith
size_grows actions.Copy byte fields field goes = omega (arith, length-append field (byte ∷ []))
size_grows actions.EndField byte fields field goes = omega (arith, size_push fields field)
size_grows actions.EndRecord byte fields field ends = cc ends

size_ends : (action : Action) (fields : Record) (field : List ℕ) → is_end action ≡ true
    → record_size fields + length field < record_size (fields_after action fields field)
size_ends actions.Skip fields field goes = cc goes
size_ends actions.Copy fields field goes = cc goes
size_ends actions.EndField fields field goes = cc goes
size_ends actions.EndRecord fields field ends = omega (arith, size_push fields field)

-- there is a next record, with more than these bytes
pub record IsRecordOf (fields : Record) (field : List ℕ) (next : Option Read) : Type 0 where
  pub read : Read
  pub is : next ≡ Some read
  pub more : record_size fields + length field < record_size read.0

pub goes_on : (text : List ℕ) (point : Point) (state : State) (fields : Record) (field : List ℕ)
    → Stands point state → point ≢ points.Between → IsRecordOf fields field (read_next state fields field text)
unfolding next_record
goes_on [] point state fields field stands inside = record {
  read = (fields ++ field ∷ [], states.StartRecord, []);
  is = rw (inside_ends point state stands inside) refl;
  more = omega (arith, size_push fields field);
}
goes_on (byte ∷ text) point state fields field stands inside =
    by (is_end (action_at state byte)) refl
    (goes_on text (point_after point byte) (state_after state byte) (record_after state byte fields field) (part_after state byte field))
  where
    next : StepsTo 0 0 byte point fields field (point_after point byte) (step default_config state byte)
    next = steps 0 0 byte point state fields field stands (λ at. absurd (inside at)) (omega arith)

    by : (ends : Bool) → is_end (action_at state byte) ≡ ends
        → (Stands (point_after point byte) (state_after state byte) → point_after point byte ≢ points.Between
        → IsRecordOf (record_after state byte fields field) (part_after state byte field)
        (read_next (state_after state byte) (record_after state byte fields field) (part_after state byte field) text))
        → IsRecordOf fields field (read_next state fields field (byte ∷ text))
    by true e later =
        rw e (record {
          read = (record_after state byte fields field, (state_after state byte), text);
          is = refl;
          more = size_ends (action_at state byte) fields field e;
        })
    by false e later =
        let rest = later next.stands (λ at. inside (next.fresh e at).0) in
        let grows = size_grows (action_at state byte) byte fields field e in
        rw e (record { read = rest.read; is = rest.is; more = omega (arith, grows, rest.more) })
