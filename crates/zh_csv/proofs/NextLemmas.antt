-- The next record of the front of a text is that of the text, or part of one that is too long.
use Rattle.std.proofs.Common.{◌≡◌, ◌≢◌, ◌≤◌, ◌<◌, ◌+◌, ◌*◌, ◌⊎◌, inl, inr, ℕ, zero, suc, List, [], ◌∷◌, ◌++◌}
use Rattle.std.proofs.Common.{Option, Some, None, Bool, true, false, refl, ap, subst, arith}
use Rattle.csv.specs.Machine.{Read, ends_at_end, is_end, next_record, step}
use Rattle.csv.specs.Reading.{default_config}
use Rattle.csv.specs.declared.parser.State.{State}
use Rattle.csv.specs.declared.parser.State.TheVariants as states
use Rattle.zh_csv.specs.Front.{point_after, front, left_at}
use Rattle.zh_csv.specs.Records.{Record, record_size}
use Rattle.zh_csv.specs.declared.front_reader.Point.{Point}
use Rattle.zh_csv.specs.declared.front_reader.Point.TheVariants as points
use Rattle.zh_csv.proofs.StepLemmas.{state_after, action_at, record_after, part_after, read_next, front_between, Stands, marks, Counts, size_push, steps}
use Rattle.zh_csv.proofs.StepLemmas.{inside_ends, goes_on, StepsTo}

-- the next record of the front is that of the text, and the text continues after it
pub record IsWhole (most : ℕ) (part whole : Option Read) : Type 0 where
  pub fields : Record
  pub state : State
  pub rest : List ℕ
  pub part_is : part ≡ Some (fields, state, front_between most rest)
  pub whole_is : whole ≡ Some (fields, state, rest)
  pub stands : Stands points.Between state

-- the next record of the front is part of the text's, both are too long, and nothing more is read
pub record IsCut (limit : ℕ) (part whole : Option Read) : Type 0 where
  pub fields : Record
  pub part_is : part ≡ Some (fields, states.StartRecord, [])
  pub long : limit < record_size fields
  pub read : Read
  pub whole_is : whole ≡ Some read
  pub longer : limit < record_size read.0

abbrev pub IsFront : ℕ → ℕ → Option Read → Option Read → Type 0
IsFront limit most part whole = ((part ≡ None) × (whole ≡ None)) ⊎ (IsWhole most part whole ⊎ IsCut limit part whole)

-- between two records nothing of the next record has been read, and all of its limit is left
abbrev IsFresh : ℕ → Point → ℕ → Record → List ℕ → Type 0
IsFresh most point left fields field = point ≡ points.Between → (fields ≡ []) × (field ≡ []) × (left ≡ most)

-- the next record of the front of a text, compared with that of the text
abbrev IsFrontOf : ℕ → ℕ → ℕ → Point → State → Record → List ℕ → List ℕ → Type 0
IsFrontOf limit most left point state fields field text =
    IsFront limit most (read_next state fields field (front most point left text)) (read_next state fields field text)

module _ (limit most : ℕ) (some : 0 < limit) (three : most ≡ 3 * limit) where
  next_of_front : (text : List ℕ) (left : ℕ) (point : Point) (state : State) (fields : Record) (field : List ℕ)
      → Stands point state → IsFresh most point left fields field → Counts most left point fields field
      → IsFront limit most (read_next state fields field (front most point left text)) (read_next state fields field text)
  unfolding next_record front
  next_of_front [] left point state fields field stands fresh counts = by (ends_at_end state) refl
    where
      by : (ends : Bool) → ends_at_end state ≡ ends → IsFront limit most (read_next state fields field []) (read_next state fields field [])
      by true e = inr (inl (record { fields = fields ++ field ∷ []; state = states.StartRecord; rest = []; part_is = rw e refl; whole_is = rw e refl; stands = tt }))
      by false e = inl (rw e refl, rw e refl)
  next_of_front (byte ∷ text) zero point state fields field stands fresh counts =
      let inside : point ≢ points.Between = λ at. absurd (omega (arith, (fresh at).2, some, three)) in
      let whole = goes_on (byte ∷ text) point state fields field stands inside in
      let few : marks point ≤ 2 = marks_few point in
      let long : limit < record_size (fields ++ field ∷ []) = omega (arith, size_push fields field, counts, few, three) in
      inr (inr (record {
        fields = fields ++ field ∷ [];
        part_is = rw (inside_ends point state stands inside) refl;
        long = long;
        read = whole.read;
        whole_is = whole.is;
        longer = omega (arith, whole.more, counts, few, three);
      }))
    where
      marks_few : (p : Point) → marks p ≤ 2
      marks_few points.Plain = omega arith
      marks_few points.Quoted = omega arith
      marks_few points.Closed = omega arith
      marks_few p = omega arith
  next_of_front (byte ∷ text) (suc left) point state fields field stands fresh counts =
      by (is_end (action_at state byte)) refl
      (next_of_front text (left_at most (point_after point byte) left) (point_after point byte) (state_after state byte)
      (record_after state byte fields field) (part_after state byte field))
    where
      next : StepsTo most left byte point fields field (point_after point byte) (step default_config state byte)
      next = steps most left byte point state fields field stands (λ at. ((fresh at).0, (fresh at).1)) counts

      by : (ends : Bool) → is_end (action_at state byte) ≡ ends
          → (Stands (point_after point byte) (state_after state byte)
          → IsFresh most (point_after point byte) (left_at most (point_after point byte) left) (record_after state byte fields field) (part_after state byte field)
          → Counts most (left_at most (point_after point byte) left) (point_after point byte) (record_after state byte fields field) (part_after state byte field)
          → IsFrontOf limit most (left_at most (point_after point byte) left) (point_after point byte) (state_after state byte)
          (record_after state byte fields field) (part_after state byte field) text)
          → IsFront limit most (read_next state fields field (front most point (suc left) (byte ∷ text))) (read_next state fields field (byte ∷ text))
      by true e later =
          rw e (inr (inl (record {
            fields = record_after state byte fields field;
            state = (state_after state byte);
            rest = text;
            part_is = ap (λ (p : Point). Some (record_after state byte fields field, state_after state byte, front most p (left_at most p left) text))
                (next.between e);
            whole_is = refl;
            stands = subst (λ (p : Point). Stands p (state_after state byte)) (next.between e) next.stands;
          })))
      by false e later =
          let fresh' : IsFresh most (point_after point byte) (left_at most (point_after point byte) left) (record_after state byte fields field) (part_after state byte field) =
          λ at. let fresh_at = next.fresh e at in (fresh_at.1, fresh_at.2, ap (λ (p : Point). left_at most p left) at) in
          rw e (later next.stands fresh' (next.counts e))

  -- the same from between two records
  pub next_between : (text : List ℕ) (state : State) → Stands points.Between state
      → IsFront limit most (read_next state [] [] (front_between most text)) (read_next state [] [] text)
  next_between text state stands = next_of_front text most points.Between state [] [] stands (λ _. (refl, refl, refl)) (omega arith)
