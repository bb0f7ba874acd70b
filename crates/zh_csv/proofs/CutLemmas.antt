-- The records of the front of a text are those of the text, or the last one is part of a record that is too long.
use Rattle.std.proofs.Common.{◌≡◌, ◌≤◌, ◌<◌, ◌+◌, ◌*◌, ◌⊎◌, inl, inr, ℕ, suc, List, [], ◌∷◌, ◌++◌, length}
use Rattle.std.proofs.Common.{length-append, get_or, All, Some, None, refl, sym, ap, ◌∙◌, subst, arith}
use Rattle.csv.specs.Machine.{Read, next_record}
use Rattle.csv.specs.Reading.{Reached, default_config, strip_bom}
use Rattle.csv.specs.declared.parser.State.{State}
use Rattle.csv.specs.declared.parser.State.TheVariants as states
use Rattle.zh_csv.specs.Front.{front, front_of, most_bytes, most_read}
use Rattle.zh_csv.specs.Records.{Record, AreAll, AreFirst, record_size}
use Rattle.zh_csv.specs.declared.front_reader.Point.TheVariants as points
use Rattle.zh_csv.proofs.FrontLemmas.{strip_front}
use Rattle.zh_csv.proofs.StepLemmas.{read_next, front_between, Stands}
use Rattle.zh_csv.proofs.NextLemmas.{IsFront, next_between}

-- the records of the front are the first records of the text
record AreKept (most : ℕ) (records : List Record) (state end : State) (text rest : List ℕ) : Type 0 where
  left : List ℕ
  is : rest ≡ front_between most left
  reached : Reached default_config state text records end left
  stands : Stands points.Between end

-- the last record of the front is only part of the text's record, and both are too long
record AreCut (limit : ℕ) (records : List Record) (state : State) (text : List ℕ) : Type 0 where
  few : List Record
  part : Record
  last : Record
  is : records ≡ few ++ part ∷ []
  end : State
  left : List ℕ
  reached : Reached default_config state text (few ++ last ∷ []) end left
  long : limit < record_size part
  longer : limit < record_size last

-- these records are read from the front of a text
abbrev IsReached : ℕ → List Record → State → State → List ℕ → List ℕ → Type 0
IsReached most records state end text rest = Reached default_config state (front_between most text) records end rest

-- the records of the front are kept, or the last one is cut
abbrev AreKeptOrCut : ℕ → ℕ → List Record → State → State → List ℕ → List ℕ → Type 0
AreKeptOrCut limit most records state end text rest = AreKept most records state end text rest ⊎ AreCut limit records state text

-- no record is longer than the limit
abbrev AreShortOf : ℕ → List Record → Type 0
AreShortOf limit records = All (λ (r : Record). record_size r ≤ limit) records

module _ (limit most : ℕ) (some : 0 < limit) (three : most ≡ 3 * limit) where
  ended : (records : List Record) (end : State) (rest : List ℕ) → Reached default_config states.StartRecord [] records end rest → records ≡ []
  unfolding Reached next_record
  ended [] end rest reached = refl
  ended (first ∷ records) end rest (read, next, is, more) = let wrong : None ≡ Some read = next in cc wrong

  reached_front : (records : List Record) (state end : State) (text rest : List ℕ) → Stands points.Between state
      → IsReached most records state end text rest → AreKeptOrCut limit most records state end text rest
  unfolding Reached
  reached_front [] state end text rest stands (at, is) =
      inl (record { left = text; is = sym is; reached = (at, refl); stands = subst (Stands points.Between) at stands })
  reached_front (first ∷ records) state end text rest stands (read, next, is, more) =
      by (next_between limit most some three text state stands) (λ s t. reached_front records s end t rest)
    where
      by : IsFront limit most (read_next state [] [] (front_between most text)) (read_next state [] [] text)
          → ((s : State) (t : List ℕ) → Stands points.Between s → IsReached most records s end t rest → AreKeptOrCut limit most records s end t rest)
          → AreKeptOrCut limit most (first ∷ records) state end text rest
      by (inl (none, _)) later = let wrong : None ≡ Some read = sym none ∙ next in cc wrong
      by (inr (inl kept)) later = on (later kept.state kept.rest kept.stands (subst (λ (r : Read). Reached default_config r.1 r.2 records end rest) same more))
        where
          same : read ≡ (kept.fields, kept.state, front_between most kept.rest)
          same = let both : Some read ≡ Some (kept.fields, kept.state, front_between most kept.rest) = sym next ∙ kept.part_is in cc both

          head : first ≡ kept.fields
          head = is ∙ ap (λ (r : Read). r.0) same

          on : AreKeptOrCut limit most records kept.state end kept.rest rest → AreKeptOrCut limit most (first ∷ records) state end text rest
          on (inl all) = inl (record {
            left = all.left;
            is = all.is;
            reached = ((kept.fields, kept.state, kept.rest), kept.whole_is, head, all.reached);
            stands = all.stands;
          })
          on (inr some_of) = inr (record {
            few = first ∷ some_of.few;
            part = some_of.part;
            last = some_of.last;
            is = ap (λ (l : List Record). first ∷ l) some_of.is;
            end = some_of.end;
            left = some_of.left;
            reached = ((kept.fields, kept.state, kept.rest), kept.whole_is, head, some_of.reached);
            long = some_of.long;
            longer = some_of.longer;
          })
      by (inr (inr cut)) later = inr (record {
        few = [];
        part = cut.fields;
        last = cut.read.0;
        is = λ i. head i ∷ none i;
        end = cut.read.1;
        left = cut.read.2;
        reached = (cut.read, cut.whole_is, refl, (refl, refl));
        long = cut.long;
        longer = cut.longer;
      })
        where
          same : read ≡ (cut.fields, states.StartRecord, [])
          same = let both : Some read ≡ Some (cut.fields, states.StartRecord, []) = sym next ∙ cut.part_is in cc both

          head : first ≡ cut.fields
          head = is ∙ ap (λ (r : Read). r.0) same

          none : records ≡ []
          none = ended records end rest (subst (λ (r : Read). Reached default_config r.1 r.2 records end rest) same more)

  -- if the front ends after records that are kept, so does the text
  none_front : (text : List ℕ) (state : State) → Stands points.Between state
      → read_next state [] [] (front_between most text) ≡ None → read_next state [] [] text ≡ None
  none_front text state stands none = by (next_between limit most some three text state stands)
    where
      by : IsFront limit most (read_next state [] [] (front_between most text)) (read_next state [] [] text)
          → read_next state [] [] text ≡ None
      by (inl (_, gone)) = gone
      by (inr (inl kept)) = let wrong : None ≡ Some (kept.fields, kept.state, front_between most kept.rest) = sym none ∙ kept.part_is in cc wrong
      by (inr (inr cut)) = let wrong : None ≡ Some (cut.fields, states.StartRecord, []) = sym none ∙ cut.part_is in cc wrong

  -- if no record of a text is too long, all of it is read
  reached_whole : (records : List Record) (state end : State) (text rest : List ℕ) → Stands points.Between state
      → AreShortOf limit records → Reached default_config state text records end rest
      → Stands points.Between end × IsReached most records state end text (front_between most rest)
  unfolding Reached
  reached_whole [] state end text rest stands short (at, is) = (subst (Stands points.Between) at stands, (at, ap (front_between most) is))
  reached_whole (first ∷ records) state end text rest stands short (read, next, is, more) =
      by (next_between limit most some three text state stands) (λ s t. reached_whole records s end t rest)
    where
      by : IsFront limit most (read_next state [] [] (front_between most text)) (read_next state [] [] text)
          → ((s : State) (t : List ℕ) → Stands points.Between s → AreShortOf limit records → Reached default_config s t records end rest
          → Stands points.Between end × IsReached most records s end t (front_between most rest))
          → Stands points.Between end × IsReached most (first ∷ records) state end text (front_between most rest)
      by (inl (_, none)) later = let wrong : None ≡ Some read = sym none ∙ next in cc wrong
      by (inr (inl kept)) later =
          let both : Some read ≡ Some (kept.fields, kept.state, kept.rest) = sym next ∙ kept.whole_is in
          let same : read ≡ (kept.fields, kept.state, kept.rest) = cc both in
          let more' = subst (λ (r : Read). Reached default_config r.1 r.2 records end rest) same more in
          let (stands', reached) = later kept.state kept.rest kept.stands (λ i r within. short (suc i) r (omega arith)) more' in
          (stands', ((kept.fields, kept.state, front_between most kept.rest), kept.part_is, is ∙ ap (λ (r : Read). r.0) same, reached))
      by (inr (inr cut)) later =
          let same : read ≡ cut.read = let both : Some read ≡ Some cut.read = sym next ∙ cut.whole_is in cc both in
          let size : record_size first ≡ record_size cut.read.0 = ap record_size (is ∙ ap (λ (r : Read). r.0) same) in
          absurd (omega (arith, short 0 first (omega arith), cut.longer, size))

  none_whole : (text : List ℕ) (state : State) → Stands points.Between state
      → read_next state [] [] text ≡ None → read_next state [] [] (front_between most text) ≡ None
  none_whole text state stands none = by (next_between limit most some three text state stands)
    where
      by : IsFront limit most (read_next state [] [] (front_between most text)) (read_next state [] [] text)
          → read_next state [] [] (front_between most text) ≡ None
      by (inl (gone, _)) = gone
      by (inr (inl kept)) = let wrong : None ≡ Some (kept.fields, kept.state, kept.rest) = sym none ∙ kept.whole_is in cc wrong
      by (inr (inr cut)) = let wrong : None ≡ Some cut.read = sym none ∙ cut.whole_is in cc wrong

-- the last of these records is part of a record of a text, and both are too long
pub record EndsInPart (text : List ℕ) (records : List Record) : Type 0 where
  pub few : List Record
  pub part : Record
  pub last : Record
  pub is : records ≡ few ++ part ∷ []
  pub first : AreFirst text (few ++ last ∷ [])
  pub long : most_bytes < record_size part
  pub longer : most_bytes < record_size last

at_end : (xs : List Record) (y : Record) → get_or (xs ++ y ∷ []) (length xs) [] ≡ y
at_end [] y = refl
at_end (x ∷ xs) y = at_end xs y

module _ (text : List ℕ) (records : List Record) where
  -- these records are reached from the start of this text
  abbrev AreReachedIn : State → List ℕ → List ℕ → Type 0
  AreReachedIn state rest start = Reached default_config states.StartRecord start records state rest

  between : (state : State) (rest : List ℕ) → AreReachedIn state rest (strip_bom (front_of text))
      → AreReachedIn state rest (front_between most_read (strip_bom text))
  between state rest reached = subst (AreReachedIn state rest) (strip_front most_read text (omega arith)) reached

  -- the records of the front are kept, or the last one is cut
  front_reached : (state : State) (rest : List ℕ) → AreReachedIn state rest (strip_bom (front_of text))
      → AreKeptOrCut most_bytes most_read records states.StartRecord state (strip_bom text) rest
  front_reached state rest reached =
      reached_front most_bytes most_read (omega arith) refl records states.StartRecord state (strip_bom text) rest tt (between state rest reached)

  cut : AreCut most_bytes records states.StartRecord (strip_bom text) → EndsInPart text records
  cut some = record {
    few = some.few;
    part = some.part;
    last = some.last;
    is = some.is;
    first = (some.end, some.left, some.reached);
    long = some.long;
    longer = some.longer;
  }

  pub first_of_front : AreFirst (front_of text) records → AreFirst text records ⊎ EndsInPart text records
  first_of_front (state, rest, reached) = by (front_reached state rest reached)
    where
      by : AreKeptOrCut most_bytes most_read records states.StartRecord state (strip_bom text) rest → AreFirst text records ⊎ EndsInPart text records
      by (inl all) = inl (state, all.left, all.reached)
      by (inr some) = inr (cut some)

  pub all_of_front : AreAll (front_of text) records → AreAll text records ⊎ EndsInPart text records
  all_of_front (state, rest, reached, none) = by (front_reached state rest reached)
    where
      by : AreKeptOrCut most_bytes most_read records states.StartRecord state (strip_bom text) rest → AreAll text records ⊎ EndsInPart text records
      by (inl all) =
          let none' = subst (λ (l : List ℕ). read_next state [] [] l ≡ None) all.is none in
          inl (state, all.left, all.reached, none_front most_bytes most_read (omega arith) refl all.left state all.stands none')
      by (inr some) = inr (cut some)

  abbrev AreShort : Type 0
  AreShort = AreShortOf most_bytes records

  -- a text whose records are short is read to its end
  pub all_read : AreShort → AreAll text records → AreAll (front_of text) records
  all_read short (state, rest, reached, none) =
      let start = strip_bom text in
      let (stands, reached') = reached_whole most_bytes most_read (omega arith) refl records states.StartRecord state start rest tt short reached in (
        state,
        front_between most_read rest,
        subst (AreReachedIn state (front_between most_read rest)) (sym (strip_front most_read text (omega arith))) reached',
        none_whole most_bytes most_read (omega arith) refl rest state stands none,
      )

  -- if the records of the front are short, they are all records of the text
  pub all_whole : AreShort → AreAll (front_of text) records → AreAll text records
  all_whole short all = by (all_of_front all)
    where
      by : AreAll text records ⊎ EndsInPart text records → AreAll text records
      by (inl whole) = whole
      by (inr some) =
          let here : get_or records (length some.few) [] ≡ some.part =
          ap (λ (l : List Record). get_or l (length some.few) []) some.is ∙ at_end some.few some.part in
          let within : length some.few < length records =
          omega (arith, ap (λ (l : List Record). length l) some.is, length-append some.few (some.part ∷ [])) in
          let few : record_size (get_or records (length some.few) []) ≤ most_bytes = short (length some.few) [] within in
          absurd (omega (arith, ap record_size here, few, some.long))
