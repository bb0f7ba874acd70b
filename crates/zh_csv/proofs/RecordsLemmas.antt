-- The records that a reader gives of a text are the text's first ones, and the same for every reader.
use Rattle.std.proofs.Common.{◌≡◌, ◌≤◌, ℕ, List, [], ◌∷◌, ◌++◌, length, Option, Some, None, Bool, true, false, refl, sym, ap, ◌∙◌, inl, subst, arith}
use Rattle.std.specs.Bool.{MatchBool}
use Rattle.std.proofs.lemmas.List.{append-nil, length-append}
use Rattle.csv.specs.Machine.{Read, next_record}
use Rattle.csv.specs.Reading.{Reached, ReadRecord, default_config, is_flexible, strip_bom, took_first}
use Rattle.csv.specs.declared.parser.Config.{Config}
use Rattle.csv.specs.declared.parser.State.{State}
use Rattle.csv.specs.declared.parser.State.TheVariants as states
use Rattle.csv.specs.declared.reader.Reader.{Reader}
use Rattle.csv.proofs.ReadFacts.{rows-more, rows-end}
use Rattle.zh_csv.specs.Records.{Record, AreAll, AreFirst, HasRead}

-- of two beginnings of a text, the longer one begins with the shorter one
reached_more : (cfg : Config) (s s2 s3 : State) (xs ys zs : List ℕ) (few many : List Record)
    → Reached cfg s xs few s2 ys → Reached cfg s xs many s3 zs → length few ≤ length many
    → (rest : List Record) × (many ≡ few ++ rest)
unfolding Reached
reached_more cfg s s2 s3 xs ys zs [] many reached other short = (many, refl)
reached_more cfg s s2 s3 xs ys zs (a ∷ few) [] reached other short = absurd (omega arith)
reached_more cfg s s2 s3 xs ys zs (a ∷ few) (b ∷ many) (p, next, is, reached) (q, next', is', other) short =
    let same : p ≡ q = let one : Some p ≡ Some q = sym next ∙ next' in cc in
    let reached' = subst (λ (r : Read). Reached cfg r.1 r.2 few s2 ys) same reached in
    let (rest, more) = reached_more cfg q.1 s2 s3 q.2 ys zs few many reached' other (omega arith) in
    let first : b ≡ a = is' ∙ ap (λ (r : Read). r.0) (sym same) ∙ sym is in
    (rest, λ i. first i ∷ more i)

-- after all records there is no further one
reached_all : (cfg : Config) (s s2 s3 : State) (xs ys zs : List ℕ) (all few : List Record)
    → Reached cfg s xs all s2 ys → next_record cfg s2 [] [] ys ≡ None → Reached cfg s xs few s3 zs → length few ≤ length all
unfolding Reached
reached_all cfg s s2 s3 xs ys zs all [] reached none other = omega arith
reached_all cfg s s2 s3 xs ys zs [] (b ∷ few) (at, is) none (q, next, is', other) =
    let wrong : None ≡ Some q = sym none ∙ ap (λ (v : State). next_record cfg v [] [] ys) (sym at) ∙ ap (λ (v : List ℕ). next_record cfg s [] [] v) (sym is) ∙ next in
    cc
reached_all cfg s s2 s3 xs ys zs (a ∷ all) (b ∷ few) (p, next, is, reached) none (q, next', is', other) =
    let same : q ≡ p = let one : Some q ≡ Some p = sym next' ∙ next in cc in
    let other' = subst (λ (r : Read). Reached cfg r.1 r.2 few s3 zs) same other in
    let below : length few ≤ length all = reached_all cfg p.1 s2 s3 p.2 ys zs all few reached none other' in
    omega arith

pub first_more : (text : List ℕ) (few many : List Record) → AreFirst text few → AreFirst text many → length few ≤ length many
    → (rest : List Record) × (many ≡ few ++ rest)
first_more text few many (s2, ys, reached) (s3, zs, other) short =
    reached_more default_config states.StartRecord s2 s3 (strip_bom text) ys zs few many reached other short

pub all_first : (text : List ℕ) (all : List Record) → AreAll text all → AreFirst text all
all_first text all (state, rest, reached, none) = (state, rest, reached)

pub none_after : (text : List ℕ) (all few : List Record) → AreAll text all → AreFirst text few → length few ≤ length all
none_after text all few (s2, ys, reached, none) (s3, zs, other) =
    reached_all default_config states.StartRecord s2 s3 (strip_bom text) ys zs all few reached none other

-- the first records of a text are the first of all its records
pub begin_all : (text : List ℕ) (all few : List Record) → AreAll text all → AreFirst text few → (rest : List Record) × (all ≡ few ++ rest)
begin_all text all few are first = first_more text few all first (all_first text all are) (none_after text all few are first)

-- a text determines all its records
pub all_once : (text : List ℕ) (all others : List Record) → AreAll text all → AreAll text others → all ≡ others
all_once text all others are other_are =
    let (rest, is) = begin_all text all others are (all_first text others other_are) in
    by rest is (none_after text others all other_are (all_first text all are))
  where
    by : (rest : List Record) → all ≡ others ++ rest → length all ≤ length others → all ≡ others
    by [] is short = is ∙ append-nil others
    by (one ∷ rest) is short = absurd (omega (arith, ap length is, length-append others (one ∷ rest)))

module _ {R : Type 0} (remaining : R → Option (List ℕ)) (text : List ℕ) (records : List Record) (fields : Record) (old new : Reader R)
    (has : HasRead remaining text records old) where
  -- a record was given
  found_more : ReadRecord remaining old new true fields → took_first new ≡ true → is_flexible new ≡ is_flexible old
      → HasRead remaining text (records ++ fields ∷ []) new
  found_more read ready flexible =
      let start = states.StartRecord in
      let more = rows-more remaining old new fields default_config start (strip_bom text) has.rest records has.config has.source has.leaves read in
      record {
        config = read.2 ∙ has.config;
        trim = read.3 ∙ has.trim;
        flexible = flexible ∙ has.flexible;
        ready = inl ready;
        rest = more.0;
        source = more.1;
        leaves = more.2;
      }

  -- the text has ended
  found_none : ReadRecord remaining old new false fields → AreAll text records
  found_none read =
      (old.state, has.rest, has.leaves, rows-end remaining old new fields default_config has.rest has.config has.source read)

  -- a read succeeded
  pub found_either : (found : Bool) → ReadRecord remaining old new found fields → took_first new ≡ true → is_flexible new ≡ is_flexible old
      → MatchBool found (HasRead remaining text (records ++ fields ∷ []) new) (AreAll text records)
  found_either true read ready flexible = found_more read ready flexible
  found_either false read ready flexible = found_none read

-- the records that a reader gave are the first ones of its text
pub are_first : {R : Type 0} (remaining : R → Option (List ℕ)) (text : List ℕ) (records : List Record) (reader : Reader R)
    → HasRead remaining text records reader → AreFirst text records
are_first remaining text records reader has = (reader.state, has.rest, has.leaves)
