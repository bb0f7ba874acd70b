-- A check that fails is found: among keys, among tables, and among names.
use Rattle.std.proofs.Common.{◌≡◌, ◌+◌, ℕ, Bool, true, false, cond, not, ◌&&◌, ◌||◌, List, [], ◌∷◌, ◌++◌, Option, Some, None, refl, sym, ap, ◌∙◌, inl, inr}
use Rattle.std.specs.Prelude.{is_some}
use Rattle.std.specs.List.{list_all, list_any}
use Rattle.std.specs.Option.{option_map_or, option_or}
use Rattle.std.specs.Str.{bytes_eq}
use Rattle.std.proofs.lemmas.Bool.{cases_Bool, false≢true}
use Rattle.std.proofs.lemmas.List.Folds.{list_any-append}
use Rattle.std.proofs.lemmas.Slice.Eq.{bytes_eq-Decides}
use Rattle.toml.specs.Data.{Data}
use Rattle.zh_setups.specs.Document.{name_in, repeats, same_name}
use Rattle.zh_setups.specs.Places.{first_failing, first_namesake, first_table}
use Rattle.zh_setups.specs.declared.place.FaultPlace.{FaultPlace}
use Rattle.zh_setups.specs.declared.place.FaultPlace.TheVariants as places
use Rattle.zh_setups.specs.declared.place.Key.{Key}
use Rattle.zh_setups.specs.declared.place.Kind.{Kind}

next_key : (b : Bool) (key : Key) (rest : List (Key × Bool)) → (b && list_all (λ check. check.1) rest) ≡ false
    → (list_all (λ check. check.1) rest ≡ false → is_some (first_failing rest) ≡ true) → is_some (cond b (first_failing rest) (Some key)) ≡ true
next_key true key rest h more = more h
next_key false key rest h more = refl

-- a key is found if one of the checks fails
pub key_found : (checks : List (Key × Bool)) → list_all (λ check. check.1) checks ≡ false → is_some (first_failing checks) ≡ true
key_found [] h = absurd cc
key_found (check ∷ checks) h = next_key check.1 check.0 checks h (λ rest. key_found checks rest)

table_here : (found : Option Key) (kind : Kind) (number : ℕ) (rest : Option FaultPlace) → is_some found ≡ true → is_some (option_map_or (λ key. Some (places.Table kind number key)) found rest) ≡ true
table_here None kind number rest h = absurd cc
table_here (Some key) kind number rest h = refl

table_later : (found : Option Key) (kind : Kind) (number : ℕ) (rest : Option FaultPlace) → is_some rest ≡ true → is_some (option_map_or (λ key. Some (places.Table kind number key)) found rest) ≡ true
table_later None kind number rest h = h
table_later (Some key) kind number rest h = refl

-- a table is found if one of the tables fails
pub table_found : (key : Data → Option Key) (passes : Data → Bool) → ((value : Data) → passes value ≡ false → is_some (key value) ≡ true)
    → (kind : Kind) (number : ℕ) (values : List Data) → list_all passes values ≡ false
    → is_some (first_table key kind number values) ≡ true
table_found key passes says kind number [] h = absurd cc
table_found key passes says kind number (value ∷ values) h = elim (cases_Bool (passes value)) [
  | inl is ↦ table_later (key value) kind number (first_table key kind (number + 1) values) (table_found key passes says kind (number + 1) values (sym (ap (λ b. b && list_all passes values) is) ∙ h))
  | inr is ↦ table_here (key value) kind number (first_table key kind (number + 1) values) (says value is)
]

pub in_first : (a b : Option FaultPlace) → is_some a ≡ true → is_some (option_or a b) ≡ true
in_first None b h = absurd cc
in_first (Some place) b h = refl

pub in_second : (a b : Option FaultPlace) → is_some b ≡ true → is_some (option_or a b) ≡ true
in_second None b h = h
in_second (Some place) b h = refl

-- if one value passes a test, not all fail it
pub any_fails : {X : Type 0} (p : X → Bool) (xs : List X) → list_any p xs ≡ true → list_all (λ x. not (p x)) xs ≡ false
any_fails p [] h = absurd cc
any_fails p (x ∷ xs) h = one (p x) (list_any p xs) (list_all (λ y. not (p y)) xs) h (any_fails p xs)
  where
    one : (b any all : Bool) → (b || any) ≡ true → (any ≡ true → all ≡ false) → (not b && all) ≡ false
    one true any all h more = refl
    one false any all h more = more h

same_either_way : (xs ys : List ℕ) → bytes_eq xs ys ≡ bytes_eq ys xs
same_either_way xs ys = elim (cases_Bool (bytes_eq xs ys)) [
  | inl is ↦ is ∙ sym ((bytes_eq-Decides ys xs).1 (sym ((bytes_eq-Decides xs ys).0 is)))
  | inr is ↦ elim (cases_Bool (bytes_eq ys xs)) [
    | inl other ↦ absurd (false≢true (sym is ∙ (bytes_eq-Decides xs ys).1 (sym ((bytes_eq-Decides ys xs).0 other))))
    | inr other ↦ is ∙ sym other
  ]
]

-- whether an earlier value has the name of this one
seen : List Data → Data → Bool
seen before value = list_any (same_name value) before

or_false : (a b : Bool) → (a || (b || false)) ≡ (a || b)
or_false true b = refl
or_false false true = refl
or_false false false = refl

pub or_swap : (a b c d : Bool) → ((a || b) || (c || d)) ≡ ((a || c) || (b || d))
or_swap true b c d = refl
or_swap false true true d = refl
or_swap false true false d = refl
or_swap false false c d = refl

seen-more : (before : List Data) (value other : Data) → seen (before ++ value ∷ []) other ≡ (seen before other || same_name value other)
unfolding seen
seen-more before value other =
    list_any-append (same_name other) before (value ∷ []) ∙ or_false (list_any (same_name other) before) (same_name other value)
    ∙ ap (λ b. list_any (same_name other) before || b) (same_either_way (name_in other) (name_in value))

any-seen-more : (before : List Data) (value : Data) (rest : List Data) → list_any (seen (before ++ value ∷ [])) rest ≡ (list_any (seen before) rest || list_any (same_name value) rest)
any-seen-more before value [] = refl
any-seen-more before value (other ∷ rest) =
    ap (λ b. b || list_any (seen (before ++ value ∷ [])) rest) (seen-more before value other)
    ∙ ap (λ b. (seen before other || same_name value other) || b) (any-seen-more before value rest)
    ∙ or_swap (seen before other) (same_name value other) (list_any (seen before) rest) (list_any (same_name value) rest)

turn : (a r s : Bool) → ((a || r) || s) ≡ true → (r || (s || a)) ≡ true
turn true true s h = refl
turn true false true h = refl
turn true false false h = refl
turn false true s h = refl
turn false false true h = refl
turn false false false h = absurd cc

namesake_among : (kind : Kind) (number : ℕ) (before values : List Data) → (repeats same_name values || list_any (seen before) values) ≡ true → is_some (first_namesake kind number before values) ≡ true
unfolding seen
namesake_among kind number before [] h = absurd cc
namesake_among kind number before (value ∷ values) h = elim (cases_Bool (seen before value)) [
  | inl is ↦ rw is refl
  | inr is ↦
      let left : ((list_any (same_name value) values || repeats same_name values) || list_any (seen before) values) ≡ true =
      sym (ap (λ b. (list_any (same_name value) values || repeats same_name values) || (b || list_any (seen before) values)) is) ∙ h in
      let more : (repeats same_name values || list_any (seen (before ++ value ∷ [])) values) ≡ true =
      ap (λ b. repeats same_name values || b) (any-seen-more before value values) ∙ turn (list_any (same_name value) values) (repeats same_name values) (list_any (seen before) values) left in
      rw is (namesake_among kind (number + 1) (before ++ value ∷ []) values more)
]

none_seen : (values : List Data) → list_any (seen []) values ≡ false
unfolding seen
none_seen [] = refl
none_seen (value ∷ values) = none_seen values

-- a table is found if two of the tables have the same name
pub namesake_found : (kind : Kind) (values : List Data) → repeats same_name values ≡ true → is_some (first_namesake kind 1 [] values) ≡ true
namesake_found kind values h = namesake_among kind 1 [] values (ap (λ b. b || list_any (seen []) values) h)
