-- What is known of values of a document that could be read.
use Rattle.std.proofs.Common.{◌≡◌, ◌≢◌, ℕ, ◌-◌, ◌<◌, ◌≤◌, Bool, true, false, cond, ◌&&◌, ◌==◌, eqb, nat_le, List, [], ◌∷◌, length, get_or}
use Rattle.std.proofs.Common.{map, All, Option, Some, None, pos, IsTrue, codes, refl, sym, ap, subst, ◌∙◌, arith, eq-eqb}
use Rattle.std.specs.Prelude.{AllPairs, Contains}
use Rattle.std.specs.List.{list_all, list_any, AllByRecursion}
use Rattle.std.proofs.lemmas.Bool.{and_parts, or_parts, leb-true, false≢true}
use Rattle.std.proofs.lemmas.List.FromFn.{length-map-range_with_len, get_or-map-range_with_len}
use Rattle.std.proofs.lemmas.List.Elements.{All-from_recursion}
use Rattle.std.proofs.lemmas.List.Kept.{AllPairs-cons}
use Rattle.std.proofs.lemmas.Slice.Eq.{bytes_eq-Decides}
use Rattle.toml.specs.Data.{Data, Members, string, integer, table, get, get_member, as_array, as_str}
use Rattle.zh_districts.specs.Canton.{Constituency, Municipality, Group, is_name, AreNames}
use Rattle.zh_setups.specs.Keys.{list_of, is_table, tables_of, tables_at}
use Rattle.zh_setups.specs.Document.{◌>>=◌, number_within, name_of, each, values_of, values_at, constituency_from, municipality_from, group_from, stands_of, name_in, same_name, repeats}

-- the value that a successful step gave
pub bind_some : {A B : Type 0} (o : Option A) (f : A → Option B) (y : B) → (o >>= f) ≡ Some y → (x : A) × (o ≡ Some x) × (f x ≡ Some y)
bind_some None f y e = absurd cc
bind_some (Some x) f y e = (x, refl, e)

pub guard_some : {A : Type 0} (b : Bool) (x y : A) → cond b (Some x) None ≡ Some y → (b ≡ true) × (x ≡ y)
guard_some true x y e = (refl, cc)
guard_some false x y e = absurd cc

pub some_is : {A : Type 0} (x y : A) → Some x ≡ Some y → x ≡ y
some_is x y e = cc

-- ---- numbers and names

pub number_within-some : (low high : ℕ) (d : Data) (n : ℕ) → number_within low high d ≡ Some n → (d ≡ integer (pos n)) × (low ≤ n) × (n ≤ high)
number_within-some low high (integer (pos m)) n e =
    let g = guard_some (nat_le low m && nat_le m high) m n e in
    let b = and_parts (nat_le low m) (nat_le m high) g.0 in
    (ap (λ (k : ℕ). integer (pos k)) g.1, subst (λ (k : ℕ). low ≤ k) g.1 (leb-true low m b.0), subst (λ (k : ℕ). k ≤ high) g.1 (leb-true m high b.1))
number_within-some low high d n e = absurd cc

pub number_within-bounds : (low high : ℕ) (d : Data) (n : ℕ) → number_within low high d ≡ Some n → (low ≤ n) × (n ≤ high)
number_within-bounds low high d n e = let s = number_within-some low high d n e in (s.1, s.2)

pub name_of-some : (d : Data) (name : List ℕ) → name_of d ≡ Some name → (d ≡ string name) × IsTrue (is_name name)
name_of-some (string s) name e =
    let g = guard_some (is_name s) s name e in
    (ap (λ (x : List ℕ). string x) g.1, subst (λ (x : List ℕ). IsTrue (is_name x)) g.1 g.0)
name_of-some d name e = absurd cc

is_table-from_get : (key : List ℕ) (d v : Data) → get key d ≡ Some v → is_table d ≡ true
is_table-from_get key (table ms) v e = refl
is_table-from_get key d v e = absurd cc

-- the table has this name
pub record HasName (d : Data) (name : List ℕ) : Type 0 where
  pub rule : IsTrue (is_name name)
  pub within : name_in d ≡ name
  pub kind : is_table d ≡ true

has_name : (d : Data) (name : List ℕ) → (get (codes "name") d >>= name_of) ≡ Some name → HasName d name
has_name d name e =
    let b = bind_some (get (codes "name") d) name_of name e in
    let r = name_of-some b.0 name b.2 in
    let said : as_str b.0 ≡ Some name = ap as_str r.0 in
    record { rule = r.1; within = rw (b.1, said) refl; kind = is_table-from_get (codes "name") d b.0 b.1 }

-- ---- each value

pub length-each : {X : Type 0} (f : Data → Option X) (ds : List Data) (xs : List X) → each f ds ≡ Some xs → length xs ≡ length ds
length-each f [] xs e = ap length (sym (some_is [] xs e))
length-each f (d ∷ ds) xs e =
    let a = bind_some (f d) (λ x. each f ds >>= λ ys. Some (x ∷ ys)) xs e in
    let b = bind_some (each f ds) (λ ys. Some (a.0 ∷ ys)) xs a.2 in
    let h = length-each f ds b.0 b.1 in
    subst (λ ys. length ys ≡ length (d ∷ ds)) (some_is (a.0 ∷ b.0) xs b.2) (omega arith)

-- a relation between a value and what it is read as holds for all values of a list
pub each-holds : {X : Type 0} (R : Data → X → Type 0) (f : Data → Option X) → ((d : Data) (x : X) → f d ≡ Some x → R d x) → (P : List Data → List X → Type 0) → P [] []
    → ((d : Data) (x : X) (ds : List Data) (xs : List X) → R d x → P ds xs → P (d ∷ ds) (x ∷ xs)) → (ds : List Data) (xs : List X) → each f ds ≡ Some xs → P ds xs
each-holds R f says P none more [] xs e = subst (λ ys. P [] ys) (some_is [] xs e) none
each-holds R f says P none more (d ∷ ds) xs e =
    let a = bind_some (f d) (λ x. each f ds >>= λ ys. Some (x ∷ ys)) xs e in
    let b = bind_some (each f ds) (λ ys. Some (a.0 ∷ ys)) xs a.2 in
    subst (λ ys. P (d ∷ ds) ys) (some_is (a.0 ∷ b.0) xs b.2) (more d a.0 ds b.0 (says d a.0 a.1) (each-holds R f says P none more ds b.0 b.1))

pub each-all : {X : Type 0} (P : X → Type 0) (f : Data → Option X) → ((d : Data) (x : X) → f d ≡ Some x → P x) → (ds : List Data) (xs : List X) → each f ds ≡ Some xs → All P xs
each-all P f says ds xs e = All-from_recursion P xs (each-holds (λ d x. P x) f says (λ ds xs. AllByRecursion P xs) tt (λ d x ds xs h all. (h, all)) ds xs e)

-- the values of one kind: all are tables, and these are their names, which obey the rule of names
pub record Named {X : Type 0} (name : X → List ℕ) (ds : List Data) (xs : List X) : Type 0 where
  pub rule : AllByRecursion (λ n. IsTrue (is_name n)) (map name xs)
  pub names : map name xs ≡ map name_in ds
  pub kind : list_all is_table ds ≡ true

pub each-named : {X : Type 0} (name : X → List ℕ) (f : Data → Option X) → ((d : Data) (x : X) → f d ≡ Some x → HasName d (name x))
    → (ds : List Data) (xs : List X) → each f ds ≡ Some xs → Named name ds xs
each-named name f says ds xs e =
    each-holds (λ d x. HasName d (name x)) f says (λ ds xs. Named name ds xs) (record { rule = tt; names = refl; kind = refl })
    (λ d x ds xs h named. record { rule = (h.rule, named.rule); names = rw (h.within, named.names) refl; kind = rw (h.kind, named.kind) refl }) ds xs e

-- names without a repeat
differs : (x : Data) (ds : List Data) → list_any (same_name x) ds ≡ false → AllByRecursion (λ n. name_in x ≢ n) (map name_in ds)
differs x [] h = tt
differs x (d ∷ ds) h =
    let o = or_parts (same_name x d) (list_any (same_name x) ds) h in
    ((λ same. false≢true (sym o.0 ∙ (bytes_eq-Decides (name_in x) (name_in d)).1 same)), differs x ds o.1)

pub all_differ : (ds : List Data) → repeats same_name ds ≡ false → AllPairs (λ a b. a ≢ b) (map name_in ds)
all_differ [] h = λ i j d lt within. absurd (omega arith)
all_differ (d ∷ ds) h =
    let o = or_parts (list_any (same_name d) ds) (repeats same_name ds) h in
    AllPairs-cons (λ a b. a ≢ b) (name_in d) (map name_in ds) (All-from_recursion (λ n. name_in d ≢ n) (map name_in ds) (differs d ds o.0)) (all_differ ds o.1)

pub are_names : {X : Type 0} (name : X → List ℕ) (ds : List Data) (xs : List X) → Named name ds xs → repeats same_name ds ≡ false → AreNames (map name xs)
are_names name ds xs named h = record {
  rule = All-from_recursion (λ n. IsTrue (is_name n)) (map name xs) named.rule;
  different = rw named.names (all_differ ds h);
}

-- ---- the values at a key

pub values_of-some : (d : Data) (ds : List Data) → values_of d ≡ Some ds → (1 ≤ length ds) × (tables_of d ≡ cond (list_all is_table ds) ds [])
values_of-some d ds e =
    let a = bind_some (as_array d) (λ items. cond (nat_le 1 (length (list_of items))) (Some (list_of items)) None) ds e in
    let g = guard_some (nat_le 1 (length (list_of a.0))) (list_of a.0) ds a.2 in
    (subst (λ (xs : List Data). 1 ≤ length xs) g.1 (leb-true 1 (length (list_of a.0)) g.0), rw (a.1, g.1) refl)

pub values_at-some : (key : List ℕ) (most : ℕ) (document : Members) (ds : List Data) → values_at key most document ≡ Some ds
    → (1 ≤ length ds) × (length ds ≤ most) × (list_all is_table ds ≡ true → tables_at key document ≡ ds)
values_at-some key most document ds e =
    let a = bind_some (get_member key document >>= values_of) (λ values. cond (nat_le (length values) most) (Some values) None) ds e in
    let b = bind_some (get_member key document) values_of a.0 a.1 in
    let g = guard_some (nat_le (length a.0) most) a.0 ds a.2 in
    let v = values_of-some b.0 a.0 b.2 in
    let short = leb-true (length a.0) most g.0 in
    (subst (λ (xs : List Data). 1 ≤ length xs) g.1 v.0, subst (λ (xs : List Data). length xs ≤ most) g.1 short, λ all. rw (b.1, v.1, g.1, all) refl)

-- ---- the parts

-- what a table says about each part of a constituency, and of a municipality
pub constituency_said : (d : Data) (x : Constituency) → constituency_from d ≡ Some x
    → ((get (codes "name") d >>= name_of) ≡ Some x.name) × ((get (codes "persons") d >>= number_within 1 10000000) ≡ Some x.persons)
constituency_said d x e =
    let a = bind_some (get (codes "name") d >>= name_of) (λ name. (get (codes "persons") d >>= number_within 1 10000000) >>= λ persons. Some (record { name = name; persons = persons })) x e in
    let b = bind_some (get (codes "persons") d >>= number_within 1 10000000) (λ persons. Some (record { name = a.0; persons = persons })) x a.2 in
    let made : Constituency = record { name = a.0; persons = b.0 } in
    subst (λ (y : Constituency). ((get (codes "name") d >>= name_of) ≡ Some y.name) × ((get (codes "persons") d >>= number_within 1 10000000) ≡ Some y.persons)) (some_is made x b.2) (a.1, b.1)

pub constituency_from-some : (d : Data) (x : Constituency) → constituency_from d ≡ Some x → HasName d x.name × (1 ≤ x.persons) × (x.persons ≤ 10000000)
constituency_from-some d x e =
    let said = constituency_said d x e in
    let found = bind_some (get (codes "persons") d) (number_within 1 10000000) x.persons said.1 in
    let bounds = number_within-bounds 1 10000000 found.0 x.persons found.2 in
    (has_name d x.name said.0, bounds.0, bounds.1)

pub municipality_said : (n : ℕ) (d : Data) (x : Municipality) → municipality_from n d ≡ Some x
    → ((get (codes "name") d >>= name_of) ≡ Some x.name) × ((get (codes "constituency") d >>= number_within 1 n) ≡ Some x.constituency)
municipality_said n d x e =
    let a = bind_some (get (codes "name") d >>= name_of) (λ name. (get (codes "constituency") d >>= number_within 1 n) >>= λ c. Some (record { name = name; constituency = c })) x e in
    let b = bind_some (get (codes "constituency") d >>= number_within 1 n) (λ c. Some (record { name = a.0; constituency = c })) x a.2 in
    let made : Municipality = record { name = a.0; constituency = b.0 } in
    subst (λ (y : Municipality). ((get (codes "name") d >>= name_of) ≡ Some y.name) × ((get (codes "constituency") d >>= number_within 1 n) ≡ Some y.constituency)) (some_is made x b.2) (a.1, b.1)

pub municipality_from-some : (n : ℕ) (d : Data) (x : Municipality) → municipality_from n d ≡ Some x → HasName d x.name × (1 ≤ x.constituency) × (x.constituency ≤ n)
municipality_from-some n d x e =
    let said = municipality_said n d x e in
    let found = bind_some (get (codes "constituency") d) (number_within 1 n) x.constituency said.1 in
    let bounds = number_within-bounds 1 n found.0 x.constituency found.2 in
    (has_name d x.name said.0, bounds.0, bounds.1)

-- the first number of the list is from 1 to n, so the group stands in that constituency
stands_somewhere : (n : ℕ) (numbers : List ℕ) → 1 ≤ length numbers → All (λ m. (1 ≤ m) × (m ≤ n)) numbers → Contains (stands_of n numbers) true
stands_somewhere n [] some all = absurd (omega arith)
stands_somewhere n (m ∷ numbers) some all =
    let bounds = all 0 0 (omega arith) in
    let k : m - 1 < n = omega (arith, bounds.0, bounds.1) in
    let at : get_or (stands_of n (m ∷ numbers)) (m - 1) true ≡ list_any (λ i. i == m) (m ∷ numbers) = get_or-map-range_with_len
    (λ d. list_any (λ i. i == d) (m ∷ numbers)) 1 n (m - 1) m true k (omega (arith, bounds.0)) in
    let here : eqb m m ≡ true = eq-eqb m m refl in
    (m - 1, omega (arith, length-map-range_with_len (λ d. list_any (λ i. i == d) (m ∷ numbers)) 1 n), at ∙ rw here refl)

-- what a table says about each part of a group
pub record SaidGroup (n : ℕ) (d : Data) (x : Group) : Type 0 where
  pub name : (get (codes "name") d >>= name_of) ≡ Some x.name
  pub values : List Data
  pub found : (get (codes "stands") d >>= values_of) ≡ Some values
  pub numbers : List ℕ
  pub read : each (number_within 1 n) values ≡ Some numbers
  pub stands : x.stands ≡ stands_of n numbers

pub group_said : (n : ℕ) (d : Data) (x : Group) → group_from n d ≡ Some x → SaidGroup n d x
group_said n d x e =
    let a = bind_some (get (codes "name") d >>= name_of) (λ name. (get (codes "stands") d >>= values_of) >>= λ values.
    each (number_within 1 n) values >>= λ numbers. Some (record { name = name; stands = stands_of n numbers })) x e in
    let b = bind_some (get (codes "stands") d >>= values_of) (λ values. each (number_within 1 n) values >>= λ numbers. Some (record { name = a.0; stands = stands_of n numbers })) x a.2 in
    let c = bind_some (each (number_within 1 n) b.0) (λ numbers. Some (record { name = a.0; stands = stands_of n numbers })) x b.2 in
    let made : Group = record { name = a.0; stands = stands_of n c.0 } in
    subst (λ (y : Group). SaidGroup n d y) (some_is made x c.2) (record { name = a.1; values = b.0; found = b.1; numbers = c.0; read = c.1; stands = refl })

pub group_from-some : (n : ℕ) (d : Data) (x : Group) → group_from n d ≡ Some x → HasName d x.name × (length x.stands ≡ n) × Contains x.stands true
group_from-some n d x e =
    let said = group_said n d x e in
    let v = bind_some (get (codes "stands") d) values_of said.values said.found in
    let some = (values_of-some v.0 said.values v.2).0 in
    let long = length-each (number_within 1 n) said.values said.numbers said.read in
    let bounds = each-all (λ m. (1 ≤ m) × (m ≤ n)) (number_within 1 n) (λ d m. number_within-bounds 1 n d m) said.values said.numbers said.read in
    let stands = subst (λ (l : List Bool). (length l ≡ n) × Contains l true) (sym said.stands)
    (length-map-range_with_len (λ d. list_any (λ i. i == d) said.numbers) 1 n, stands_somewhere n said.numbers (omega arith) bounds) in
    (has_name d x.name said.name, stands.0, stands.1)
