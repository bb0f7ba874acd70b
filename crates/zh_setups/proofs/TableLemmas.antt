-- The table of a set-up text describes the set-up, part by part.
use Rattle.std.proofs.Common.{◌≡◌, ℕ, ◌≤◌, Bool, true, false, cond, nat_le, List, length, map, Option, Some, None, option_map}
use Rattle.std.proofs.Common.{option_and_then, Result, Ok, Err, pos, codes, refl, sym, ap, subst, ◌∙◌, inl, inr, arith}
use Rattle.std.specs.Prelude.{◌⊎◌, IfOk}
use Rattle.std.specs.List.{AllZip}
use Rattle.std.proofs.lemmas.Bool.{cases_lt}
use Rattle.toml.specs.Data.{Data, Members, string, integer, get, get_member, as_array}
use Rattle.zh_districts.specs.Canton.{Canton, Constituency, Municipality, Group}
use Rattle.zh_setups.specs.Keys.{list_of, tables_at, knows_keys, known_keys, has_other_key}
use Rattle.zh_setups.specs.Document.{◌>>=◌, number_within, name_of, each, values_of, values_at, constituency_from, municipality_from, group_from, quorum_of, setup_of, undoubled, checked}
use Rattle.zh_setups.specs.Outcomes.{Gives}
use Rattle.zh_setups.specs.SetupText.{ConstituencyOf, MunicipalityOf, GroupOf, HasVersion, SetupOf}
use Rattle.zh_setups.specs.declared.text.SetupFault.{SetupFault}
use Rattle.zh_setups.specs.declared.text.SetupFault.TheVariants.{Missing, Unknown}
use Rattle.zh_setups.proofs.KeyLemmas.{knows_top, no_quorum_key}
use Rattle.zh_setups.proofs.PartLemmas.{parts_said}
use Rattle.zh_setups.proofs.ValueLemmas.{bind_some, some_is, guard_some, name_of-some, number_within-bounds, number_within-some, HasName, each-holds, each-named}
use Rattle.zh_setups.proofs.ValueLemmas.{values_at-some, constituency_from-some, constituency_said, municipality_from-some, municipality_said, group_from-some, group_said}

-- the value of a number, or of a name, that was read
number_found : (found : Option Data) (low high n : ℕ) → (found >>= number_within low high) ≡ Some n → found ≡ Some (integer (pos n))
number_found found low high n e =
    let b = bind_some found (number_within low high) n e in
    b.1 ∙ ap (λ (d : Data). Some d) (number_within-some low high b.0 n b.2).0

name_found : (found : Option Data) (name : List ℕ) → (found >>= name_of) ≡ Some name → found ≡ Some (string name)
name_found found name e =
    let b = bind_some found name_of name e in
    b.1 ∙ ap (λ (d : Data). Some d) (name_of-some b.0 name b.2).0

constituency_from-holds : (d : Data) (x : Constituency) → constituency_from d ≡ Some x → ConstituencyOf d x
constituency_from-holds d x e =
    let said = constituency_said d x e in
    (name_found (get (codes "name") d) x.name said.0, number_found (get (codes "persons") d) 1 10000000 x.persons said.1)

municipality_from-holds : (n : ℕ) (d : Data) (x : Municipality) → municipality_from n d ≡ Some x → MunicipalityOf d x
municipality_from-holds n d x e =
    let said = municipality_said n d x e in
    (name_found (get (codes "name") d) x.name said.0, number_found (get (codes "constituency") d) 1 n x.constituency said.1)

-- the numbers that were read are the values as they are in the text
each_number : (low high : ℕ) (ds : List Data) (ns : List ℕ) → each (number_within low high) ds ≡ Some ns → ds ≡ map (λ n. integer (pos n)) ns
each_number low high ds ns e =
    each-holds (λ d n. d ≡ integer (pos n)) (number_within low high) (λ d n e. (number_within-some low high d n e).0) (λ ds ns. ds ≡ map (λ n. integer (pos n)) ns) refl
    (λ d n ds ns first others. rw (first, others) refl) ds ns e

values_of-is : (d : Data) (ds : List Data) → values_of d ≡ Some ds → option_map list_of (as_array d) ≡ Some ds
values_of-is d ds e =
    let a = bind_some (as_array d) (λ items. cond (nat_le 1 (length (list_of items))) (Some (list_of items)) None) ds e in
    let g = guard_some (nat_le 1 (length (list_of a.0))) (list_of a.0) ds a.2 in
    rw (a.1, g.1) refl

-- the values of an array that was read
values_found : (found : Option Data) (ds : List Data) → (found >>= values_of) ≡ Some ds → option_map list_of (option_and_then as_array found) ≡ Some ds
values_found None ds e = absurd cc
values_found (Some d) ds e = values_of-is d ds e

group_from-holds : (n : ℕ) (d : Data) (x : Group) → group_from n d ≡ Some x → GroupOf n d x
group_from-holds n d x e =
    let said = group_said n d x e in
    let listed : option_map list_of (option_and_then as_array (get (codes "stands") d)) ≡ Some (map (λ k. integer (pos k)) said.numbers) =
    values_found (get (codes "stands") d) said.values said.found ∙ ap (λ (ds : List Data). Some ds) (each_number 1 n said.values said.numbers said.read) in
    (name_found (get (codes "name") d) x.name said.name, (said.numbers, listed, said.stands))

-- the tables of the parts of one kind
zipped : {X : Type 0} (key : List ℕ) (most : ℕ) (name : X → List ℕ) (R : Data → X → Type 0) (f : Data → Option X)
    → ((d : Data) (x : X) → f d ≡ Some x → HasName d (name x)) → ((d : Data) (x : X) → f d ≡ Some x → R d x)
    → (document : Members) (xs : List X) → (values_at key most document >>= each f) ≡ Some xs → AllZip R (tables_at key document) xs
zipped key most name R f named holds document xs e =
    let a = bind_some (values_at key most document) (each f) xs e in
    let v = values_at-some key most document a.0 a.1 in
    let n = each-named name f named a.0 xs a.2 in
    let all : AllZip R a.0 xs = each-holds R f holds (λ ds ys. AllZip R ds ys) tt (λ d x ds ys h others. (h, others)) a.0 xs a.2 in
    subst (λ (ds : List Data). AllZip R ds xs) (sym (v.2 n.kind)) all

-- a canton-wide quorum that was read, or was absent
quorum_found : (found : Option Data) (quorum : Option ℕ) → quorum_of found ≡ Some quorum → found ≡ option_map (λ q. integer (pos q)) quorum
quorum_found None quorum e = ap (option_map (λ q. integer (pos q))) (some_is None quorum e)
quorum_found (Some value) quorum e =
    let n = bind_some (number_within 1 49 value) (λ q. Some (Some q)) quorum e in
    ap (λ (d : Data). Some d) (number_within-some 1 49 value n.0 n.1).0 ∙ ap (option_map (λ q. integer (pos q))) (some_is (Some n.0) quorum n.2)

-- version 1 has no canton-wide quorum
no_quorum_in_version_1 : (document : Members) (quorum : Option ℕ) → HasVersion document 1 → knows_keys (known_keys document) document ≡ true
    → quorum_of (get_member (codes "canton_quorum") document) ≡ Some quorum → quorum ≡ None
no_quorum_in_version_1 document quorum version knows e =
    sym (some_is None quorum (sym (ap quorum_of (no_quorum_key document version knows)) ∙ e))

one_or_two : (n : ℕ) → 1 ≤ n → n ≤ 2 → (n ≡ 1) ⊎ (n ≡ 2)
one_or_two n low high = elim (cases_lt n 2) [ inl less ↦ inl (omega arith) | inr not_less ↦ inr (omega arith) ]

-- the version of a document, which decides whether it can have a canton-wide quorum
version_of : (document : Members) (n : ℕ) (quorum : Option ℕ) → (get_member (codes "version") document >>= number_within 1 2) ≡ Some n → knows_keys (known_keys document) document ≡ true
    → quorum_of (get_member (codes "canton_quorum") document) ≡ Some quorum → (HasVersion document 1 × (quorum ≡ None)) ⊎ HasVersion document 2
version_of document n quorum e knows q =
    let found = number_found (get_member (codes "version") document) 1 2 n e in
    let vb = bind_some (get_member (codes "version") document) (number_within 1 2) n e in
    let bounds = number_within-bounds 1 2 vb.0 n vb.2 in
    elim (one_or_two n bounds.0 bounds.1) [
      | inl one ↦ let version : HasVersion document 1 = found ∙ ap (λ (k : ℕ). Some (integer (pos k))) one in inl (version, no_quorum_in_version_1 document quorum version knows q)
      | inr two ↦ inr (found ∙ ap (λ (k : ℕ). Some (integer (pos k))) two)
    ]

SetupOf-from_document : (document : Members) (canton : Canton) → has_other_key document ≡ false → setup_of document ≡ Some canton → SetupOf document canton
SetupOf-from_document document canton other e =
    let parts = parts_said document canton e in
    let n = length canton.constituencies in
    record {
      version = version_of document parts.version canton.canton_quorum parts.version_is (knows_top document other) parts.quorum;
      house = number_found (get_member (codes "house") document) 1 400 canton.house parts.house;
      constituencies = zipped (codes "constituency") 32 (λ x. x.name) ConstituencyOf constituency_from (λ d x e. (constituency_from-some d x e).0)
          constituency_from-holds document canton.constituencies parts.constituencies;
      municipalities = zipped (codes "municipality") 512 (λ x. x.name) MunicipalityOf (municipality_from n) (λ d x e. (municipality_from-some n d x e).0)
          (municipality_from-holds n) document canton.municipalities parts.municipalities;
      groups = zipped (codes "group") 32 (λ x. x.name) (GroupOf n) (group_from n) (λ d x e. (group_from-some n d x e).0)
          (group_from-holds n) document canton.groups parts.groups;
      canton_quorum = quorum_found (get_member (codes "canton_quorum") document) canton.canton_quorum parts.quorum;
    }

-- if every check passes, the result is the set-up
passes : (misses other double : Bool) (wanted : Option Canton) (canton : Canton)
    → cond misses (Err Missing) (cond other (Err Unknown) (undoubled double wanted)) ≡ Ok canton → (other ≡ false) × (wanted ≡ Some canton)
passes true other double wanted canton e = absurd cc
passes false true double wanted canton e = absurd cc
passes false false double None canton e = absurd cc
passes false false true (Some x) canton e = absurd cc
passes false false false (Some x) canton e = (refl, cc)

pub given_table : (document : Members) (r : Result Canton SetupFault) → Gives (λ s. s) r (checked document) → IfOk r (λ s. SetupOf document s)
given_table document (Ok s) h = let p = passes _ (has_other_key document) _ (setup_of document) s h in SetupOf-from_document document s p.0 p.1
given_table document (Err fault) h = tt
