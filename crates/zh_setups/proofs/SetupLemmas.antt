-- The set-up that a document describes.
use Rattle.std.proofs.Common.{◌≡◌, ℕ, ◌≤◌, true, false, ◌||◌, List, length, map, All, Option, Some, None, codes, refl, subst, arith}
use Rattle.std.specs.Prelude.{Contains, IfSome}
use Rattle.std.specs.List.{list_any}
use Rattle.std.proofs.lemmas.Bool.{or_parts}
use Rattle.toml.specs.Data.{Data, Members, get_member}
use Rattle.zh_districts.specs.Canton.{Canton, Constituency, Municipality, Group, AreNames, IsCanton}
use Rattle.zh_setups.specs.Keys.{tables_at}
use Rattle.zh_setups.specs.Document.{◌>>=◌, number_within, each, values_at, constituency_from, municipality_from, group_from, quorum_of}
use Rattle.zh_setups.specs.Document.{setup_of, same_name, same_number, stands_in, repeats, has_double}
use Rattle.zh_setups.proofs.PartLemmas.{parts_said}
use Rattle.zh_setups.proofs.ValueLemmas.{bind_some, some_is, number_within-bounds, HasName, length-each, each-all, each-named, are_names}
use Rattle.zh_setups.proofs.ValueLemmas.{values_at-some, constituency_from-some, municipality_from-some, group_from-some}

-- the parts of one kind, read at their key
pub record ArePartsOf {X : Type 0} (key : List ℕ) (most : ℕ) (name : X → List ℕ) (P : X → Type 0) (document : Members) (xs : List X) : Type 0 where
  pub some : 1 ≤ length xs
  pub few : length xs ≤ most
  pub all : All P xs
  pub names : repeats same_name (tables_at key document) ≡ false → AreNames (map name xs)

parts_of : {X : Type 0} (key : List ℕ) (most : ℕ) (name : X → List ℕ) (P : X → Type 0) (f : Data → Option X)
    → ((d : Data) (x : X) → f d ≡ Some x → HasName d (name x)) → ((d : Data) (x : X) → f d ≡ Some x → P x)
    → (document : Members) (xs : List X) → (values_at key most document >>= each f) ≡ Some xs → ArePartsOf key most name P document xs
parts_of key most name P f named says document xs e =
    let a = bind_some (values_at key most document) (each f) xs e in
    let v = values_at-some key most document a.0 a.1 in
    let len = length-each f a.0 xs a.2 in
    let n = each-named name f named a.0 xs a.2 in
    record {
      some = omega (arith, v.0);
      few = omega (arith, v.1);
      all = each-all P f says a.0 xs a.2;
      names = λ h. are_names name a.0 xs n (subst (λ (ds : List Data). repeats same_name ds ≡ false) (v.2 n.kind) h);
    }

abbrev persons_within : Constituency → Type 0
persons_within x = (1 ≤ x.persons) × (x.persons ≤ 10000000)

abbrev lies_within : ℕ → Municipality → Type 0
lies_within n x = (1 ≤ x.constituency) × (x.constituency ≤ n)

abbrev stands_within : ℕ → Group → Type 0
stands_within n x = (length x.stands ≡ n) × Contains x.stands true

pub constituencies_read : (document : Members) (xs : List Constituency)
    → (values_at (codes "constituency") 32 document >>= each constituency_from) ≡ Some xs → ArePartsOf (codes "constituency") 32
    (λ x. x.name) persons_within document xs
constituencies_read = parts_of (codes "constituency") 32 (λ x. x.name) persons_within constituency_from
    (λ d x e. (constituency_from-some d x e).0) (λ d x e. let h = constituency_from-some d x e in (h.1, h.2))

municipalities_read : (n : ℕ) (document : Members) (xs : List Municipality)
    → (values_at (codes "municipality") 512 document >>= each (municipality_from n)) ≡ Some xs → ArePartsOf (codes "municipality") 512
    (λ x. x.name) (lies_within n) document xs
municipalities_read n = parts_of (codes "municipality") 512 (λ x. x.name) (lies_within n) (municipality_from n)
    (λ d x e. (municipality_from-some n d x e).0) (λ d x e. let h = municipality_from-some n d x e in (h.1, h.2))

groups_read : (n : ℕ) (document : Members) (xs : List Group) → (values_at (codes "group") 32 document >>= each (group_from n)) ≡ Some xs
    → ArePartsOf (codes "group") 32 (λ x. x.name) (stands_within n) document xs
groups_read n = parts_of (codes "group") 32 (λ x. x.name) (stands_within n) (group_from n) (λ d x e. (group_from-some n d x e).0) (λ d x e. let h = group_from-some n d x e in (h.1, h.2))

-- a canton-wide quorum that was read is within its limits
quorum_of-bounds : (found : Option Data) (quorum : Option ℕ) → quorum_of found ≡ Some quorum → IfSome quorum (λ q. (1 ≤ q) × (q ≤ 49))
quorum_of-bounds None quorum e = subst (λ (o : Option ℕ). IfSome o (λ q. (1 ≤ q) × (q ≤ 49))) (some_is None quorum e) tt
quorum_of-bounds (Some value) quorum e =
    let n = bind_some (number_within 1 49 value) (λ q. Some (Some q)) quorum e in
    subst (λ (o : Option ℕ). IfSome o (λ q. (1 ≤ q) × (q ≤ 49))) (some_is (Some n.0) quorum n.2) (number_within-bounds 1 49 value n.0 n.1)

-- a set-up that a document describes is within the limits if nothing in it is double
pub IsCanton-from_document : (document : Members) (canton : Canton) → setup_of document ≡ Some canton → has_double document ≡ false → IsCanton canton
IsCanton-from_document document canton e single =
    let parts = parts_said document canton e in
    let n = length canton.constituencies in
    let hb = bind_some (get_member (codes "house") document) (number_within 1 400) canton.house parts.house in
    let cs = constituencies_read document canton.constituencies parts.constituencies in
    let ms = municipalities_read n document canton.municipalities parts.municipalities in
    let gs = groups_read n document canton.groups parts.groups in
    let names = repeats same_name (tables_at (codes "constituency") document) in
    let names' = repeats same_name (tables_at (codes "municipality") document) in
    let names'' = repeats same_name (tables_at (codes "group") document) in
    let o = or_parts (names || names' || names'') (list_any (λ value. repeats same_number (stands_in value)) (tables_at (codes "group") document)) single in
    let o' = or_parts (names || names') names'' o.0 in
    let o'' = or_parts names names' o'.0 in
    record {
      house = number_within-bounds 1 400 hb.0 canton.house hb.2;
      constituencies = (cs.some, cs.few);
      municipalities = (ms.some, ms.few);
      groups = (gs.some, gs.few);
      persons = cs.all;
      within = ms.all;
      stands = λ k d lt. (gs.all k d lt).0;
      somewhere = λ k d lt. (gs.all k d lt).1;
      constituency_names = cs.names o''.0;
      municipality_names = ms.names o''.1;
      group_names = gs.names o'.1;
      canton_quorum = quorum_of-bounds (get_member (codes "canton_quorum") document) canton.canton_quorum parts.quorum;
    }

-- if the municipalities, or the groups, can't be read, there is no set-up
pub no_municipalities : (document : Members) (v h n : ℕ) (cs : List Constituency)
    → (get_member (codes "version") document >>= number_within 1 2) ≡ Some v → (get_member (codes "house") document >>= number_within 1 400) ≡ Some h
    → (values_at (codes "constituency") 32 document >>= each constituency_from) ≡ Some cs → length cs ≡ n
    → (values_at (codes "municipality") 512 document >>= each (municipality_from n)) ≡ None → setup_of document ≡ None
no_municipalities document v h n cs e f g len none = rw (e, f, g, len, none) refl

pub no_groups : (document : Members) (v h n : ℕ) (cs : List Constituency) (ms : List Municipality)
    → (get_member (codes "version") document >>= number_within 1 2) ≡ Some v → (get_member (codes "house") document >>= number_within 1 400) ≡ Some h
    → (values_at (codes "constituency") 32 document >>= each constituency_from) ≡ Some cs → length cs ≡ n → (values_at (codes "municipality") 512 document >>= each (municipality_from n)) ≡ Some ms
    → (values_at (codes "group") 32 document >>= each (group_from n)) ≡ None → setup_of document ≡ None
no_groups document v h n cs ms e f g len m none = rw (e, f, g, len, m, none) refl

-- the same if the canton-wide quorum can't be read
pub no_quorum : (document : Members) (v h n : ℕ) (cs : List Constituency) (ms : List Municipality) (gs : List Group) → (get_member (codes "version") document >>= number_within 1 2) ≡ Some v
    → (get_member (codes "house") document >>= number_within 1 400) ≡ Some h → (values_at (codes "constituency") 32 document >>= each constituency_from) ≡ Some cs → length cs ≡ n
    → (values_at (codes "municipality") 512 document >>= each (municipality_from n)) ≡ Some ms → (values_at (codes "group") 32 document >>= each (group_from n)) ≡ Some gs
    → quorum_of (get_member (codes "canton_quorum") document) ≡ None → setup_of document ≡ None
no_quorum document v h n cs ms gs e f g len m k none = rw (e, f, g, len, m, k, none) refl

-- the set-up that is made of its parts
pub setup_read : (document : Members) (v h n : ℕ) (cs : List Constituency) (ms : List Municipality) (gs : List Group) (q : Option ℕ)
    → (get_member (codes "version") document >>= number_within 1 2) ≡ Some v
    → (get_member (codes "house") document >>= number_within 1 400) ≡ Some h → (values_at (codes "constituency") 32 document >>= each constituency_from) ≡ Some cs → length cs ≡ n
    → (values_at (codes "municipality") 512 document >>= each (municipality_from n)) ≡ Some ms → (values_at (codes "group") 32 document >>= each (group_from n)) ≡ Some gs
    → quorum_of (get_member (codes "canton_quorum") document) ≡ Some q
    → setup_of document ≡ Some (record { house = h; constituencies = cs; municipalities = ms; groups = gs; canton_quorum = q })
setup_read document v h n cs ms gs q e f g len m k r = rw (e, f, g, len, m, k, r) refl
