-- Equal bytes spell equal set-ups.
use Rattle.std.proofs.Common.{◌≡◌, ℕ, ◌^◌, ◌<◌, ◌≤◌, Bool, true, false, Option, Some, None, List, [], ◌∷◌, ◌++◌, length, get_or, drop, All, refl, sym, ap, subst, ◌∙◌, arith, append_assoc}
use Rattle.std.specs.Prelude.{IfSome}
use Rattle.std.specs.Int.{w16, w32, to_be_bytes, from_be_bytes}
use Rattle.std.specs.List.{flat_map, AllByRecursion}
use Rattle.std.proofs.lemmas.List.Concat.{flat_map-cons}
use Rattle.std.proofs.lemmas.List.Elements.{recursion_from_All, All-weaker}
use Rattle.std.proofs.lemmas.Nat.{from_be_bytes-to_be_bytes_2, from_be_bytes-to_be_bytes_4}
use Rattle.zh_districts.specs.Canton.{Canton, Constituency, Municipality, Group, IsCanton}
use Rattle.zh_districts.specs.Spelling.{name_spelling, mask_of, constituency_spelling, municipality_spelling, group_spelling, quorum_spelling, setup_spelling}
use Rattle.zh_districts.proofs.MaskLemmas.{mask_of-fits}

-- if two texts are equal, their fronts of the same length are equal, and so are the rests
same_front : (a b c d : List ℕ) → length a ≡ length b → a ++ c ≡ b ++ d → (a ≡ b) × (c ≡ d)
same_front [] [] c d len e = (refl, e)
same_front [] (y ∷ b) c d len e = absurd (omega arith)
same_front (x ∷ a) [] c d len e = absurd (omega arith)
same_front (x ∷ a) (y ∷ b) c d len e =
    let first : x ≡ y = ap (λ (xs : List ℕ). get_or xs 0 0) e in
    let others = same_front a b c d (omega arith) (ap (drop 1) e) in
    (rw (first, others.0) refl, others.1)

same_16 : (m n : ℕ) → m < 2 ^ 16 → n < 2 ^ 16 → to_be_bytes w16 m ≡ to_be_bytes w16 n → m ≡ n
same_16 m n lm ln e = sym (from_be_bytes-to_be_bytes_2 m lm) ∙ ap (from_be_bytes w16) e ∙ from_be_bytes-to_be_bytes_2 n ln

same_32 : (m n : ℕ) → m < 2 ^ 32 → n < 2 ^ 32 → to_be_bytes w32 m ≡ to_be_bytes w32 n → m ≡ n
same_32 m n lm ln e = sym (from_be_bytes-to_be_bytes_4 m lm) ∙ ap (from_be_bytes w32) e ∙ from_be_bytes-to_be_bytes_4 n ln

same_name : (a b c d : List ℕ) → name_spelling a ++ c ≡ name_spelling b ++ d → (a ≡ b) × (c ≡ d)
same_name a b c d e =
    let len : length a ≡ length b = ap (λ (xs : List ℕ). get_or xs 0 0) e in
    same_front a b c d len (ap (drop 1) e)

-- equal masks of the same number of places have equal places
same_mask : (xs ys : List Bool) → length xs ≡ length ys → mask_of xs ≡ mask_of ys → xs ≡ ys
same_mask [] [] len e = refl
same_mask [] (y ∷ ys) len e = absurd (omega arith)
same_mask (x ∷ xs) [] len e = absurd (omega arith)
same_mask (true ∷ xs) (true ∷ ys) len e = ap (λ (t : List Bool). true ∷ t) (same_mask xs ys (omega arith) (omega arith))
same_mask (false ∷ xs) (false ∷ ys) len e = ap (λ (t : List Bool). false ∷ t) (same_mask xs ys (omega arith) (omega arith))
same_mask (true ∷ xs) (false ∷ ys) len e = absurd (omega arith)
same_mask (false ∷ xs) (true ∷ ys) len e = absurd (omega arith)

-- equal fields make equal parts
abbrev a_constituency : List ℕ → ℕ → Constituency
a_constituency name persons = record { name = name; persons = persons }

same_constituency : (x y : Constituency) → x.name ≡ y.name → x.persons ≡ y.persons → x ≡ y
same_constituency x y e f = ap (λ (name : List ℕ). a_constituency name x.persons) e ∙ ap (a_constituency y.name) f

abbrev a_municipality : List ℕ → ℕ → Municipality
a_municipality name constituency = record { name = name; constituency = constituency }

same_municipality : (x y : Municipality) → x.name ≡ y.name → x.constituency ≡ y.constituency → x ≡ y
same_municipality x y e f = ap (λ (name : List ℕ). a_municipality name x.constituency) e ∙ ap (a_municipality y.name) f

abbrev a_group : List ℕ → List Bool → Group
a_group name stands = record { name = name; stands = stands }

same_group : (x y : Group) → x.name ≡ y.name → x.stands ≡ y.stands → x ≡ y
same_group x y e f = ap (λ (name : List ℕ). a_group name x.stands) e ∙ ap (a_group y.name) f

abbrev a_canton : ℕ → List Constituency → List Municipality → List Group → Option ℕ → Canton
a_canton house constituencies municipalities groups quorum =
    record { house = house; constituencies = constituencies; municipalities = municipalities; groups = groups; canton_quorum = quorum }

same_parts : (a b : Canton) → a.house ≡ b.house → a.constituencies ≡ b.constituencies → a.municipalities ≡ b.municipalities → a.groups ≡ b.groups
    → a.canton_quorum ≡ b.canton_quorum → a ≡ b
same_parts a b e f g h q =
    ap (λ (x : ℕ). a_canton x a.constituencies a.municipalities a.groups a.canton_quorum) e
    ∙ ap (λ (x : List Constituency). a_canton b.house x a.municipalities a.groups a.canton_quorum) f
    ∙ ap (λ (x : List Municipality). a_canton b.house b.constituencies x a.groups a.canton_quorum) g
    ∙ ap (λ (x : List Group). a_canton b.house b.constituencies b.municipalities x a.canton_quorum) h
    ∙ ap (a_canton b.house b.constituencies b.municipalities b.groups) q

-- equal bytes spell equal quorums within the limits
same_quorum : (p q : Option ℕ) → IfSome p (λ x. (1 ≤ x) × (x ≤ 49)) → IfSome q (λ x. (1 ≤ x) × (x ≤ 49)) → quorum_spelling p ≡ quorum_spelling q → p ≡ q
same_quorum None None hp hq e = refl
same_quorum None (Some n) hp hq e = absurd (omega (arith, ap length e))
same_quorum (Some m) None hp hq e = absurd (omega (arith, ap length e))
same_quorum (Some m) (Some n) hp hq e = ap (λ (x : ℕ). Some x) (same_16 m n (omega (arith, hp.1)) (omega (arith, hq.1)) e)

-- what f writes for each x with the property P determines x and where it ends
abbrev Describes : {X : Type 0} → (X → Type 0) → (X → List ℕ) → Type 0
Describes {X} P f = (x y : X) (c d : List ℕ) → P x → P y → f x ++ c ≡ f y ++ d → (x ≡ y) × (c ≡ d)

constituencies_tell : Describes (λ (x : Constituency). x.persons < 2 ^ 32) constituency_spelling
constituencies_tell x y c d px py e =
    let apart = same_front (to_be_bytes w32 x.persons) (to_be_bytes w32 y.persons) (name_spelling x.name ++ c) (name_spelling y.name ++ d)
    refl (sym (append_assoc (to_be_bytes w32 x.persons) (name_spelling x.name) c) ∙ e ∙ append_assoc (to_be_bytes w32 y.persons)
    (name_spelling y.name) d) in
    let persons = same_32 x.persons y.persons px py apart.0 in
    let name = same_name x.name y.name c d apart.1 in
    (same_constituency x y name.0 persons, name.1)

municipalities_tell : Describes (λ (x : Municipality). Unit {0}) municipality_spelling
municipalities_tell x y c d px py e =
    let number : x.constituency ≡ y.constituency = ap (λ (xs : List ℕ). get_or xs 0 0) e in
    let name = same_name x.name y.name c d (ap (drop 1) e) in
    (same_municipality x y name.0 number, name.1)

groups_tell : (n : ℕ) → n ≤ 32 → Describes (λ (x : Group). length x.stands ≡ n) group_spelling
groups_tell n few x y c d px py e =
    let apart = same_front (to_be_bytes w32 (mask_of x.stands)) (to_be_bytes w32 (mask_of y.stands)) (name_spelling x.name ++ c)
    (name_spelling y.name ++ d) refl (sym (append_assoc (to_be_bytes w32 (mask_of x.stands)) (name_spelling x.name) c) ∙ e
    ∙ append_assoc (to_be_bytes w32 (mask_of y.stands)) (name_spelling y.name) d) in
    let mask = same_32 (mask_of x.stands) (mask_of y.stands) (mask_of-fits 32 x.stands (omega arith)) (mask_of-fits 32 y.stands (omega arith)) apart.0 in
    let stands = same_mask x.stands y.stands (px ∙ sym py) mask in
    let name = same_name x.name y.name c d apart.1 in
    (same_group x y name.0 stands, name.1)

-- the same for lists of the same number of parts
parts_determine : {X : Type 0} (P : X → Type 0) (f : X → List ℕ) → Describes P f → (xs ys : List X) (c d : List ℕ) → length xs ≡ length ys
    → AllByRecursion P xs → AllByRecursion P ys → flat_map f xs ++ c ≡ flat_map f ys ++ d → (xs ≡ ys) × (c ≡ d)
parts_determine P f determines [] [] c d len px py e = (refl, e)
parts_determine P f determines [] (y ∷ ys) c d len px py e = absurd (omega arith)
parts_determine P f determines (x ∷ xs) [] c d len px py e = absurd (omega arith)
parts_determine P f determines (x ∷ xs) (y ∷ ys) c d len px py e =
    let left = ap (λ (t : List ℕ). t ++ c) (flat_map-cons f x xs) ∙ append_assoc (f x) (flat_map f xs) c in
    let right = ap (λ (t : List ℕ). t ++ d) (flat_map-cons f y ys) ∙ append_assoc (f y) (flat_map f ys) d in
    let first = determines x y (flat_map f xs ++ c) (flat_map f ys ++ d) px.0 py.0 (sym left ∙ e ∙ right) in
    let others = parts_determine P f determines xs ys c d (omega arith) px.1 py.1 first.1 in
    (rw (first.0, others.0) refl, others.1)

-- the bytes after the house, after the constituencies, and after the municipalities
abbrev after_municipalities : Canton → List ℕ
after_municipalities canton = length canton.groups ∷ (flat_map group_spelling canton.groups ++ quorum_spelling canton.canton_quorum)

abbrev after_constituencies : Canton → List ℕ
after_constituencies canton = to_be_bytes w16 (length canton.municipalities) ++ (flat_map municipality_spelling canton.municipalities ++ after_municipalities canton)

abbrev after_house : Canton → List ℕ
after_house canton = length canton.constituencies ∷ (flat_map constituency_spelling canton.constituencies ++ after_constituencies canton)

regrouped : (canton : Canton) → setup_spelling canton ≡ to_be_bytes w16 canton.house ++ after_house canton
regrouped canton = simp append_assoc

pub same_setup : (a b : Canton) → IsCanton a → IsCanton b → setup_spelling a ≡ setup_spelling b → a ≡ b
same_setup a b ha hb e =
    let start = same_front (to_be_bytes w16 a.house) (to_be_bytes w16 b.house) (after_house a) (after_house b) refl (sym (regrouped a) ∙ e ∙ regrouped b) in
    let house = same_16 a.house b.house (omega (arith, ha.house.1)) (omega (arith, hb.house.1)) start.0 in
    let count : length a.constituencies ≡ length b.constituencies = ap (λ (xs : List ℕ). get_or xs 0 0) start.1 in
    let P = λ (x : Constituency). x.persons < 2 ^ 32 in
    let fits : (canton : Canton) → IsCanton canton → AllByRecursion P canton.constituencies = λ canton h.
    recursion_from_All P canton.constituencies (All-weaker (λ (x : Constituency). (1 ≤ x.persons) × (x.persons ≤ 10000000)) P
    (λ x p. omega (arith, p.1)) canton.constituencies h.persons) in
    let constituencies = parts_determine P constituency_spelling constituencies_tell a.constituencies b.constituencies
    (after_constituencies a) (after_constituencies b) count (fits a ha) (fits b hb) (ap (drop 1) start.1) in
    let then = same_front (to_be_bytes w16 (length a.municipalities)) (to_be_bytes w16 (length b.municipalities))
    (flat_map municipality_spelling a.municipalities ++ after_municipalities a) (flat_map municipality_spelling b.municipalities
    ++ after_municipalities b) refl constituencies.1 in
    let count' : length a.municipalities ≡ length b.municipalities = same_16 (length a.municipalities) (length b.municipalities)
    (omega (arith, ha.municipalities.1)) (omega (arith, hb.municipalities.1)) then.0 in
    let Q = λ (x : Municipality). Unit {0} in
    let all_of : (xs : List Municipality) → AllByRecursion Q xs = λ xs. recursion_from_All Q xs (λ k d lt. tt) in
    let municipalities = parts_determine Q municipality_spelling municipalities_tell a.municipalities b.municipalities
    (after_municipalities a) (after_municipalities b) count' (all_of a.municipalities) (all_of b.municipalities) then.1 in
    let count'' : length a.groups ≡ length b.groups = ap (λ (xs : List ℕ). get_or xs 0 0) municipalities.1 in
    let n = length a.constituencies in
    let R = λ (x : Group). length x.stands ≡ n in
    let ga : AllByRecursion R a.groups = recursion_from_All R a.groups ha.stands in
    let gb : AllByRecursion R b.groups = recursion_from_All R b.groups (subst (λ (m : ℕ). All (λ (x : Group). length x.stands ≡ m) b.groups) (sym count) hb.stands) in
    let groups = parts_determine R group_spelling (groups_tell n ha.constituencies.1) a.groups b.groups (quorum_spelling a.canton_quorum)
    (quorum_spelling b.canton_quorum) count'' ga gb (ap (drop 1) municipalities.1) in
    let quorum = same_quorum a.canton_quorum b.canton_quorum ha.canton_quorum hb.canton_quorum groups.1 in
    same_parts a b house constituencies.0 municipalities.0 groups.0 quorum
