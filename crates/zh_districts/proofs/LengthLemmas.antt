-- How long the names and the bytes of a set-up are.
use Rattle.std.proofs.Common.{ℕ, ◌*◌, ◌≤◌, Option, Some, None, List, [], ◌∷◌, length, get_or, map, All, IsTrue, subst, arith, length-append}
use Rattle.std.proofs.Math.Nat.{mul-le-mul_right}
use Rattle.std.specs.List.{flat_map}
use Rattle.std.proofs.lemmas.Bool.{and_parts, leb-true}
use Rattle.std.proofs.lemmas.List.{length-map}
use Rattle.std.proofs.lemmas.List.Concat.{flat_map-cons}
use Rattle.std.proofs.lemmas.List.Elements.{All-head, All-tail}
use Rattle.std.proofs.Math.ListN.{get_or-map}
use Rattle.zh_districts.specs.Canton.{Canton, is_name, AreNames, IsCanton}
use Rattle.zh_districts.specs.Spelling.{setup_spelling, constituency_spelling, municipality_spelling, group_spelling, quorum_spelling}

-- a name by the rule has at most 40 bytes
pub is_name-short : (name : List ℕ) → IsTrue (is_name name) → length name ≤ 40
is_name-short name h = leb-true (length name) 40 (and_parts _ _ (and_parts _ _ (and_parts _ _ (and_parts _ _ (and_parts _ _ h).1).0).0).0).1

-- the names of the parts of one kind have at most 40 bytes
pub short_names : {X : Type 0} (name : X → List ℕ) (xs : List X) → AreNames (map name xs) → All (λ x. length (name x) ≤ 40) xs
short_names name xs names k d k_in =
    is_name-short (name (get_or xs k d)) (subst (λ (x : List ℕ). IsTrue (is_name x)) (get_or-map name xs k d) (names.rule k (name d) (omega (arith, length-map xs name))))

-- parts that are joined, each of at most n bytes
length-flat_map : {X : Type 0} (f : X → List ℕ) (n : ℕ) (xs : List X) → All (λ x. length (f x) ≤ n) xs → length (flat_map f xs) ≤ length xs * n
length-flat_map f n [] all = omega arith
length-flat_map f n (x ∷ xs) all =
    let here = All-head (λ x. length (f x) ≤ n) x xs all in
    let others = length-flat_map f n xs (All-tail (λ x. length (f x) ≤ n) x xs all) in
    rw (flat_map-cons, length-append) (omega arith)

-- at most `most` parts of at most n bytes
length-parts : {X : Type 0} (f : X → List ℕ) (n most : ℕ) (xs : List X) → length xs ≤ most → All (λ x. length (f x) ≤ n) xs → length (flat_map f xs) ≤ most * n
length-parts f n most xs few all = let a = length-flat_map f n xs all in let b : length xs * n ≤ most * n = mul-le-mul_right n few in omega arith

-- the bytes of a canton-wide quorum
length-quorum_spelling : (quorum : Option ℕ) → length (quorum_spelling quorum) ≤ 2
length-quorum_spelling None = omega arith
length-quorum_spelling (Some q) = omega arith

-- the bytes of a set-up
pub length-setup_spelling : (canton : Canton) → IsCanton canton → length (setup_spelling canton) ≤ 24392
length-setup_spelling canton h =
    let a = length-parts constituency_spelling 45 32 canton.constituencies h.constituencies.1
    (λ k d lt. let s = short_names (λ x. x.name) canton.constituencies h.constituency_names k d lt in omega arith) in
    let b = length-parts municipality_spelling 42 512 canton.municipalities h.municipalities.1
    (λ k d lt. let s = short_names (λ x. x.name) canton.municipalities h.municipality_names k d lt in omega arith) in
    let c = length-parts group_spelling 45 32 canton.groups h.groups.1 (λ k d lt. let s = short_names (λ x. x.name) canton.groups h.group_names k d lt in omega arith) in
    let d = length-quorum_spelling canton.canton_quorum in
    simp length-append (omega arith)
