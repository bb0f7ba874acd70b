-- What holds for the parts of a set-up within its limits.
use Rattle.std.proofs.Common.{◌≡◌, ◌≤◌, ◌^◌, ◌<◌, ◌∙◌, ℕ, List, [], ◌∷◌, length, map, get_or, sym, ap, subst, refl, arith}
use Rattle.std.specs.Prelude.{All, Any, Some, slice_get}
use Rattle.std.specs.Option.{option_map}
use Rattle.std.proofs.lemmas.List.{length-map}
use Rattle.std.proofs.lemmas.Option.{slice_get-map, slice_get_read}
use Rattle.std.proofs.Math.ListN.{get_or-map}
use Rattle.std.proofs.lemmas.List.Elements.{All-map, All-weaker}
use Rattle.zh_districts.specs.Canton as canton
use Rattle.zh_districts.specs.Canton.{Canton, IsCanton}
use Rattle.zh_districts.specs.Seats.{persons}
use Rattle.zh_districts.specs.Inside.{canton_of}
use Rattle.zh_districts.specs.Parts.{group, constituency}
use Rattle.zh_districts.specs.declared.setup.Setup.TheInside.{Inside}
use Rattle.zh_districts.specs.declared.setup.Group.{Group}
use Rattle.zh_districts.specs.declared.setup.Constituency.{Constituency}

-- what holds for each image holds for the image of the element at place k
pub image_at : {X Y : Type 0} (P : Y → Type 0) (f : X → Y) (xs : List X) (k : ℕ) (x : X) → All P (map f xs) → k < length xs → x ≡ get_or xs k x → P (f x)
image_at P f xs k x all k_in x_is =
    subst P (get_or-map f xs k x ∙ ap f (sym x_is)) (all k (f x) (subst (λ n. k < n) (sym (length-map xs f)) k_in))

-- the image at place k
pub image_is : {X Y : Type 0} (f : X → Y) (xs : List X) (k : ℕ) (x : X) → k < length xs → x ≡ get_or xs k x → slice_get (map f xs) k ≡ Some (f x)
image_is f xs k x k_in x_is = slice_get-map f xs k ∙ ap (option_map f) (slice_get_read xs (length xs) k x refl k_in x_is)

-- the group at place k has one mark for each constituency
pub columns_of : (s : Inside) → IsCanton (canton_of s) → (k : ℕ) (x : Group) → k < length s.groups.items → x ≡ get_or s.groups.items k x → length x.stands.items ≡ length s.constituencies.items
columns_of s limits k x k_in x_is =
    image_at (λ g. length g.stands ≡ length (canton_of s).constituencies) group s.groups.items k x limits.stands k_in x_is ∙ length-map s.constituencies.items constituency

-- the persons of the constituencies are those of their contents
pub persons_map : (xs : List Constituency) → map (λ x. x.persons) (map constituency xs) ≡ map (λ x. x.persons) xs
persons_map [] = refl
persons_map (x ∷ xs) = ap (λ ys. x.persons ∷ ys) (persons_map xs)

-- the persons of a canton within its limits are small enough to be weights
pub persons_small : (s : Canton) → IsCanton s → All (λ w. w ≤ 10 ^ 14) (persons s)
persons_small s limits =
    All-map (λ w. w ≤ 10 ^ 14) (λ x. x.persons) s.constituencies
    (All-weaker (λ x. (1 ≤ x.persons) × (x.persons ≤ 10000000)) (λ x. x.persons ≤ 10 ^ 14) (λ x h. omega (arith, h.1)) s.constituencies limits.persons)

first_positive : (xs : List ℕ) → 1 ≤ length xs → All (λ w. 1 ≤ w) xs → Any (λ w. 0 < w) xs
first_positive [] some all = absurd (omega arith)
first_positive (x ∷ xs) some all = (0, x, omega arith, refl, omega (arith, all 0 0 (omega arith)))

-- the first of them is positive
pub persons_positive : (s : Canton) → IsCanton s → Any (λ w. 0 < w) (persons s)
persons_positive s limits =
    let all = All-map (λ w. 1 ≤ w) (λ x. x.persons) s.constituencies
    (All-weaker (λ x. (1 ≤ x.persons) × (x.persons ≤ 10000000)) (λ x. 1 ≤ x.persons) (λ x h. h.0) s.constituencies limits.persons) in
    first_positive (persons s) (omega (arith, limits.constituencies.0, length-map s.constituencies (λ (x : canton.Constituency). x.persons))) all
