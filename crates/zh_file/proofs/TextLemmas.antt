-- What is known of texts does not change while a disk is opened.
use Rattle.std.proofs.Common.{◌≡◌, ◌∙◌, ℕ, List, [], Option, Some, None, sym, ap, subst, ⊎_elim}
use Rattle.std.proofs.Math.Path.{fun_ext}
use Rattle.std.proofs.lemmas.Bool.{cases_Bool}
use Rattle.std.proofs.lemmas.Bool.Decides.{not_from_Decides}
use Rattle.std.proofs.lemmas.Slice.Eq.{bytes_eq-Decides}
use Rattle.std.specs.Prelude.{bytes_eq}
use Rattle.zh_file.specs.Places.{IfKnown, IsBare, IsSameOrBare, IsSameOrMade, Places, Standing, TouchesOnly, bytes_of, companion_of, found_at}
use Rattle.zh_file.specs.Folder.{Folders, bytes_known}

made_bytes : (old new : Standing) → IsSameOrMade old new → bytes_of new ≡ bytes_of old
made_bytes old new made = ⊎_elim (λ same. ap bytes_of same) (λ it. ap bytes_of it.1 ∙ sym (ap bytes_of it.0)) made

no_bytes : (standing : Standing) → IsBare standing → bytes_of standing ≡ []
no_bytes standing bare = ⊎_elim (λ is. ap bytes_of is) (λ is. ap bytes_of is) bare

bare_bytes : (old new : Standing) → IsSameOrBare old new → bytes_of new ≡ bytes_of old
bare_bytes old new bare = ⊎_elim (λ same. ap bytes_of same) (λ both. no_bytes new both.1 ∙ sym (no_bytes old both.0)) bare

place_bytes : (path : List ℕ) (x y : Places) → TouchesOnly path x y → (place : List ℕ) → bytes_of (y.stands place) ≡ bytes_of (x.stands place)
place_bytes path x y touches place = ⊎_elim
    (λ here.
    let is = (bytes_eq-Decides place (x.leads path)).0 here in
    let disk : IsSameOrMade (x.stands (x.leads path)) (y.stands (x.leads path)) =
    subst (λ (l : List ℕ → List ℕ). IsSameOrMade (x.stands (x.leads path)) (y.stands (l path))) touches.leads touches.disk in
    subst (λ (p : List ℕ). bytes_of (y.stands p) ≡ bytes_of (x.stands p)) (sym is) (made_bytes _ _ disk))
    (λ other. ⊎_elim
    (λ beside.
    let is = (bytes_eq-Decides place (companion_of x path)).0 beside in
    subst (λ (p : List ℕ). bytes_of (y.stands p) ≡ bytes_of (x.stands p)) (sym is) (bare_bytes _ _ touches.companion))
    (λ far. ap bytes_of (touches.others place
    (not_from_Decides (bytes_eq place (x.leads path)) (bytes_eq-Decides place (x.leads path)) other)
    (not_from_Decides (bytes_eq place (companion_of x path)) (bytes_eq-Decides place (companion_of x path)) far)))
    (cases_Bool (bytes_eq place (companion_of x path))))
    (cases_Bool (bytes_eq place (x.leads path)))

path_bytes : (path : List ℕ) (x y : Places) → TouchesOnly path x y → (p : List ℕ) → bytes_of (found_at y p) ≡ bytes_of (found_at x p)
path_bytes path x y touches p =
    subst (λ (l : List ℕ → List ℕ). bytes_of (y.stands (l p)) ≡ bytes_of (found_at x p)) (sym touches.leads) (place_bytes path x y touches (x.leads p))

-- the texts are the same, as far as they are known
pub same_texts : (path : List ℕ) (P : Folders → Folders → Type 0) → ((x y : Folders) → P x y → TouchesOnly path x.places y.places)
    → (old new : Option Folders) → IfKnown P old new → bytes_known new ≡ bytes_known old
same_texts path P touches None new by = ap bytes_known by
same_texts path P touches (Some x) None by = absurd by
same_texts path P touches (Some x) (Some y) by = fun_ext (λ p. ap Some (path_bytes path x.places y.places (touches x y by) p))
