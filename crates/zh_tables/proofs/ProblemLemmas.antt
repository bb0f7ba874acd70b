-- The marks of each constituency, one after another.
use Rattle.std.proofs.Common.{◌≡◌, ◌∙◌, ◌+◌, ◌<◌, ◌≤◌, ℕ, List, [], ◌∷◌, ◌++◌, Bool, true, false, IsTrue, length, ⊎_elim, refl, sym, ap, subst, arith}
use Rattle.std.specs.Prelude.{◌↔◌, slice_index_or}
use Rattle.std.proofs.lemmas.Bool.{cases_lt}
use Rattle.std.proofs.lemmas.List.{get_or_append_left, length-append}
use Rattle.std.proofs.Math.Seq.{get_or-append_seam}
use Rattle.zh_districts.specs.Canton.{Canton, constituency_of, stands}
use Rattle.zh_districts.specs.Claims.{Tell}
use Rattle.zh_tables.specs.Problems.{LacksList, LacksMunicipality}

pub told_none : (Holds : ℕ → Type 0) → Tell Holds 0 []
told_none Holds = record { one_each = refl; each = λ k low. absurd (omega arith) }

pub told_next : (Holds : ℕ → Type 0) (n : ℕ) (marks : List Bool) (b : Bool) → Tell Holds n marks → IsTrue b ↔ Holds (n + 1) → Tell Holds (n + 1) (marks ++ b ∷ [])
told_next Holds n marks b told here = record {
  one_each = omega (arith, length-append marks (b ∷ []), told.one_each);
  each = λ k low. ⊎_elim
      (λ (before : k < n).
      let is : slice_index_or (marks ++ b ∷ []) k false ≡ slice_index_or marks k false = get_or_append_left marks (b ∷ []) false k (omega (arith, told.one_each, before)) in
      subst (λ (x : Bool). IsTrue x ↔ Holds (k + 1)) (sym is) (told.each k before))
      (λ after.
      let same : n ≡ k = omega (arith, low, after) in
      let seam : slice_index_or (marks ++ b ∷ []) n false ≡ b = ap (λ (i : ℕ). slice_index_or (marks ++ b ∷ []) i false) (sym told.one_each) ∙ get_or-append_seam marks b [] false in
      let at : IsTrue (slice_index_or (marks ++ b ∷ []) n false) ↔ Holds (n + 1) = subst (λ (x : Bool). IsTrue x ↔ Holds (n + 1)) (sym seam) here in
      subst (λ (i : ℕ). IsTrue (slice_index_or (marks ++ b ∷ []) i false) ↔ Holds (i + 1)) same at)
      (cases_lt k n);
}

-- a municipality is in the constituency
pub has_municipality : (canton : Canton) (d m : ℕ) → 1 ≤ m → m ≤ length canton.municipalities → constituency_of canton m ≡ d → IsTrue false ↔ LacksMunicipality canton d
has_municipality canton d m from there is = (λ wrong. absurd cc, λ lacks. absurd (lacks m from there is))

-- a list stands in the constituency
pub has_list : (canton : Canton) (d g : ℕ) → 1 ≤ g → g ≤ length canton.groups → stands canton d g ≡ true → IsTrue false ↔ LacksList canton d
has_list canton d g from there is = (λ wrong. absurd cc, λ lacks. let no : false ≡ true = sym (lacks g from there) ∙ is in absurd cc)
