-- Municipalities and lists of a set-up.
use Rattle.std.proofs.Common.{◌≡◌, ◌≤◌, ◌<◌, ◌-◌, ℕ, Bool, true, false, not, cond, length, Some, None, refl, arith, rules}
use Rattle.std.proofs.lemmas.Bool.{le-leb}
use Rattle.std.proofs.lemmas.Grind.{common_steps}
use Rattle.std.proofs.lemmas.Option.{gets, slice_get_past}
use Rattle.zh_districts.specs.Canton.{Canton, has_municipality, stands, constituency_of}
use Rattle.zh_districts.specs.Misplaced.{misplaced}
use Rattle.zh_districts.specs.declared.setup.Misplaced.{Misplaced}
use Rattle.zh_districts.specs.declared.setup.Misplaced.TheVariants as reasons

-- a municipality of the set-up has a number from 1
pub municipality_within : (canton : Canton) (municipality : ℕ) → has_municipality canton municipality ≡ true → (1 ≤ municipality) × (municipality ≤ length canton.municipalities)
municipality_within canton municipality there = (search rules, search rules)

-- a list that stands somewhere is one of the groups
pub list_within : (canton : Canton) (constituency list : ℕ) → stands canton constituency list ≡ true → (1 ≤ list) × (list ≤ length canton.groups)
list_within canton constituency list there = (search rules, grind (arith, common_steps, gets))

none_of : (there standing : Bool) (a b : Misplaced) → cond (not there) (Some a) (cond (not standing) (Some b) None) ≡ None → (there ≡ true) × (standing ≡ true)
none_of true true a b none = (refl, refl)
none_of true false a b none = absurd (cc)
none_of false standing a b none = absurd (cc)

-- a list that is not misplaced stands in a municipality of the set-up
pub placed : (canton : Canton) (municipality list : ℕ) → misplaced canton municipality list ≡ None
    → (has_municipality canton municipality ≡ true) × (stands canton (constituency_of canton municipality) list ≡ true)
placed canton municipality list none = none_of (has_municipality canton municipality) (stands canton (constituency_of canton municipality) list) _ _ none

-- the converse
pub not_misplaced : (canton : Canton) (municipality list : ℕ) → has_municipality canton municipality ≡ true
    → stands canton (constituency_of canton municipality) list ≡ true → misplaced canton municipality list ≡ None
not_misplaced canton municipality list there standing = rw (there, standing) refl

-- a list after the last group stands nowhere, and neither does list 0
pub stands_past : (canton : Canton) (constituency list : ℕ) → length canton.groups < list → stands canton constituency list ≡ false
stands_past canton constituency list past =
    let none = slice_get_past canton.groups (list - 1) (omega arith) in
    rw (le-leb 1 list (omega arith), none) refl

pub stands_zero : (canton : Canton) (constituency list : ℕ) → list ≡ 0 → stands canton constituency list ≡ false
stands_zero canton constituency list zero = rw zero refl

-- a list that does not stand in its municipality is misplaced
pub misplaced_list : (canton : Canton) (municipality list constituency : ℕ) → has_municipality canton municipality ≡ true → constituency
    ≡ constituency_of canton municipality → stands canton constituency list ≡ false
    → Some reasons.List ≡ misplaced canton municipality list
misplaced_list canton municipality list constituency there lies standing = rw (there, ← lies, standing) refl
