-- There are at most as many rows as places for keys.
use Rattle.std.proofs.Common.{◌≡◌, ◌∙◌, ◌≤◌, ◌<◌, ◌+◌, ◌-◌, ◌*◌, ℕ, suc, true, false, eqb, List, [], ◌∷◌, map, length, None, All, sym, ap, arith, inl, inr}
use Rattle.std.specs.List.{list_any, AllByRecursion, IsDistinct}
use Rattle.std.specs.Ordering.{eq_by_cmp}
use Rattle.std.proofs.lemmas.Bool.{eqb-true, false_from_ne_true, or_cases}
use Rattle.std.proofs.lemmas.List.{length-map}
use Rattle.std.proofs.lemmas.Map.Steps.{length-le_from_distinct_below}
use Rattle.zh_districts.specs.Canton.{Canton, IsCanton}
use Rattle.zh_districts.proofs.CallerLemmas.{municipality_within, list_within}
use Rattle.zh_returns.specs.Keys.{key_cmp}
use Rattle.zh_returns.proofs.CallerLemmas.{same_key}
use Rattle.zh_returns.specs.RowFaults.{unfit}
use Rattle.zh_csv.specs.declared.held_sums.HeldRow.{HeldRow}
use Rattle.zh_csv.specs.Rows.{held_key, as_row, IsHeldRow, AreHeld}
use Rattle.zh_csv.proofs.SumLemmas.{is_placed}

-- the place of a row's key
place_of : HeldRow → ℕ
place_of row = (row.municipality - 1) * 32 + (row.list - 1)

-- municipality 1 to 512, list 1 to 32
record IsWithin (row : HeldRow) : Type 0 where
  municipality : (1 ≤ row.municipality) × (row.municipality ≤ 512)
  list : (1 ≤ row.list) × (row.list ≤ 32)

is_within : (canton : Canton) (row : HeldRow) → IsCanton canton → IsHeldRow row → unfit canton (as_row row) ≡ None → IsWithin row
is_within canton row limits readable fit =
    let is = is_placed canton row readable fit in
    let (m1, m2) = municipality_within canton row.municipality is.there in
    let (l1, l2) = list_within canton _ row.list is.standing in
    record { municipality = (m1, omega (arith, limits.municipalities.1)); list = (l1, omega (arith, limits.groups.1)) }

-- rows with the same place have the same key
one_key : (row other : HeldRow) → IsWithin row → IsWithin other → place_of row ≡ place_of other → eq_by_cmp key_cmp (held_key row) (held_key other) ≡ true
unfolding place_of
one_key row other w v same =
    let m : row.municipality ≡ other.municipality = omega (arith, w.municipality.0, w.list.0, w.list.1, v.municipality.0, v.list.0, v.list.1) in
    let l : row.list ≡ other.list = omega (arith, w.municipality.0, w.list.0, w.list.1, v.municipality.0, v.list.0, v.list.1) in
    let one : ◌≡◌ {A = ℕ × ℕ} (held_key row) (held_key other) = λ i. (m i, l i) in
    ap (λ key. eq_by_cmp key_cmp key (held_key other)) one ∙ same_key (held_key other)

apart : (row : HeldRow) (rows : List HeldRow) → IsWithin row → All IsWithin rows → AllByRecursion (λ key. eq_by_cmp key_cmp (held_key row) key ≡ false) (map held_key rows) →
    AllByRecursion (λ place. eqb (place_of row) place ≡ false) (map place_of rows)
apart row [] w all others = tt
apart row (other ∷ rows) w all (first, others) = (
  false_from_ne_true _ (λ is. cc (sym (one_key row other w (all 0 other (omega arith)) (eqb-true _ _ is)) ∙ first)),
  apart row rows w (λ i x within. all (suc i) x (omega arith)) others,
)

places_distinct : (rows : List HeldRow) → All IsWithin rows → IsDistinct (eq_by_cmp key_cmp) (map held_key rows) → IsDistinct eqb (map place_of rows)
unfolding IsDistinct
places_distinct [] all distinct = tt
places_distinct (row ∷ rows) all (first, distinct) = (
  apart row rows (all 0 row (omega arith)) (λ i x within. all (suc i) x (omega arith)) first,
  places_distinct rows (λ i x within. all (suc i) x (omega arith)) distinct,
)

places_below : (rows : List HeldRow) → All IsWithin rows → (place : ℕ) → list_any (eqb place) (map place_of rows) ≡ true → place < 16384
unfolding place_of
places_below [] all place is = cc is
places_below (row ∷ rows) all place is =
    elim (or_cases (eqb place (place_of row)) (list_any (eqb place) (map place_of rows)) is) [
      | inl same ↦
          let w = all 0 row (omega arith) in
          let is_place : place ≡ (row.municipality - 1) * 32 + (row.list - 1) = eqb-true _ _ same in
          omega (arith, w.municipality.0, w.municipality.1, w.list.0, w.list.1)
      | inr later ↦ places_below rows (λ i x within. all (suc i) x (omega arith)) place later
    ]

pub few_rows : (canton : Canton) (rows : List HeldRow) → IsCanton canton → AreHeld canton rows → length rows ≤ 16384
few_rows canton rows limits are =
    let all : All IsWithin rows = λ i row within. is_within canton _ limits (are.readable i row within) (are.fit i row within) in
    let few = length-le_from_distinct_below (map place_of rows) 16384 (places_distinct rows all are.keys) (places_below rows all) in
    omega (arith, length-map rows place_of)
