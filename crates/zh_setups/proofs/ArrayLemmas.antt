-- The values of an array in a document.
use Rattle.std.proofs.Common.{◌≡◌, ◌≤◌, Bool, true, false, List, [], ◌∷◌, length, map, Some, None, refl, ap, arith, le-leb, leb}
use Rattle.std.specs.List.{list_all}
use Rattle.std.proofs.lemmas.List.{length-map}
use Rattle.toml.specs.View.{view, items_view}
use Rattle.toml.specs.Data.{Data, as_array}
use Rattle.toml.specs.declared.value.Value.{Value}
use Rattle.zh_setups.specs.Keys.{list_of, is_table, tables_of}
use Rattle.zh_setups.specs.Document.{values_of}

-- as data
pub listed_values : (values : List Value) → list_of (items_view values) ≡ map view values
listed_values [] = refl
listed_values (value ∷ values) = ap (λ (ds : List Data). view value ∷ ds) (listed_values values)

-- an array with at least one value
pub values_of-found : (d : Data) (values : List Value) → Some (items_view values) ≡ as_array d → 1 ≤ length values → Some (map view values) ≡ values_of d
values_of-found d values is_array some =
    let here : leb 1 (length (map view values)) ≡ true = le-leb 1 (length (map view values)) (omega (arith, length-map values view)) in
    rw (← is_array, listed_values values, here) refl

pub values_of-empty : (d : Data) (values : List Value) → Some (items_view values) ≡ as_array d → length values ≡ 0 → None ≡ values_of d
values_of-empty d [] is_array none = rw (← is_array) refl
values_of-empty d (value ∷ values) is_array none = absurd (omega arith)

-- an array of tables, and any other array
pub tables_of-found : (d : Data) (values : List Value) (b : Bool) → Some (items_view values) ≡ as_array d → b ≡ list_all is_table (map view values) → b ≡ true → map view values ≡ tables_of d
tables_of-found d values b is_array tested h = rw (← is_array, listed_values values, ← tested, h) refl

pub tables_of-mixed : (d : Data) (values : List Value) (b : Bool) → Some (items_view values) ≡ as_array d → b ≡ list_all is_table (map view values) → b ≡ false → [] ≡ tables_of d
tables_of-mixed d values b is_array tested h = rw (← is_array, listed_values values, ← tested, h) refl
