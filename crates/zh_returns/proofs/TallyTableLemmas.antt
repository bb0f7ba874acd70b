-- The table of a count.
use Rattle.std.proofs.Common.{◌≡◌, ◌<◌, ◌≤◌, ◌+◌, ◌*◌, ◌/◌, ◌%◌, ◌∙◌, ℕ, suc, true, false, cond, List, [], ◌∷◌, length, get_or, map, Option, Some, None, sym, ap, subst, refl, arith, inl, inr}
use Rattle.std.specs.Prelude.{IfSome}
use Rattle.std.specs.Ordering.{eq_by_cmp}
use Rattle.std.specs.FinMap as map_of
use Rattle.std.proofs.lemmas.Bool.{cases_lt}
use Rattle.std.proofs.lemmas.List.{ext_get_or, length-map, get_or-map, get_or_past}
use Rattle.zh_districts.specs.Canton.{has_municipality, stands, constituency_of}
use Rattle.zh_districts.proofs.CallerLemmas.{not_misplaced}
use Rattle.zh_returns.specs.declared.entry.Entry.{Entry}
use Rattle.zh_returns.specs.Limits.{IsTally, IsEntry, IsSaidIn}
use Rattle.zh_returns.specs.Origin.{IsOriginOf}
use Rattle.zh_returns.specs.declared.command.Format.{Format}
use Rattle.zh_returns.specs.Payload.{numbers, table_of}
use Rattle.zh_returns.specs.Tables.{IsHeldAt, IsTable, key_of, entries_of, entries_from}
use Rattle.zh_returns.specs.Keys.{key_cmp}
use Rattle.zh_returns.specs.Tally.{Tally, held}
use Rattle.zh_returns.proofs.BlockLemmas.{HasWidth, length-blocks, in_block}
use Rattle.zh_returns.proofs.KeyLemmas.{keys_total, keys_equal}
use Rattle.zh_returns.proofs.EntryTableLemmas.{get-entries_of}
use Rattle.zh_returns.proofs.NumbersLemmas.{length-numbers, get_or-numbers}

row_wide : (tally : Tally) → HasWidth (λ (municipality : ℕ). map (held tally municipality) (numbers 1 32)) 32
row_wide tally = record { at = λ municipality. length-map (numbers 1 32) (held tally municipality) ∙ length-numbers 1 32 }

pub length-table_of : (tally : Tally) (n : ℕ) → length (table_of tally n) ≡ 32 * n
length-table_of tally n =
    length-blocks (λ (municipality : ℕ). map (held tally municipality) (numbers 1 32)) 32 (row_wide tally) (numbers 1 n) ∙ ap (λ (m : ℕ). 32 * m) (length-numbers 1 n)

-- a place has what is held under its key
pub at_table_of : (tally : Tally) (n place : ℕ) → place < 32 * n → get_or (table_of tally n) place None ≡ map_of.get tally.entries (key_of place)
at_table_of tally n place within =
    let row : ℕ → List (Option Entry) = λ municipality. map (held tally municipality) (numbers 1 32) in
    let m = place / 32 in
    let l = place % 32 in
    let small : m < length (numbers 1 n) = omega (arith, length-numbers 1 n) in
    let inside : l < length (numbers 1 32) = omega (arith, length-numbers 1 32) in
    let place_is : place ≡ 32 * m + l = omega arith in
    let first : 1 + m ≡ m + 1 = omega arith in
    let second : 1 + l ≡ l + 1 = omega arith in
    ap (λ (at : ℕ). get_or (table_of tally n) at None) place_is
    ∙ in_block row 32 (row_wide tally) (numbers 1 n) m l 0 None small (omega arith)
    ∙ ap (λ (municipality : ℕ). get_or (row municipality) l None) (get_or-numbers 1 n m 0 (omega arith))
    ∙ get_or-map (held tally (1 + m)) (numbers 1 32) l 0 None inside
    ∙ ap (held tally (1 + m)) (get_or-numbers 1 32 l 0 (omega arith))
    ∙ ap (λ (a : ℕ). held tally a (1 + l)) first
    ∙ ap (λ (a : ℕ). held tally (m + 1) a) second

-- the table in which a count is stored is its table
pub table_is : (tally : Tally) (table : List (Option Entry)) (n : ℕ) → tally.entries ≡ entries_of table → length table ≡ 32 * n → table ≡ table_of tally n
table_is tally table n entries whole =
    ext_get_or None table (table_of tally n) (whole ∙ sym (length-table_of tally n)) (λ place within.
    sym (get-entries_of table place) ∙ ap (λ e. map_of.get e (key_of place)) (sym entries) ∙ sym (at_table_of tally n place (omega arith))
    )

-- what holds for each place holds for each key
each_found : (P : ℕ × ℕ → Entry → Type 0) (place : ℕ) (table : List (Option Entry)) (key : ℕ × ℕ)
    → ((i : ℕ) → IfSome (get_or table i None) (P (key_of (place + i)))) → IfSome (map_of.find key_cmp key (entries_from place table)) (P key)
each_found P place [] key each = tt
each_found P place (None ∷ table) key each =
    each_found P (place + 1) table key (λ i. let next : place + suc i ≡ place + 1 + i = omega arith in subst (λ (at : ℕ). IfSome (get_or table i None) (P (key_of at))) next (each (suc i)))
each_found P place (Some entry ∷ table) key each =
    elim (eq_by_cmp key_cmp key (key_of place)) as (λ same. eq_by_cmp key_cmp key (key_of place) ≡ same
    → IfSome (cond same (Some entry) (map_of.find key_cmp key (entries_from (place + 1) table))) (P key)) [
      | true ↦ λ is.
          let here : P (key_of (place + 0)) entry = each 0 in
          subst (λ k. P k entry) (ap key_of (omega arith) ∙ sym (keys_equal key (key_of place) is)) here
      | false ↦ λ is. each_found P (place + 1) table key
          (λ i. let next : place + suc i ≡ place + 1 + i = omega arith in subst (λ (at : ℕ). IfSome (get_or table i None) (P (key_of at)))
          next (each (suc i)))
    ] refl

pub each_key : (P : ℕ × ℕ → Entry → Type 0) (table : List (Option Entry)) → ((i : ℕ) → IfSome (get_or table i None) (P (key_of i))) → (key : ℕ × ℕ) → IfSome (map_of.get (entries_of table) key) (P key)
each_key P table each key =
    subst (λ h. IfSome h (P key)) (sym (map_of.get-from_entries keys_total (entries_from 0 table) key)) (
    each_found P 0 table key (λ i. subst (λ (at : ℕ). IfSome (get_or table i None) (P (key_of at))) (omega arith) (each i))
    )

-- what is held meets every condition that follows from one that it meets
pub if_weaker : (P Q : Entry → Type 0) (h : Option Entry) → ((entry : Entry) → P entry → Q entry) → IfSome h P → IfSome h Q
if_weaker P Q None weaker is = tt
if_weaker P Q (Some entry) weaker is = weaker entry is

if_held : (format : Format) (tally : Tally) (key : ℕ × ℕ) (h : Option Entry) → IfSome h IsEntry → IfSome h (λ entry. IsOriginOf format entry.origin) →
    IfSome h (λ _. stands tally.canton (constituency_of tally.canton key.0) key.1 ≡ true) →
    IfSome h (λ _. has_municipality tally.canton key.0 ≡ true) → IfSome h (IsHeldAt format tally.canton key)
if_held format tally key None limits said list municipality = tt
if_held format tally key (Some entry) limits said list municipality =
    record {
      limits = record { origin = said; number = limits.number; votes = limits.votes };
      place = not_misplaced tally.canton key.0 key.1
          municipality list;
    }

-- the table of a count within its limits is within its limits
pub table_within : (format : Format) (tally : Tally) (n : ℕ) → IsTally tally → IsSaidIn format tally → IsTable format tally.canton (table_of tally n)
table_within format tally n limits said = λ place. elim (cases_lt place (32 * n)) [
  | inl inside ↦
      subst (λ h. IfSome h (IsHeldAt format tally.canton (key_of place))) (sym (at_table_of tally n place inside)) (
      let m = place / 32 + 1 in
      let l = place % 32 + 1 in
      if_held format tally (m, l) (held tally m l) (limits.entries m l) (said m l) (limits.lists m l) (limits.municipalities m l)
      )
  | inr outside ↦
      let past : length (table_of tally n) ≤ place = omega (arith, length-table_of tally n) in
      subst (λ h. IfSome h (IsHeldAt format tally.canton (key_of place))) (sym (get_or_past (table_of tally n) place None past)) tt
]
