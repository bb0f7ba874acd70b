-- The rows of a count add up to its totals.
use Rattle.std.proofs.Common.{◌≡◌, ◌∙◌, ℕ, zero, suc, ◌+◌, ◌<◌, ◌≤◌, ◌^◌, ◌&&◌, ◌||◌, ◌==◌, true, false}
use Rattle.std.proofs.Common.{List, [], ◌∷◌, ◌++◌, length, Option, Some, None, IfSome, unwrap_or, refl, sym, ap, subst, arith, append_assoc}
use Rattle.std.proofs.Common.{add-zero}
use Rattle.std.specs.List.{flat_map, range_with_len, IsDistinct}
use Rattle.std.proofs.lemmas.Bool.Decides.{nat_tests}
use Rattle.std.proofs.lemmas.List.{append-nil}
use Rattle.zh_districts.specs.Canton.{has_municipality, stands, constituency_of}
use Rattle.zh_districts.proofs.CallerLemmas.{municipality_within, list_within, not_misplaced}
use Rattle.zh_returns.proofs.CallerLemmas.{key_test}
use Rattle.zh_returns.specs.declared.entry.Entry.{Entry}
use Rattle.zh_returns.specs.Limits.{IsTally, IsEntry, most_votes}
use Rattle.zh_returns.specs.Tally.{Tally, held}
use Rattle.zh_returns.specs.RowFaults.{unfit, unfit_at}
use Rattle.zh_totals.specs.Totals.{VoteTotals}
use Rattle.zh_totals.specs.Counting.{totals_of}
use Rattle.zh_totals.specs.Changes.{noted}
use Rattle.zh_totals.specs.Parts.{is_before, held_before}
use Rattle.zh_totals.proofs.CallerLemmas.{next_noted, before_first, next_not_held, next_municipality, after_last}
use Rattle.zh_csv.specs.declared.held_sums.HeldRow.{HeldRow}
use Rattle.zh_csv.specs.Rows.{as_row, holds_key, IsHeldRow, AreHeld, sums_of}
use Rattle.zh_csv.specs.Held.{AreHeldIn}
use Rattle.zh_csv.specs.Export.{export_text}
use Rattle.zh_csv.proofs.SumLemmas.{Follows, change_of, held_more, is_noted}
use Rattle.zh_csv.proofs.RunningLemmas.{key_more}
use Rattle.zh_csv.proofs.ExportRowsLemmas.{entry_row, entry_rows, list_rows, municipality_rows, export_rows, export_records}

-- these rows are what is held at keys before this one
record AreBefore (tally : Tally) (m l : ℕ) (rows : List HeldRow) : Type 0 where
  held : AreHeld tally.canton rows
  keys : (a b : ℕ) → is_before m l (a, b) ≡ false → holds_key rows (a, b) ≡ false
  totals : sums_of tally.canton rows ≡ totals_of (held_before tally m l)

none_before : (tally : Tally) → IsTally tally → AreBefore tally 1 1 []
unfolding IsDistinct
none_before tally limits = record {
  held = record { readable = λ k d within. absurd (omega arith); fit = λ k d within. absurd (omega arith); keys = tt };
  keys = λ a b before. refl;
  totals = ap totals_of (sym (before_first tally limits));
}

-- the entry at a key is within the limits of a count
record IsEntryAt (tally : Tally) (m l : ℕ) (entry : Entry) : Type 0 where
  there : has_municipality tally.canton m ≡ true
  standing : stands tally.canton (constituency_of tally.canton m) l ≡ true
  within : IsEntry entry

entry_at : (tally : Tally) (m l : ℕ) (entry : Entry) → IsTally tally → held tally m l ≡ Some entry → IsEntryAt tally m l entry
entry_at tally m l entry limits is = record {
  there = subst (λ h. IfSome h (λ _. has_municipality tally.canton m ≡ true)) is (limits.municipalities m l);
  standing = subst (λ h. IfSome h (λ _. stands tally.canton (constituency_of tally.canton m) l ≡ true)) is (limits.lists m l);
  within = subst (λ h. IfSome h IsEntry) is (limits.entries m l);
}

small_votes : (votes : Option ℕ) → IfSome votes (λ n. n ≤ most_votes) → IfSome votes (λ n. n < 2 ^ 32)
small_votes None few = tt
small_votes (Some n) few = omega arith

no_more_votes : (votes : Option ℕ) → IfSome votes (λ n. n ≤ most_votes) → unwrap_or votes 0 ≤ most_votes
no_more_votes None few = omega arith
no_more_votes (Some n) few = few

row_readable : (tally : Tally) (m l : ℕ) (entry : Entry) → IsTally tally → IsEntryAt tally m l entry → IsHeldRow (entry_row m l entry)
row_readable tally m l entry limits is =
    let (m1, m2) = municipality_within tally.canton m is.there in
    let (l1, l2) = list_within tally.canton _ l is.standing in
    record {
      municipality = omega (arith, limits.canton.municipalities.1);
      list = omega (arith, limits.canton.groups.1);
      number = is.within.number;
      votes = small_votes entry.votes is.within.votes;
    }

few_fit : (votes : ℕ) → votes ≤ most_votes → unfit_at None votes ≡ None
few_fit votes few = grind (arith, nat_tests)

row_fit : (tally : Tally) (m l : ℕ) (entry : Entry) → IsEntryAt tally m l entry → unfit tally.canton (as_row (entry_row m l entry)) ≡ None
row_fit tally m l entry is =
    ap (λ place. unfit_at place (unwrap_or entry.votes 0)) (not_misplaced tally.canton m l is.there is.standing) ∙ few_fit (unwrap_or entry.votes 0) (no_more_votes entry.votes is.within.votes)

-- neither a key itself nor a later one comes before it
not_itself : (m l : ℕ) → is_before m l (m, l) ≡ false
not_itself m l = grind (arith, nat_tests)

not_after : (m l a b : ℕ) → is_before m (l + 1) (a, b) ≡ false → (is_before m l (a, b) ≡ false) × ((a == m && b == l) ≡ false)
not_after m l a b later = (grind (arith, nat_tests), grind (arith, nat_tests))

not_in_next : (m g a b : ℕ) → is_before (m + 1) 1 (a, b) ≡ false → is_before m (g + 1) (a, b) ≡ false
not_in_next m g a b later = grind (arith, nat_tests)

-- the next list has an entry, or has none
one_more : (tally : Tally) (m l : ℕ) (rows : List HeldRow) (entry : Entry) → IsTally tally → held tally m l ≡ Some entry
    → AreBefore tally m l rows → AreBefore tally m (l + 1) (rows ++ entry_row m l entry ∷ [])
one_more tally m l rows entry limits is before =
    let row = entry_row m l entry in
    let at = entry_at tally m l entry limits is in
    let follows : Follows tally.canton rows row = record {
      limits = limits.canton;
      readable = row_readable tally m l entry limits at;
      fit = row_fit tally m l entry at;
      fresh = before.keys m l (not_itself m l);
    } in
    let noting = is_noted tally.canton rows row before.held follows in
    record {
      held = held_more tally.canton rows row before.held follows;
      keys = λ a b later.
          let (earlier, other) = not_after m l a b later in
          key_more rows row (a, b) ∙ ap (λ this. this || holds_key rows (a, b)) (key_test a b m l ∙ other) ∙ before.keys a b earlier;
      totals = sym noting.after ∙ ap (λ (t : VoteTotals). noted t (change_of tally.canton row)) before.totals ∙ (next_noted tally m l entry limits is).after;
    }

none_more : (tally : Tally) (m l : ℕ) (rows : List HeldRow) → held tally m l ≡ None → AreBefore tally m l rows → AreBefore tally m (l + 1) (rows ++ [])
none_more tally m l rows is before =
    subst (AreBefore tally m (l + 1)) (sym (append-nil rows)) (record {
      held = before.held;
      keys = λ a b later. before.keys a b (not_after m l a b later).0;
      totals = before.totals ∙ ap totals_of (sym (next_not_held tally m l is));
    })

next_list : (tally : Tally) (m l : ℕ) (rows : List HeldRow) → IsTally tally → AreBefore tally m l rows → AreBefore tally m (l + 1) (rows ++ list_rows tally m l)
next_list tally m l rows limits before =
    elim (held tally m l) as (λ h. held tally m l ≡ h → AreBefore tally m (l + 1) (rows ++ entry_rows m l h)) [
      | None ↦ λ is. none_more tally m l rows is before
      | (Some entry) ↦ λ is. one_more tally m l rows entry limits is before
    ] refl

-- the next n lists
next_lists : (tally : Tally) (m first n : ℕ) (rows : List HeldRow) → IsTally tally → AreBefore tally m first rows
    → AreBefore tally m (first + n) (rows ++ flat_map (list_rows tally m) (range_with_len first n))
next_lists tally m first zero rows limits before =
    subst (λ (l : ℕ). AreBefore tally m l (rows ++ [])) (sym (add-zero first)) (subst (AreBefore tally m first) (sym (append-nil rows)) before)
next_lists tally m first (suc n) rows limits before =
    let along : first + 1 + n ≡ first + suc n = omega arith in
    let more = next_lists tally m (first + 1) n (rows ++ list_rows tally m first) limits (next_list tally m first rows limits before) in
    subst (λ (l : ℕ). AreBefore tally m l (rows ++ (list_rows tally m first ++ flat_map (list_rows tally m) (range_with_len (first + 1) n)))) along
    (subst (AreBefore tally m (first + 1 + n)) (append_assoc rows (list_rows tally m first) (flat_map (list_rows tally m) (range_with_len (first + 1) n))) more)

-- the next municipality
next_one : (tally : Tally) (m : ℕ) (rows : List HeldRow) → IsTally tally → AreBefore tally m 1 rows → AreBefore tally (m + 1) 1 (rows ++ municipality_rows tally m)
next_one tally m rows limits before =
    let g = length tally.canton.groups in
    let same : 1 + g ≡ g + 1 = omega arith in
    let all = subst (λ (l : ℕ). AreBefore tally m l (rows ++ municipality_rows tally m)) same (next_lists tally m 1 g rows limits before) in
    record {
      held = all.held;
      keys = λ a b later. all.keys a b (not_in_next m g a b later);
      totals = all.totals ∙ ap totals_of (next_municipality tally m limits);
    }

-- the next n municipalities
next_some : (tally : Tally) (first n : ℕ) (rows : List HeldRow) → IsTally tally → AreBefore tally first 1 rows
    → AreBefore tally (first + n) 1 (rows ++ flat_map (municipality_rows tally) (range_with_len first n))
next_some tally first zero rows limits before =
    subst (λ (m : ℕ). AreBefore tally m 1 (rows ++ [])) (sym (add-zero first)) (subst (AreBefore tally first 1) (sym (append-nil rows)) before)
next_some tally first (suc n) rows limits before =
    let along : first + 1 + n ≡ first + suc n = omega arith in
    let more = next_some tally (first + 1) n (rows ++ municipality_rows tally first) limits (next_one tally first rows limits before) in
    subst (λ (m : ℕ). AreBefore tally m 1 (rows ++ (municipality_rows tally first ++ flat_map (municipality_rows tally) (range_with_len (first + 1) n)))) along
    (subst (AreBefore tally (first + 1 + n) 1) (append_assoc rows (municipality_rows tally first) (flat_map (municipality_rows tally) (range_with_len (first + 1) n))) more)

all_rows : (tally : Tally) → IsTally tally → AreBefore tally (length tally.canton.municipalities + 1) 1 (export_rows tally)
all_rows tally limits =
    let n = length tally.canton.municipalities in
    let same : 1 + n ≡ n + 1 = omega arith in
    subst (λ (m : ℕ). AreBefore tally m 1 (export_rows tally)) same (next_some tally 1 n [] limits (none_before tally limits))

-- the export of a count adds up to its totals
pub export_adds_up : (tally : Tally) → IsTally tally → AreHeldIn tally.canton (export_text tally) (record { rows = length (export_rows tally); totals = totals_of tally })
export_adds_up tally limits =
    let all = all_rows tally limits in
    record {
      rows = export_rows tally;
      records = export_records tally all.held.readable;
      are = record { held = all.held; count = refl; totals = sym (all.totals ∙ ap totals_of (after_last tally limits)) };
    }
