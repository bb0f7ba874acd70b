-- The count in which rows are held, and its sums, with one more row.
use Rattle.std.proofs.Common.{◌≡◌, ◌∙◌, ◌≤◌, ◌||◌, ℕ, suc, Bool, true, false, cond, List, [], ◌∷◌, ◌++◌, map}
use Rattle.std.proofs.Common.{Option, Some, None, IfSome, unwrap_or, All, refl, sym, ap, subst, arith}
use Rattle.std.specs.Option.{option_map_or}
use Rattle.std.specs.Ordering.{eq_by_cmp}
use Rattle.std.specs.FinMap as map_of
use Rattle.std.proofs.lemmas.List.{map-append}
use Rattle.std.proofs.lemmas.List.Elements.{All-push}
use Rattle.std.proofs.lemmas.Map.Keys.{IsDistinct-push}
use Rattle.zh_districts.specs.Canton.{Canton, IsCanton, has_municipality, stands, constituency_of}
use Rattle.zh_districts.proofs.CallerLemmas.{placed}
use Rattle.zh_returns.specs.Keys.{key_cmp}
use Rattle.zh_returns.proofs.CallerLemmas.{exact_keys, keys_total, keys_alike, IsTally-empty, IsTally-insert, no_desk_said, fit_within}
use Rattle.zh_returns.specs.declared.entry.Entry.{Entry}
use Rattle.zh_returns.specs.declared.command.Format.TheVariants.{Two}
use Rattle.zh_returns.specs.Limits.{IsTally, IsEntry, most_votes}
use Rattle.zh_returns.specs.Tally.{empty, held}
use Rattle.zh_returns.specs.RowFaults.{unfit}
use Rattle.zh_totals.specs.declared.totals.Change.{Change}
use Rattle.zh_totals.specs.Counting.{votes_of, totals_of}
use Rattle.zh_totals.specs.Changes.{IsChange, noted, change_to, votes_held}
use Rattle.zh_totals.proofs.CallerLemmas.{votes_can, entry_noted}
use Rattle.zh_csv.specs.declared.held_sums.HeldRow.{HeldRow}
use Rattle.zh_csv.specs.Rows.{held_key, held_entry, as_row, IsHeldRow, holds_key, AreHeld, count_of, sums_of}

-- the rows as entries of a map
abbrev pub keyed : HeldRow → (ℕ × ℕ) × Entry
keyed row = (held_key row, held_entry row)

-- if a disjunction is false, both parts are
neither : (a b : Bool) → (a || b) ≡ false → (a ≡ false) × (b ≡ false)
neither true b h = cc h
neither false b h = (refl, h)

-- nothing is held at a key that no row has
pub nothing_held : (canton : Canton) (rows : List HeldRow) (m l : ℕ) → holds_key rows (m, l) ≡ false → held (count_of canton rows) m l ≡ None
nothing_held canton [] m l fresh = map_of.get-empty key_cmp (m, l)
nothing_held canton (row ∷ rows) m l fresh =
    let (other, rest) = neither (eq_by_cmp key_cmp (m, l) (held_key row)) (holds_key rows (m, l)) fresh in
    map_of.get-insert keys_total (map_of.from_entries (map keyed rows)) (held_key row) (held_entry row) (m, l)
    ∙ ap (λ b. cond b (Some (held_entry row)) (held (count_of canton rows) m l)) other
    ∙ nothing_held canton rows m l rest

few_votes : (votes : Option ℕ) → unwrap_or votes 0 ≤ most_votes → IfSome votes (λ n. n ≤ most_votes)
few_votes None few = tt
few_votes (Some n) few = few

-- a row of a set-up: its list stands in its municipality, and its entry is within the limits
pub record IsPlaced (canton : Canton) (row : HeldRow) : Type 0 where
  pub there : has_municipality canton row.municipality ≡ true
  pub standing : stands canton (constituency_of canton row.municipality) row.list ≡ true
  pub votes : unwrap_or row.votes 0 ≤ most_votes
  pub entry : IsEntry (held_entry row)

pub is_placed : (canton : Canton) (row : HeldRow) → IsHeldRow row → unfit canton (as_row row) ≡ None → IsPlaced canton row
is_placed canton row readable fit =
    let (place, few) = fit_within _ _ fit in
    let (there, standing) = placed canton row.municipality row.list place in
    record {
      there = there;
      standing = standing;
      votes = few;
      entry = record { origin = no_desk_said Two; number = readable.number; votes = few_votes row.votes few };
    }

-- the count is within its limits
tally_of : (canton : Canton) (rows : List HeldRow) → IsCanton canton → All IsHeldRow rows → All (λ row. unfit canton (as_row row) ≡ None) rows → IsTally (count_of canton rows)
tally_of canton [] limits readable fit = IsTally-empty canton limits
tally_of canton (row ∷ rows) limits readable fit =
    let is = is_placed canton row (readable 0 row (omega arith)) (fit 0 row (omega arith)) in
    IsTally-insert (count_of canton rows) row.municipality row.list (held_entry row)
    (tally_of canton rows limits (λ i x within. readable (suc i) x (omega arith)) (λ i x within. fit (suc i) x (omega arith))) is.there is.standing is.entry

pub IsTally-count_of : (canton : Canton) (rows : List HeldRow) → IsCanton canton → AreHeld canton rows → IsTally (count_of canton rows)
IsTally-count_of canton rows limits are = tally_of canton rows limits are.readable are.fit

-- a row that can follow others
pub record Follows (canton : Canton) (rows : List HeldRow) (row : HeldRow) : Type 0 where
  pub limits : IsCanton canton
  pub readable : IsHeldRow row
  pub fit : unfit canton (as_row row) ≡ None
  pub fresh : holds_key rows (held_key row) ≡ false

-- one more row
pub held_more : (canton : Canton) (rows : List HeldRow) (row : HeldRow) → AreHeld canton rows → Follows canton rows row
    → AreHeld canton (rows ++ row ∷ [])
held_more canton rows row are follows =
    let distinct = IsDistinct-push keys_alike (map held_key rows) (held_key row) are.keys follows.fresh in
    record {
      readable = All-push IsHeldRow rows row are.readable follows.readable;
      fit = All-push (λ (r : HeldRow). unfit canton (as_row r) ≡ None) rows row are.fit follows.fit;
      keys = rw (map-append held_key rows (row ∷ [])) distinct;
    }

-- the change that a row makes to the sums of those before it
abbrev pub change_of : Canton → HeldRow → Change
change_of canton row = record {
  constituency = constituency_of canton row.municipality;
  list = row.list;
  before = 0;
  after = unwrap_or row.votes 0;
}

not_found : (canton : Canton) (rows : List HeldRow) (row : HeldRow) → holds_key rows (held_key row) ≡ false
    → map_of.get (map_of.from_entries {R = key_cmp} (map keyed rows)) (held_key row) ≡ None
not_found canton rows row fresh = nothing_held canton rows row.municipality row.list fresh

count_more : (canton : Canton) (rows : List HeldRow) (row : HeldRow) → holds_key rows (held_key row) ≡ false →
    count_of canton (rows ++ row ∷ []) ≡ record (count_of canton rows) { entries = map_of.insert (count_of canton rows).entries (held_key row) (held_entry row) }
count_more canton rows row fresh =
    let pushed = map_of.from_entries_push keys_total exact_keys (map keyed rows) (held_key row) (held_entry row)
    (sym (map_of.get-from_entries keys_total (map keyed rows) (held_key row)) ∙ not_found canton rows row fresh) in
    ap (λ es. record (empty canton) { entries = es }) (ap map_of.from_entries (map-append keyed rows (row ∷ [])) ∙ pushed)

pub record IsNoted (canton : Canton) (rows : List HeldRow) (row : HeldRow) : Type 0 where
  pub can : IsChange (sums_of canton rows) (change_of canton row)
  pub after : noted (sums_of canton rows) (change_of canton row) ≡ sums_of canton (rows ++ row ∷ [])

pub is_noted : (canton : Canton) (rows : List HeldRow) (row : HeldRow) → AreHeld canton rows → Follows canton rows row
    → IsNoted canton rows row
is_noted canton rows row are follows =
    let tally = count_of canton rows in
    let m = row.municipality in
    let l = row.list in
    let votes = unwrap_or row.votes 0 in
    let limits = IsTally-count_of canton rows follows.limits are in
    let is = is_placed canton row follows.readable follows.fit in
    let nothing = nothing_held canton rows m l follows.fresh in
    let none : votes_held tally m l ≡ 0 = ap (λ (o : Option Entry). option_map_or votes_of o 0) nothing in
    let same : change_to tally m l votes ≡ change_of canton row =
    ap (λ (n : ℕ). record { constituency = constituency_of canton m; list = l; before = n; after = votes }) none in
    let noting = entry_noted tally m l (held_entry row) limits is.there is.standing in
    record {
      can = subst (IsChange (sums_of canton rows)) same (votes_can tally m l votes limits is.there is.standing is.votes);
      after = ap (noted (sums_of canton rows)) (sym same) ∙ sym noting ∙ ap totals_of (sym (count_more canton rows row follows.fresh));
    }
