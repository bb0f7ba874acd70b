-- The keys and the sums of rows, with one more row.
use Rattle.std.proofs.Common.{◌≡◌, ◌∙◌, ◌||◌, ℕ, Bool, true, false, List, [], ◌∷◌, ◌++◌, Option, None, unwrap_or, refl, sym, ap, subst, arith}
use Rattle.std.specs.List.{list_any, IsDistinct}
use Rattle.std.specs.Ordering.{eq_by_cmp, is_eq}
use Rattle.zh_districts.specs.Canton.{Canton, constituency_of}
use Rattle.zh_returns.specs.Keys.{key_cmp}
use Rattle.zh_returns.specs.declared.row.Row.{Row}
use Rattle.zh_returns.specs.declared.judgement.Reason.{Reason}
use Rattle.zh_returns.specs.Tally.{empty}
use Rattle.zh_returns.specs.RowFaults.{unfit}
use Rattle.zh_totals.specs.declared.totals.Change.{Change}
use Rattle.zh_totals.specs.Totals.{VoteTotals}
use Rattle.zh_totals.specs.Changes.{IsChange, noted}
use Rattle.zh_totals.specs.Counting.{totals_of}
use Rattle.zh_csv.specs.declared.held_sums.HeldRow.{HeldRow}
use Rattle.zh_csv.specs.declared.held_sums.RunningSums.{RunningSums}
use Rattle.zh_csv.specs.Rows.{held_key, as_row, holds_key, AreHeld, sums_of}
use Rattle.zh_csv.specs.Running.{has_seen, HasTaken}
use Rattle.zh_csv.proofs.SumLemmas.{Follows, change_of, held_more, is_noted}

or_swap : (a b c : Bool) → (a || (b || c)) ≡ (b || (a || c))
or_swap true true c = refl
or_swap true false c = refl
or_swap false b c = refl

-- the keys of some rows and of one more
pub key_more : (rows : List HeldRow) (row : HeldRow) (key : ℕ × ℕ) → holds_key (rows ++ row ∷ []) key ≡ (eq_by_cmp key_cmp key (held_key row) || holds_key rows key)
key_more [] row key = refl
key_more (first ∷ rows) row key =
    ap (λ b. eq_by_cmp key_cmp key (held_key first) || b) (key_more rows row key) ∙ or_swap (eq_by_cmp key_cmp key (held_key first)) (eq_by_cmp key_cmp key (held_key row)) (holds_key rows key)

-- the change of one more row can be noted in the sums
pub can_take : (canton : Canton) (rows : List HeldRow) (row : HeldRow) (totals : VoteTotals) (change : Change)
    → Follows canton rows row → AreHeld canton rows → totals ≡ sums_of canton rows → change ≡ change_of canton row
    → IsChange totals change
can_take canton rows row totals change follows are so_far is =
    let noting = is_noted canton rows row are follows in
    subst (IsChange totals) (sym is) (subst (λ (t : VoteTotals). IsChange t (change_of canton row)) (sym so_far) noting.can)

-- the sums with this change are those of all rows
pub has_taken : (canton : Canton) (rows : List HeldRow) (row : HeldRow) (old new : RunningSums) (change : Change)
    → Follows canton rows row → HasTaken canton rows old → change ≡ change_of canton row → new.totals ≡ noted old.totals change
    → ((key : ℕ × ℕ) → has_seen new.keys key ≡ (eq_by_cmp key_cmp key (held_key row) || holds_key rows key))
    → HasTaken canton (rows ++ row ∷ []) new
has_taken canton rows row old new change follows has is sums keys =
    let noting = is_noted canton rows row has.held follows in
    record {
      setup = ap (λ (t : VoteTotals). t.canton) sums ∙ has.setup;
      held = held_more canton rows row has.held follows;
      keys = λ key. keys key ∙ sym (key_more rows row key);
      totals = sums ∙ ap (noted old.totals) is ∙ ap (λ (t : VoteTotals). noted t (change_of canton row)) has.totals ∙ noting.after;
    }

-- no row was taken yet
pub none_taken : (canton : Canton) (sums : RunningSums) → sums.keys.keys ≡ [] → sums.totals ≡ totals_of (empty canton) → HasTaken canton [] sums
unfolding IsDistinct
none_taken canton sums none totals = record {
  setup = ap (λ (t : VoteTotals). t.canton) totals;
  held = record { readable = λ k d within. absurd (omega arith); fit = λ k d within. absurd (omega arith); keys = tt };
  keys = λ key. ap (list_any (λ k. is_eq (key_cmp key k))) none;
  totals = totals;
}

-- the row that was judged is this row
abbrev pub judged_row : HeldRow → ℕ → Row
judged_row row votes = record { municipality = row.municipality; list = row.list; number = row.number; votes = votes }

pub fit_of : (canton place : Canton) (row : HeldRow) (votes : ℕ) (judged : Option Reason)
    → place ≡ canton → votes ≡ unwrap_or row.votes 0 → judged ≡ unfit place (judged_row row votes) → judged ≡ None
    → unfit canton (as_row row) ≡ None
fit_of canton place row votes judged same is by none =
    ap (λ (n : ℕ). unfit canton (judged_row row n)) (sym is) ∙ ap (λ (k : Canton). unfit k (judged_row row votes)) (sym same) ∙ sym by ∙ none

-- the change that is noted is that of this row
abbrev pub noted_change : HeldRow → ℕ → ℕ → Change
noted_change row constituency votes = record { constituency = constituency; list = row.list; before = 0; after = votes }

pub change_is : (canton place : Canton) (row : HeldRow) (constituency votes : ℕ)
    → place ≡ canton → constituency ≡ constituency_of place row.municipality → votes ≡ unwrap_or row.votes 0
    → noted_change row constituency votes ≡ change_of canton row
change_is canton place row constituency votes same at is =
    let there : constituency ≡ constituency_of canton row.municipality = at ∙ ap (λ (k : Canton). constituency_of k row.municipality) same in
    λ i. noted_change row (there i) (is i)
