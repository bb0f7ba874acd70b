-- The limits of a count are kept.
use Rattle.std.proofs.Common.{◌≡◌, ◌≤◌, ◌<◌, ◌^◌, ◌∙◌, ℕ, true, false, not, cond, Some, sym, subst, refl, lit<, inl, inr}
use Rattle.std.proofs.lemmas.Bool.{false≢true, or_cases, and_parts}
use Rattle.std.proofs.lemmas.Map.Lookups.{exact_unsigned}
use Rattle.std.specs.Cmp.{nat_cmp_total, Equal-is}
use Rattle.std.specs.Prelude.{IfSome}
use Rattle.std.specs.Ordering.{eq_by_cmp, nat_cmp}
use Rattle.std.specs.FinMap as map
use Rattle.std.specs.FinSet as set
use Rattle.zh_districts.specs.Canton.{Canton, IsCanton, has_municipality, stands, constituency_of}
use Rattle.zh_returns.specs.declared.command.Format.TheVariants.{Two}
use Rattle.zh_returns.specs.declared.row.Row.{Row}
use Rattle.zh_returns.specs.declared.entry.Entry.{Entry}
use Rattle.zh_returns.specs.Limits.{IsTally, IsEntry, most_votes}
use Rattle.zh_returns.specs.Keys.{key_cmp}
use Rattle.zh_returns.specs.declared.entry.Origin.{Origin}
use Rattle.zh_returns.specs.Origin.{IsOriginOf}
use Rattle.zh_returns.specs.Step.{entry_of}
use Rattle.zh_returns.specs.Tally.{Tally, empty}
use Rattle.zh_returns.proofs.KeyLemmas.{keys_total, keys_equal}

-- a map without entries meets any condition on what is held under a key
none_held : (P : Entry → Type 0) (key : ℕ × ℕ) → IfSome (map.get (map.empty {R = key_cmp}) key) P
none_held P key = subst (λ held. IfSome held P) (sym (map.get-empty key_cmp key)) tt

pub IsTally-empty : (canton : Canton) → IsCanton canton → IsTally (empty canton)
IsTally-empty canton limits = record {
  canton = limits;
  entries = λ municipality list. none_held IsEntry (municipality, list);
  lists = λ municipality list. none_held (λ _. stands canton (constituency_of canton municipality) list ≡ true) (municipality, list);
  municipalities = λ municipality list. none_held (λ _. has_municipality canton municipality ≡ true) (municipality, list);
  closed = λ municipality is. absurd (false≢true (sym (set.contains-empty nat_cmp municipality) ∙ is));
  accepted = lit< tt;
}

-- what holds for each entry, and for a new one, holds for each after the new one was put in
each_with : (P : ℕ × ℕ → Entry → Type 0) (entries : map.FinMap key_cmp Entry) (at : ℕ × ℕ) (entry : Entry) → P at entry →
    (key : ℕ × ℕ) → IfSome (map.get entries key) (P key) → IfSome (map.get (map.insert entries at entry) key) (P key)
each_with P entries at entry new key old =
    subst (λ held. IfSome held (P key)) (sym (map.get-insert keys_total entries at entry key)) (
    elim (eq_by_cmp key_cmp key at) as (λ same. eq_by_cmp key_cmp key at ≡ same → IfSome (cond same (Some entry) (map.get entries key)) (P key)) [
      | true ↦ λ is. subst (λ k. P k entry) (sym (keys_equal key at is)) new
      | false ↦ λ is. old
    ] refl
    )

-- the entry of a row
pub entry_said : (origin : Origin) (row : Row) → IsOriginOf Two origin → (1 ≤ row.number) × (row.number < 2 ^ 32) → row.votes ≤ most_votes → IsEntry (entry_of origin row)
entry_said origin row said number votes = record { origin = said; number = number; votes = votes }

pub IsTally-insert : (tally : Tally) (municipality list : ℕ) (entry : Entry) → IsTally tally → has_municipality tally.canton municipality
    ≡ true → stands tally.canton (constituency_of tally.canton municipality) list ≡ true → IsEntry entry →
    IsTally (record tally { entries = map.insert tally.entries (municipality, list) entry })
IsTally-insert tally municipality list entry limits there stands_there new = record {
  canton = limits.canton;
  entries = λ m l. each_with (λ _. IsEntry) tally.entries (municipality, list) entry new (m, l) (limits.entries m l);
  lists = λ m l. each_with (λ key _. stands tally.canton (constituency_of tally.canton key.0) key.1 ≡ true) tally.entries (municipality, list) entry stands_there (m, l) (limits.lists m l);
  municipalities = λ m l. each_with (λ key _. has_municipality tally.canton key.0 ≡ true) tally.entries (municipality, list) entry there (m, l) (limits.municipalities m l);
  closed = limits.closed;
  accepted = limits.accepted;
}

pub IsTally-close : (tally : Tally) (municipality : ℕ) → IsTally tally → has_municipality tally.canton municipality ≡ true → IsTally (record tally { closed = set.insert tally.closed municipality })
IsTally-close tally municipality limits there = record {
  canton = limits.canton;
  entries = limits.entries;
  lists = limits.lists;
  municipalities = limits.municipalities;
  closed = λ m is. elim (or_cases (eq_by_cmp nat_cmp m municipality) (set.contains tally.closed m) (sym (set.contains-insert nat_cmp_total tally.closed municipality m) ∙ is)) [
    | inl same ↦ subst (λ n. has_municipality tally.canton n ≡ true) (sym (exact_unsigned m municipality ((Equal-is (nat_cmp m municipality)).0 same))) there
    | inr old ↦ limits.closed m old
  ];
  accepted = limits.accepted;
}

pub IsTally-reopen : (tally : Tally) (municipality : ℕ) → IsTally tally → IsTally (record tally { closed = set.remove tally.closed municipality })
IsTally-reopen tally municipality limits = record {
  canton = limits.canton;
  entries = limits.entries;
  lists = limits.lists;
  municipalities = limits.municipalities;
  closed = λ m is. limits.closed m ((and_parts (not (eq_by_cmp nat_cmp m municipality)) (set.contains tally.closed m) (sym (set.contains-remove nat_cmp_total tally.closed municipality m) ∙ is)).1);
  accepted = limits.accepted;
}
