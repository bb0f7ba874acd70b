-- The changes that the totals of a count can take, and the totals afterwards.
use Rattle.std.proofs.Common.{◌≡◌, ◌∙◌, ℕ, ◌+◌, ◌≤◌, true, Some, IfSome, sym, ap, subst, arith}
use Rattle.zh_districts.specs.Canton.{has_municipality, stands, constituency_of}
use Rattle.zh_returns.specs.declared.command.Format.TheVariants.{Two}
use Rattle.zh_returns.specs.declared.row.Row.{Row}
use Rattle.zh_returns.specs.declared.entry.Entry.{Entry}
use Rattle.zh_returns.specs.Limits.{IsTally, IsEntry}
use Rattle.zh_returns.specs.Origin.{no_desk}
use Rattle.zh_returns.specs.Step.{entry_of}
use Rattle.zh_returns.specs.Tally.{Tally, held}
use Rattle.zh_returns.proofs.CallerLemmas.{IsTally-insert, entry_said, no_desk_said}
use Rattle.zh_districts.proofs.CallerLemmas.{list_within}
use Rattle.zh_totals.specs.declared.totals.Change.{Change}
use Rattle.zh_totals.specs.Totals.{all_votes}
use Rattle.zh_totals.specs.Counting.{votes_of, totals_of}
use Rattle.zh_totals.specs.Changes.{IsChange, noted, change_to}
use Rattle.zh_totals.specs.Parts.{held_before}
use Rattle.zh_totals.proofs.NotingLemmas.{IsThere, with_entry, noted_entry}
use Rattle.zh_totals.proofs.RestrictingLemmas.{next_held, none_held_yet, IsTally-before}
use Rattle.zh_totals.proofs.BoundLemmas.{key_there, can_note_entry, few_votes, few}

-- a list that stands in a municipality has a place in the totals
standing_there : (tally : Tally) (m l : ℕ) → IsTally tally → has_municipality tally.canton m ≡ true → stands tally.canton (constituency_of tally.canton m) l ≡ true → IsThere tally.canton m l
standing_there tally m l limits there standing =
    let list = list_within tally.canton (constituency_of tally.canton m) l standing in
    key_there tally.canton m l limits.canton there list.0 list.1

-- the totals of a count can take any votes that a return may have, for a list that stands
pub votes_can : (tally : Tally) (m l votes : ℕ) → IsTally tally → has_municipality tally.canton m ≡ true → stands tally.canton (constituency_of tally.canton m) l ≡ true → votes ≤ 1000000000 →
    IsChange (totals_of tally) (change_to tally m l votes)
votes_can tally m l votes limits there standing enough =
    let key = standing_there tally m l limits there standing in
    let row : Row = record { municipality = m; list = l; number = 1; votes = votes } in
    let entry = entry_of no_desk row in
    let can = can_note_entry tally m l votes key in
    let most = few_votes (with_entry tally m l entry) (IsTally-insert tally m l entry limits there standing (entry_said no_desk row (no_desk_said Two) (omega arith, omega arith) enough)) in
    let same : all_votes (totals_of (with_entry tally m l entry)) ≡ all_votes (noted (totals_of tally) (change_to tally m l votes)) = ap all_votes (noted_entry tally m l entry key) in
    record { constituency = key.constituency; list = key.list; before = can.before; after = enough; most = omega arith }

-- if an entry replaces what is held, its change is noted in the totals
pub entry_noted : (tally : Tally) (m l : ℕ) (entry : Entry) → IsTally tally → has_municipality tally.canton m ≡ true → stands tally.canton (constituency_of tally.canton m) l ≡ true →
    totals_of (with_entry tally m l entry) ≡ noted (totals_of tally) (change_to tally m l (votes_of entry))
entry_noted tally m l entry limits there standing = noted_entry tally m l entry (standing_there tally m l limits there standing)

-- the change of an entry that is noted in the totals of the entries before it
abbrev pub first_change : Tally → ℕ → ℕ → ℕ → Change
first_change tally m l votes = record { constituency = constituency_of tally.canton m; list = l; before = 0; after = votes }

pub record IsNext (tally : Tally) (m l : ℕ) (change : Change) : Type 0 where
  pub can : IsChange (totals_of (held_before tally m l)) change
  pub after : noted (totals_of (held_before tally m l)) change ≡ totals_of (held_before tally m (l + 1))

pub next_noted : (tally : Tally) (m l : ℕ) (entry : Entry) → IsTally tally → held tally m l ≡ Some entry → IsNext tally m l (first_change tally m l (votes_of entry))
next_noted tally m l entry limits is =
    let part = held_before tally m l in
    let part_limits = IsTally-before tally m l limits in
    let there : has_municipality tally.canton m ≡ true = subst (λ h. IfSome h (λ _. has_municipality tally.canton m ≡ true)) is (limits.municipalities m l) in
    let standing : stands tally.canton (constituency_of tally.canton m) l ≡ true = subst (λ h. IfSome h (λ _. stands tally.canton (constituency_of tally.canton m) l ≡ true)) is (limits.lists m l) in
    let entry_limits : IsEntry entry = subst (λ h. IfSome h IsEntry) is (limits.entries m l) in
    let change : change_to part m l (votes_of entry) ≡ first_change tally m l (votes_of entry) =
    ap (λ (n : ℕ). record { constituency = constituency_of tally.canton m; list = l; before = n; after = votes_of entry })
    (none_held_yet tally m l) in
    record {
      can = subst (IsChange (totals_of part)) change (votes_can part m l (votes_of entry) part_limits there standing (few entry.votes entry_limits.votes));
      after = ap (noted (totals_of part)) (sym change) ∙ sym (entry_noted part m l entry part_limits there standing) ∙ ap totals_of (sym (next_held tally m l entry is));
    }
