use Rattle.std.proofs.Common.{◌≡◌, ◌∙◌, ℕ, Some, ap, sym, subst}
use Rattle.zh_districts.specs.Canton.{Canton, constituency_of}
use Rattle.zh_returns.specs.declared.entry.Entry.{Entry}
use Rattle.zh_returns.specs.Limits.{IsTally}
use Rattle.zh_returns.specs.Tally.{Tally, held}
use Rattle.zh_totals.specs.declared.totals.Change.{Change}
use Rattle.zh_totals.specs.Totals.{VoteTotals}
use Rattle.zh_totals.specs.Counting.{votes_of, totals_of}
use Rattle.zh_totals.specs.Changes.{IsChange, noted}
use Rattle.zh_totals.proofs.RestrictingLemmas.{next_not_held}
use Rattle.zh_totals.proofs.ChangeLemmas.{IsNext, next_noted}
use Rattle.zh_totals.proofs.totals.Totals.note_entry.Goals as goal

abbrev first_votes : ℕ → ℕ → ℕ → Change
first_votes constituency list votes = record { constituency = constituency; list = list; before = 0; after = votes }

-- the change that is noted is that of the entry
next : (tally : Tally) (canton : Canton) (m l at votes : ℕ) (entry : Entry) → IsTally tally → Some entry ≡ held tally m l →
    canton ≡ tally.canton → at ≡ constituency_of canton m → votes ≡ votes_of entry → IsNext tally m l (first_votes at l votes)
next tally canton m l at votes entry limits is canton_is at_is votes_are =
    let constituency : constituency_of tally.canton m ≡ at = sym (at_is ∙ ap (λ (c : Canton). constituency_of c m) canton_is) in
    subst (IsNext tally m l) (ap (λ (n : ℕ). first_votes n l (votes_of entry)) constituency ∙ ap (first_votes at l) (sym votes_are)) (next_noted tally m l entry limits (sym is))

pub note-requires : goal.note-requires
note-requires c =
    let change = first_votes c.constituency_of.result c.args.list c.unwrap_or.result in
    subst (λ (t : VoteTotals). IsChange t change) (sym c.requires.before) (
    (next c.args.count.now c.setup.result.now c.args.municipality c.args.list c.constituency_of.result c.unwrap_or.result c.in-Some.entry
    c.requires.limits c.in-Some.ensures.held c.setup.ensures c.constituency_of.ensures.number c.unwrap_or.ensures).can)

pub returns-in-Some : goal.returns-in-Some
returns-in-Some c =
    let change = first_votes c.constituency_of.result c.args.list c.unwrap_or.result in
    c.note.ensures ∙ ap (λ (t : VoteTotals). noted t change) c.requires.before
    ∙ (next c.args.count.now c.setup.result.now c.args.municipality c.args.list c.constituency_of.result c.unwrap_or.result c.in-Some.entry
    c.requires.limits c.in-Some.ensures.held c.setup.ensures c.constituency_of.ensures.number c.unwrap_or.ensures).after

pub returns-in_default : goal.returns-in_default
returns-in_default c =
    c.requires.before ∙ sym (ap totals_of (next_not_held c.args.count.now c.args.municipality c.args.list (sym c.entry.ensures.held ∙ c.in_default.is)))
