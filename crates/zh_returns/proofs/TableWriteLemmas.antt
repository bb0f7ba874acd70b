-- What a write into the tables does to the count.
use Rattle.std.proofs.Common.{◌≡◌, ◌≤◌, ◌<◌, ◌-◌, ◌∙◌, ℕ, ap, arith, length, set, Some, true, false}
use Rattle.std.specs.FinMap as map
use Rattle.std.specs.FinSet as set_of
use Rattle.zh_districts.specs.Canton.{has_municipality, stands, constituency_of}
use Rattle.zh_returns.specs.declared.count.Count.TheInside.{Inside}
use Rattle.zh_returns.specs.declared.entry.Entry.{Entry}
use Rattle.zh_returns.specs.Inside.{tally_of, IsInside}
use Rattle.zh_returns.specs.Tables.{entries_of, closed_of, place_of}
use Rattle.zh_returns.specs.Tally.{Tally}
use Rattle.zh_returns.proofs.EntryTableLemmas.{entries_of-put}
use Rattle.zh_returns.proofs.FlagLemmas.{closed_of-set, closed_of-clear}
use Rattle.zh_districts.proofs.CallerLemmas.{municipality_within, list_within}

-- an entry that is written at the place of its key is put into the count
pub tally_of-put : (c : Inside) (tally : Tally) (place municipality list : ℕ) (entry : Entry) → tally_of c ≡ tally → IsInside c →
    has_municipality tally.canton municipality ≡ true → stands tally.canton (constituency_of tally.canton municipality) list ≡ true → place ≡ place_of municipality list → place < 16384 →
    ◌≡◌ {A = Tally} (record (tally_of c) { entries = entries_of (set c.entries.items place (Some entry)) }) (record tally { entries = map.insert tally.entries (municipality, list) entry })
tally_of-put c tally place municipality list entry view inside there stands_there place_is in_places =
    let number = municipality_within tally.canton municipality there in
    let listed = list_within tally.canton (constituency_of tally.canton municipality) list stands_there in
    let within : list ≤ 32 = omega (arith, listed.1, inside.tally.canton.groups.1, ap (λ (t : Tally). length t.canton.groups) view) in
    let in_table : place < length c.entries.items = omega (arith, inside.places) in
    ap (λ entries. record (tally_of c) { entries = entries }) (entries_of-put c.entries.items place municipality list entry number.0 listed.0 within place_is in_table)
    ∙ ap (λ (t : Tally). record t { entries = map.insert t.entries (municipality, list) entry }) view

-- if the flag of a municipality is set, the municipality is closed in the count
pub tally_of-close : (c : Inside) (tally : Tally) (municipality : ℕ) → tally_of c ≡ tally → IsInside c → has_municipality tally.canton municipality ≡ true →
    ◌≡◌ {A = Tally} (record (tally_of c) { closed = closed_of (set c.closed.items (municipality - 1) true) }) (record tally { closed = set_of.insert tally.closed municipality })
tally_of-close c tally municipality view inside there =
    let number = municipality_within tally.canton municipality there in
    let within : municipality ≤ length c.closed.items = omega (arith, inside.flags, inside.tally.canton.municipalities.1, ap (λ (t : Tally). length t.canton.municipalities) view) in
    ap (λ closed. record (tally_of c) { closed = closed }) (closed_of-set c.closed.items municipality number.0 within)
    ∙ ap (λ (t : Tally). record t { closed = set_of.insert t.closed municipality }) view

-- if the flag is cleared, the municipality is open in the count
pub tally_of-reopen : (c : Inside) (tally : Tally) (municipality : ℕ) → tally_of c ≡ tally → IsInside c → has_municipality tally.canton municipality ≡ true →
    ◌≡◌ {A = Tally} (record (tally_of c) { closed = closed_of (set c.closed.items (municipality - 1) false) }) (record tally { closed = set_of.remove tally.closed municipality })
tally_of-reopen c tally municipality view inside there =
    let number = municipality_within tally.canton municipality there in
    let within : municipality ≤ length c.closed.items = omega (arith, inside.flags, inside.tally.canton.municipalities.1, ap (λ (t : Tally). length t.canton.municipalities) view) in
    ap (λ closed. record (tally_of c) { closed = closed }) (closed_of-clear c.closed.items municipality number.0 within)
    ∙ ap (λ (t : Tally). record t { closed = set_of.remove t.closed municipality }) view
