-- The totals of a count after an accepted command.
use Rattle.std.proofs.Common.{◌≡◌, ◌∙◌, ℕ, zero, suc, ◌+◌, ◌≤◌, Bool, true, false, cond, List, [], ◌∷◌, length, map, take, Option, Some, None, sym, ap, subst, refl, arith, inl, inr}
use Rattle.std.specs.Prelude.{slice_get, unwrap_or}
use Rattle.std.specs.Ordering.{eq_by_cmp}
use Rattle.std.specs.FinMap as map_of
use Rattle.std.proofs.lemmas.Bool.{true≢false, ltb-false}
use Rattle.std.proofs.lemmas.List.{take_all, map-append}
use Rattle.std.proofs.lemmas.List.Elements.{All-get_or}
use Rattle.std.proofs.lemmas.List.Sums.{fold-append}
use Rattle.std.proofs.lemmas.Option.{slice_get_cases, slice_get_within}
use Rattle.std.specs.Option.{option_map_or}
use Rattle.zh_districts.specs.Canton.{constituency_of}
use Rattle.zh_returns.specs.declared.command.Command.{Command}
use Rattle.zh_returns.specs.declared.command.Command.TheVariants as commands
use Rattle.zh_returns.specs.declared.entry.Entry.{Entry}
use Rattle.zh_returns.specs.declared.row.Row.{Row}
use Rattle.zh_returns.specs.declared.judgement.Verdict.{Verdict}
use Rattle.zh_returns.specs.declared.judgement.Verdict.TheVariants.{Accept, Same, Refused}
use Rattle.zh_returns.specs.Judgement.{judge, judge_row, judge_content, is_refusal, is_accept, of_all, too_many}
use Rattle.zh_returns.specs.Limits.{IsTally}
use Rattle.zh_returns.specs.Rows.{IsBatch, IsSpeakableRow}
use Rattle.zh_returns.specs.Spelling.{HasNumbers}
use Rattle.zh_returns.specs.declared.command.Format.TheVariants.{Two}
use Rattle.zh_returns.specs.Step.{entry_of, changed, MayStand}
use Rattle.zh_returns.specs.declared.entry.Origin.{Origin}
use Rattle.zh_returns.specs.Origin.{IsOriginOf}
use Rattle.zh_returns.specs.Tally.{Tally, held}
use Rattle.zh_returns.specs.Keys.{key_cmp}
use Rattle.zh_returns.proofs.CallerLemmas.{passes, row_held, row_unrefused, rows_may_stand, IsHeld, IsTally-insert, entry_said, origin_named, rows_more, upto, held_still, next_row, passed_row}
use Rattle.zh_districts.proofs.CallerLemmas.{placed}
use Rattle.zh_returns.proofs.CallerLemmas.{keys_total, keys_equal}
use Rattle.zh_totals.specs.declared.totals.Change.{Change}
use Rattle.zh_totals.specs.Totals.{VoteTotals}
use Rattle.zh_totals.specs.Counting.{votes_of, totals_of}
use Rattle.zh_totals.specs.Changes.{IsChange, noted, all_noted, change_to, row_change, changes_of}
use Rattle.zh_totals.proofs.NotingLemmas.{with_entry}
use Rattle.zh_totals.proofs.RestrictingLemmas.{same_tally}
use Rattle.zh_totals.proofs.ChangeLemmas.{entry_noted, votes_can}

-- a count does not change if what is held under a key is put there again
get_put : (tally : Tally) (m l : ℕ) (entry : Entry) (key : ℕ × ℕ) (here : Bool) → held tally m l ≡ Some entry → eq_by_cmp key_cmp key (m, l)
    ≡ here → cond here (Some entry) (map_of.get tally.entries key) ≡ map_of.get tally.entries key
get_put tally m l entry key true is same = sym (ap (map_of.get tally.entries) (keys_equal key (m, l) same) ∙ is)
get_put tally m l entry key false is other = refl

held_put : (tally : Tally) (m l : ℕ) (entry : Entry) → held tally m l ≡ Some entry → with_entry tally m l entry ≡ tally
held_put tally m l entry is =
    same_tally tally (map_of.insert tally.entries (m, l) entry) tally.entries (λ key.
    map_of.get-insert keys_total tally.entries (m, l) entry key
    ∙ get_put tally m l entry key (eq_by_cmp key_cmp key (m, l)) is refl)

-- a row makes the same change to the count after the rows before it as to the count before the batch
row_change_still : (origin : Origin) (tally : Tally) (rows : List Row) (i : ℕ) (row : Row) → IsBatch rows → slice_get rows i ≡ Some row
    → change_to (upto origin tally rows i) row.municipality row.list row.votes ≡ row_change tally row
row_change_still origin tally rows i row batch is =
    ap (λ h. record {
      constituency = constituency_of tally.canton row.municipality;
      list = row.list;
      before = option_map_or votes_of h 0;
      after = row.votes;
    }) (held_still origin tally rows i row batch is)

-- after rows that it accepts, a count is still within its limits
more_limits : (origin : Origin) (tally : Tally) (rows : List Row) (i : ℕ) (row : Row) (accepted : Bool) → is_accept (judge_row tally row)
    ≡ accepted → slice_get rows i ≡ Some row → IsOriginOf Two origin → IsSpeakableRow row → MayStand tally.canton row
    → IsTally (upto origin tally rows i) → IsTally (upto origin tally rows (i + 1))
more_limits origin tally rows i row true judged is named speakable may before =
    let there = placed tally.canton row.municipality row.list may.place in
    rw (next_row origin tally rows i row is judged) (
    IsTally-insert (upto origin tally rows i) row.municipality row.list (entry_of origin row) before there.0 there.1 (entry_said origin row named speakable.number may.votes))
more_limits origin tally rows i row false judged is named speakable may before = rw (passed_row origin tally rows i row is judged) before

IsTally-upto : (origin : Origin) (tally : Tally) (rows : List Row) (i : ℕ) → IsOriginOf Two origin → IsTally tally → IsBatch rows
    → of_all (map (judge_row tally) rows) ≡ Accept → i ≤ length rows → IsTally (upto origin tally rows i)
IsTally-upto origin tally rows zero named limits batch accepted within = limits
IsTally-upto origin tally rows (suc i) named limits batch accepted within =
    let next : suc i ≡ i + 1 = omega arith in
    elim (slice_get_cases rows i).1 [
      | inl found ↦
          let row = found.0 in
          let speakable : IsSpeakableRow row = subst IsSpeakableRow found.3 (All-get_or IsSpeakableRow rows i row found.1 batch.are_rows.speakable) in
          rw next (
          more_limits origin tally rows i row (is_accept (judge_row tally row)) refl found.2 named speakable
          (rows_may_stand tally rows i row batch accepted found.2) (IsTally-upto origin tally rows i named limits batch accepted (omega arith)))
      | inr past ↦ absurd (omega arith)
    ]

-- a row that is already held changes no total
held_noted : (tally : Tally) (row : Row) → IsTally tally → MayStand tally.canton row → IsHeld (held tally row.municipality row.list)
    row.number row.votes → totals_of tally ≡ noted (totals_of tally) (row_change tally row)
held_noted tally row limits may same =
    let there = placed tally.canton row.municipality row.list may.place in
    ap totals_of (sym (held_put tally row.municipality row.list same.entry same.is))
    ∙ entry_noted tally row.municipality row.list same.entry limits there.0 there.1
    ∙ ap (λ content. noted (totals_of tally) (change_to tally row.municipality row.list (unwrap_or content 0))) same.votes_are

-- the totals after one more row of a batch are those before it, with the row's change noted
row_judged : (origin : Origin) (tally : Tally) (rows : List Row) (i : ℕ) (row : Row) (verdict : Verdict) → IsTally (upto origin tally rows i)
    → IsBatch rows → slice_get rows i ≡ Some row → MayStand tally.canton row → judge_row tally row ≡ verdict → is_refusal verdict ≡ false →
    totals_of (upto origin tally rows (i + 1)) ≡ noted (totals_of (upto origin tally rows i)) (row_change (upto origin tally rows i) row)
row_judged origin tally rows i row Accept limits batch is may judged fine =
    let there = placed tally.canton row.municipality row.list may.place in
    ap totals_of (next_row origin tally rows i row is (ap is_accept judged))
    ∙ entry_noted (upto origin tally rows i) row.municipality row.list (entry_of origin row) limits there.0 there.1
row_judged origin tally rows i row Same limits batch is may judged fine =
    ap totals_of (passed_row origin tally rows i row is (ap is_accept judged))
    ∙ held_noted (upto origin tally rows i) row limits may (
    subst (λ entry. IsHeld entry row.number row.votes) (sym (held_still origin tally rows i row batch is)) (row_held tally row judged))
row_judged origin tally rows i row (Refused reason) limits batch is may judged fine = absurd (true≢false fine)

-- so the totals can take the next row
pub record IsRowTaken (before next : Tally) (change : Change) : Type 0 where
  pub can : IsChange (totals_of before) change
  pub after : totals_of next ≡ noted (totals_of before) change

pub row_taken : (origin : Origin) (tally : Tally) (rows : List Row) (i : ℕ) (row : Row) → IsOriginOf Two origin → IsTally tally → IsBatch rows
    → of_all (map (judge_row tally) rows) ≡ Accept → slice_get rows i ≡ Some row
    → IsRowTaken (upto origin tally rows i) (upto origin tally rows (i + 1)) (row_change tally row)
row_taken origin tally rows i row named limits batch accepted is =
    let within = slice_get_within rows i row is in
    let before = IsTally-upto origin tally rows i named limits batch accepted (omega arith) in
    let may = rows_may_stand tally rows i row batch accepted is in
    let there = placed tally.canton row.municipality row.list may.place in
    rw (sym (row_change_still origin tally rows i row batch is)) (record {
      can = votes_can (upto origin tally rows i) row.municipality row.list row.votes before there.0 there.1 may.votes;
      after = row_judged origin tally rows i row (judge_row tally row) before batch is may refl (row_unrefused tally rows i row accepted is);
    })

rows_noted : (origin : Origin) (tally : Tally) (rows : List Row) (i : ℕ) → IsOriginOf Two origin → IsTally tally → IsBatch rows → of_all (map (judge_row tally) rows) ≡ Accept → i ≤ length rows →
    totals_of (upto origin tally rows i) ≡ all_noted (totals_of tally) (map (row_change tally) (take i rows))
rows_noted origin tally rows zero named limits batch accepted within = refl
rows_noted origin tally rows (suc i) named limits batch accepted within =
    let next : suc i ≡ i + 1 = omega arith in
    elim (slice_get_cases rows i).1 [
      | inl found ↦
          let row = found.0 in
          rw next (
          (row_taken origin tally rows i row named limits batch accepted found.2).after
          ∙ ap (λ (t : VoteTotals). noted t (row_change tally row)) (rows_noted origin tally rows i named limits batch accepted (omega arith))
          ∙ rw (rows_more rows i row found.2) (rw (map-append (row_change tally) (take i rows) (row ∷ [])) (
          sym (fold-append noted (totals_of tally) (map (row_change tally) (take i rows)) (row_change tally row ∷ [])))))
      | inr past ↦ absurd (omega arith)
    ]

-- the totals of a count can take the change of an accepted content and are then those of the count with this content
pub record IsTaken (tally : Tally) (m l : ℕ) (entry : Entry) : Type 0 where
  pub can : IsChange (totals_of tally) (change_to tally m l (votes_of entry))
  pub after : totals_of (with_entry tally m l entry) ≡ noted (totals_of tally) (change_to tally m l (votes_of entry))

enough_votes : (content : Option ℕ) → too_many content ≡ false → unwrap_or content 0 ≤ 1000000000
enough_votes None is = omega arith
enough_votes (Some votes) is = ltb-false 1000000000 votes is

pub taken : (tally : Tally) (m l : ℕ) (entry : Entry) → IsTally tally → judge_content tally m l entry.number entry.votes ≡ Accept → IsTaken tally m l entry
taken tally m l entry limits accepted =
    let p = passes tally m l entry.number entry.votes (ap is_refusal accepted) in
    let there = placed tally.canton m l p.place in
    record {
      can = votes_can tally m l (votes_of entry) limits there.0 there.1 (enough_votes entry.votes p.enough);
      after = entry_noted tally m l entry limits there.0 there.1;
    }

-- after an accepted command, the totals are those before it, with each of its changes noted
pub command_noted : (tally : Tally) (command : Command) → IsTally tally → HasNumbers command → judge tally command ≡ Accept
    → totals_of (changed tally command) ≡ all_noted (totals_of tally) (changes_of tally command)
command_noted tally (commands.Return desk row) limits numbers accepted =
    (taken tally row.municipality row.list (entry_of (record { desk = desk }) row) limits accepted).after
command_noted tally (commands.Withdraw desk municipality list number) limits numbers accepted =
    (taken tally municipality list (record { origin = record { desk = desk }; number = number; votes = None }) limits accepted).after
command_noted tally (commands.Close municipality) limits numbers accepted = refl
command_noted tally (commands.Reopen municipality) limits numbers accepted = refl
command_noted tally (commands.Batch desk rows) limits numbers accepted =
    let all : take (length rows) rows ≡ rows = take_all (length rows) rows (omega arith) in
    rw (sym all) (
    rows_noted (record { desk = desk }) tally rows (length rows) (origin_named (commands.Batch desk rows) numbers) limits numbers.1 accepted (omega arith))
