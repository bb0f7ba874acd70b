-- What an accepted command puts into the count is within the limits.
use Rattle.std.proofs.Common.{◌≡◌, ◌≤◌, ◌+◌, ◌==◌, ◌∙◌, ℕ, nat_lt, Bool, true, false, cond, List, map, Option, Some, None, sym, ap, subst, refl, arith}
use Rattle.std.specs.Prelude.{slice_get}
use Rattle.std.specs.FinSet as set
use Rattle.std.proofs.lemmas.Bool.{true≢false, ltb-false, eqb-true}
use Rattle.std.proofs.lemmas.Bool.Decides.{nat_tests}
use Rattle.std.proofs.lemmas.List.{get_or-map, length-map}
use Rattle.std.proofs.lemmas.List.Elements.{All-get_or}
use Rattle.std.proofs.lemmas.Option.{slice_get_within, get_or_from_slice_get}
use Rattle.zh_districts.specs.Misplaced.{misplaced}
use Rattle.zh_districts.specs.declared.setup.Misplaced.{Misplaced}
use Rattle.zh_returns.specs.declared.entry.Entry.{Entry}
use Rattle.zh_returns.specs.declared.row.Row.{Row}
use Rattle.zh_returns.specs.declared.judgement.Verdict.{Verdict}
use Rattle.zh_returns.specs.declared.judgement.Verdict.TheVariants.{Accept, Same, Refused}
use Rattle.zh_returns.specs.declared.judgement.Reason.TheVariants as reasons
use Rattle.zh_returns.specs.Judgement.{judge_row, judge_content, unless_misplaced, against, same_content, too_many, is_refusal, of_all}
use Rattle.zh_returns.specs.Rows.{IsSpeakableRow, IsBatch}
use Rattle.zh_returns.specs.Step.{MayStand}
use Rattle.zh_returns.specs.Tally.{Tally, held}
use Rattle.zh_returns.proofs.VerdictLemmas.{none_refused}

-- the list of a content stands in its municipality, and the votes are not too many
pub record Passes (tally : Tally) (municipality list : ℕ) (content : Option ℕ) : Type 0 where
  pub place : misplaced tally.canton municipality list ≡ None
  pub enough : too_many content ≡ false

-- the tests of a content, in their order
tested : (place : Option Misplaced) (many closed : Bool) (last : Verdict)
    → is_refusal (unless_misplaced place (cond many (Refused reasons.Votes) (cond closed (Refused reasons.Closed) last))) ≡ false →
    (place ≡ None) × (many ≡ false)
tested (Some misplaced) many closed last passes = absurd (true≢false passes)
tested None true closed last passes = absurd (true≢false passes)
tested None false closed last passes = (refl, refl)

pub passes : (tally : Tally) (municipality list number : ℕ) (content : Option ℕ) → is_refusal (judge_content tally municipality list number content) ≡ false → Passes tally municipality list content
passes tally municipality list number content is =
    let t = tested (misplaced tally.canton municipality list) (too_many content) (set.contains tally.closed municipality) (against (held tally municipality list) number content) is in
    record { place = t.0; enough = t.1 }

-- so a row that is not refused may be put into the count
pub row_may_stand : (tally : Tally) (row : Row) → 1 ≤ row.number → is_refusal (judge_row tally row) ≡ false → MayStand tally.canton row
row_may_stand tally row number is =
    let p = passes tally row.municipality row.list row.number (Some row.votes) is in
    record { place = p.place; number = number; votes = ltb-false 1000000000 row.votes p.enough }

-- a verdict that is not a refusal is the one after the tests
reached : (place : Option Misplaced) (many closed : Bool) (last verdict : Verdict) → is_refusal verdict ≡ false
    → unless_misplaced place (cond many (Refused reasons.Votes) (cond closed (Refused reasons.Closed) last)) ≡ verdict → last ≡ verdict
reached (Some misplaced) many closed last verdict fine is = absurd (true≢false (ap is_refusal is ∙ fine))
reached None true closed last verdict fine is = absurd (true≢false (ap is_refusal is ∙ fine))
reached None false true last verdict fine is = absurd (true≢false (ap is_refusal is ∙ fine))
reached None false false last verdict fine is = is

-- an accepted number is 1, or one more than the number held
number_from_one : (entry : Option Entry) (number : ℕ) (content : Option ℕ) → against entry number content ≡ Accept → 1 ≤ number
number_from_one None number content is = grind (arith, nat_tests)
number_from_one (Some entry) number content is = grind (arith, nat_tests)

pub accepted_from_one : (tally : Tally) (municipality list number : ℕ) (content : Option ℕ) → judge_content tally municipality list number content ≡ Accept → 1 ≤ number
accepted_from_one tally municipality list number content is =
    number_from_one (held tally municipality list) number content (
    reached (misplaced tally.canton municipality list) (too_many content) (set.contains tally.closed municipality) (against (held tally municipality list) number content) Accept refl is
    )

-- this number and these votes are already held
pub record IsHeld (found : Option Entry) (number votes : ℕ) : Type 0 where
  pub entry : Entry
  pub is : found ≡ Some entry
  pub number_is : entry.number ≡ number
  pub votes_are : entry.votes ≡ Some votes

same_votes : (votes : ℕ) (content : Option ℕ) → same_content (Some votes) content ≡ true → content ≡ Some votes
same_votes votes None is = absurd (true≢false (sym is))
same_votes votes (Some held) is = ap Some (sym (eqb-true votes held is))

same_tests : (lower equal same next : Bool) → cond lower (Refused reasons.Stale)
    (cond equal (cond same Same (Refused reasons.Conflict)) (cond next Accept (Refused reasons.Gap))) ≡ Same → (equal ≡ true) × (same ≡ true)
same_tests true equal same next is = absurd (cc)
same_tests false true true next is = (refl, refl)
same_tests false true false next is = absurd (cc)
same_tests false false same true is = absurd (cc)
same_tests false false same false is = absurd (cc)

first_not_same : (first : Bool) → cond first Accept (Refused reasons.Gap) ≡ Same → ⊥
first_not_same true is = cc
first_not_same false is = cc

against_same : (entry : Option Entry) (number votes : ℕ) → against entry number (Some votes) ≡ Same → IsHeld entry number votes
against_same None number votes is = absurd (first_not_same (number == 1) is)
against_same (Some entry) number votes is =
    let t = same_tests (nat_lt number entry.number) (number == entry.number) (same_content (Some votes) entry.votes) (number == entry.number + 1) is in
    record { entry = entry; is = refl; number_is = sym (eqb-true number entry.number t.0); votes_are = same_votes votes entry.votes t.1 }

-- so a row that is judged the same is already held
pub row_held : (tally : Tally) (row : Row) → judge_row tally row ≡ Same → IsHeld (held tally row.municipality row.list) row.number row.votes
row_held tally row is =
    against_same (held tally row.municipality row.list) row.number row.votes (
    reached (misplaced tally.canton row.municipality row.list) (too_many (Some row.votes)) (set.contains tally.closed row.municipality)
    (against (held tally row.municipality row.list) row.number (Some row.votes)) Same refl is
    )

-- no row of an accepted batch is refused
pub row_unrefused : (tally : Tally) (rows : List Row) (i : ℕ) (row : Row) → of_all (map (judge_row tally) rows) ≡ Accept → slice_get rows i ≡ Some row → is_refusal (judge_row tally row) ≡ false
row_unrefused tally rows i row accepted is =
    let within = slice_get_within rows i row is in
    ap (λ (r : Row). is_refusal (judge_row tally r)) (sym (get_or_from_slice_get rows i row row is))
    ∙ ap is_refusal (sym (get_or-map (judge_row tally) rows i row Accept within))
    ∙ All-get_or (λ v. is_refusal v ≡ false) (map (judge_row tally) rows) i Accept (omega (arith, length-map rows (judge_row tally))) (none_refused (map (judge_row tally) rows) accepted)

-- so its rows may be put into the count
pub rows_may_stand : (tally : Tally) (rows : List Row) (i : ℕ) (row : Row) → IsBatch rows → of_all (map (judge_row tally) rows) ≡ Accept → slice_get rows i ≡ Some row → MayStand tally.canton row
rows_may_stand tally rows i row batch accepted is =
    let here = get_or_from_slice_get rows i row row is in
    let speakable : IsSpeakableRow row = subst IsSpeakableRow here (All-get_or IsSpeakableRow rows i row (slice_get_within rows i row is) batch.are_rows.speakable) in
    row_may_stand tally row speakable.number.0 (row_unrefused tally rows i row accepted is)
