-- The numbers of an accepted command fit into its bytes.
use Rattle.std.proofs.Common.{◌≡◌, ◌<◌, ◌^◌, ◌∙◌, ℕ, Bool, true, false, not, cond, List, map, Option, Some, None, get_or, sym, ap, refl, arith}
use Rattle.std.specs.Prelude.{All}
use Rattle.std.specs.FinSet as set
use Rattle.std.proofs.lemmas.Bool.{ltb-false}
use Rattle.std.proofs.lemmas.List.{get_or-map, length-map}
use Rattle.std.proofs.lemmas.List.Elements.{All-get_or, All-from_get_or}
use Rattle.zh_districts.specs.Canton.{has_municipality, constituency_of}
use Rattle.zh_returns.specs.declared.command.Command.{Command}
use Rattle.zh_returns.specs.declared.command.Command.TheVariants as commands
use Rattle.zh_returns.specs.declared.row.Row.{Row}
use Rattle.zh_returns.specs.declared.judgement.Verdict.{Verdict}
use Rattle.zh_returns.specs.declared.judgement.Verdict.TheVariants.{Accept, Same, Refused}
use Rattle.zh_returns.specs.declared.judgement.Reason.TheVariants as reasons
use Rattle.zh_returns.specs.Judgement.{judge, judge_row, is_refusal, of_all}
use Rattle.zh_returns.specs.Limits.{IsTally}
use Rattle.zh_returns.specs.Rows.{FitsRow}
use Rattle.zh_returns.specs.Spelling.{FitsCommand, HasNumbers, IsSpeakable}
use Rattle.zh_returns.specs.declared.command.Format.TheVariants.{Two}
use Rattle.zh_returns.specs.Origin.{IsOriginOf, origin_of}
use Rattle.zh_returns.specs.Tally.{Tally}
use Rattle.zh_returns.proofs.JudgementLemmas.{Passes, passes}
use Rattle.zh_districts.proofs.CallerLemmas.{municipality_within, list_within, placed}
use Rattle.zh_returns.proofs.OriginLemmas.{origin_named}
use Rattle.zh_returns.proofs.VerdictLemmas.{none_refused}

municipality_fits : (tally : Tally) (municipality : ℕ) → IsTally tally → has_municipality tally.canton municipality ≡ true → municipality < 2 ^ 16
municipality_fits tally municipality limits there = omega (arith, municipality_within tally.canton municipality there, limits.canton.municipalities.1)

list_fits : (tally : Tally) (municipality list : ℕ) (content : Option ℕ) → IsTally tally → Passes tally municipality list content → list < 2 ^ 8
list_fits tally municipality list content limits p =
    omega (
      arith,
      list_within tally.canton (constituency_of tally.canton municipality) list
          (placed tally.canton municipality list p.place).1,
      limits.canton.groups.1,
    )

row_fits : (tally : Tally) (row : Row) → IsTally tally → is_refusal (judge_row tally row) ≡ false → FitsRow row
row_fits tally row limits unrefused =
    let p = passes tally row.municipality row.list row.number (Some row.votes) unrefused in
    (municipality_fits tally row.municipality limits (placed tally.canton row.municipality row.list p.place).0, list_fits tally row.municipality row.list (Some row.votes) limits p)

-- a municipality that can be closed or reopened is in the set-up
there_if : (there : Bool) (other : Verdict) → cond (not there) (Refused reasons.Municipality) other ≡ Accept → there ≡ true
there_if true other is = refl
there_if false other is = absurd (cc)

rows_fit : (tally : Tally) (rows : List Row) (d : Row) → IsTally tally → of_all (map (judge_row tally) rows) ≡ Accept → All FitsRow rows
rows_fit tally rows d limits accepted =
    All-from_get_or FitsRow rows d (λ i within.
    row_fits tally (get_or rows i d) limits (
    ap is_refusal (sym (get_or-map (judge_row tally) rows i d Accept within))
    ∙ All-get_or (λ v. is_refusal v ≡ false) (map (judge_row tally) rows) i Accept (omega (arith, length-map rows (judge_row tally))) (none_refused (map (judge_row tally) rows) accepted)
    ))

pub fits : (tally : Tally) (command : Command) → IsTally tally → IsOriginOf Two (origin_of command) → judge tally command ≡ Accept → FitsCommand command
fits tally (commands.Return desk row) limits named accepted = (named.desk, row_fits tally row limits (ap is_refusal accepted))
fits tally (commands.Withdraw desk municipality list number) limits named accepted =
    let p = passes tally municipality list number None (ap is_refusal accepted) in
    (named.desk, municipality_fits tally municipality limits (placed tally.canton municipality list p.place).0, list_fits tally municipality list None limits p)
fits tally (commands.Close municipality) limits named accepted =
    municipality_fits tally municipality limits (there_if (has_municipality tally.canton municipality) (cond (set.contains tally.closed municipality) Same Accept) accepted)
fits tally (commands.Reopen municipality) limits named accepted =
    municipality_fits tally municipality limits
    (there_if (has_municipality tally.canton municipality)
    (cond (set.contains tally.closed municipality) Accept (Refused (reasons.NotClosed municipality))) accepted)
fits tally (commands.Batch desk rows) limits named accepted = (named.desk, rows_fit tally rows (record { municipality = 0; list = 0; number = 0; votes = 0 }) limits accepted)

pub speakable : (tally : Tally) (command : Command) → IsTally tally → HasNumbers command → judge tally command ≡ Accept → IsSpeakable Two command
speakable tally (commands.Return desk row) limits numbers accepted =
    let f = fits tally (commands.Return desk row) limits (origin_named (commands.Return desk row) numbers) accepted in
    let p = passes tally row.municipality row.list row.number (Some row.votes) (ap is_refusal accepted) in
    (numbers.0, record { municipality = f.1.0; list = f.1.1; number = (numbers.1, numbers.2); votes = omega (arith, ltb-false 1000000000 row.votes p.enough) })
speakable tally (commands.Withdraw desk municipality list number) limits numbers accepted =
    let f = fits tally (commands.Withdraw desk municipality list number) limits (origin_named (commands.Withdraw desk municipality list number) numbers) accepted in
    (numbers.0, (f.1, f.2, numbers.1, numbers.2))
speakable tally (commands.Close municipality) limits numbers accepted = fits tally (commands.Close municipality) limits (origin_named (commands.Close municipality) numbers) accepted
speakable tally (commands.Reopen municipality) limits numbers accepted = fits tally (commands.Reopen municipality) limits (origin_named (commands.Reopen municipality) numbers) accepted
speakable tally (commands.Batch desk rows) limits numbers accepted = numbers
