-- The batches of the other desks after a line of one desk.
use Rattle.std.proofs.Common.{◌≡◌, ◌≢◌, ◌-◌, ℕ, List, Option, None, Ok, arith, ap, ◌∙◌}
use Rattle.std.proofs.lemmas.List.{get_or-set_other}
use Rattle.zh_commands.proofs.CallerLemmas.{desk_of-read}
use Rattle.zh_commands.specs.Lines.{ParsesAs, desk_of}
use Rattle.zh_commands.specs.declared.lines.Line.{Line}
use Rattle.zh_office.specs.DeskBatches.{Held, rows_of, with_batch}
use Rattle.zh_returns.specs.declared.batch.Desk.{Desk}
use Rattle.zh_returns.specs.declared.row.Row.{Row}
use Rattle.zh_office.specs.Answers.{batch_after, held_after}
use Rattle.zh_office.specs.declared.answer.Answer.{Answer}
use Rattle.zh_office.specs.declared.answer.Answer.TheVariants as answers

-- a change to the batch of a line's desk leaves the other desks' batches unchanged
others_held : (bytes : List ℕ) (line : Line) (old new : Held) (batch : Option (List Row)) → ParsesAs bytes (Ok line) → new ≡ with_batch old line.desk batch
    → (desk : Desk) → desk.number ≢ desk_of bytes → rows_of new desk ≡ rows_of old desk
others_held bytes line old new batch reads is desk other =
    let own : desk_of bytes ≡ line.desk.number = desk_of-read bytes line reads in
    ap (λ (held : Held). rows_of held desk) is
    ∙ get_or-set_other old (line.desk.number - 1) (desk.number - 1) batch None
    (λ (same : desk.number - 1 ≡ line.desk.number - 1). other (omega (arith, own, line.desk.from_one, desk.from_one)))

-- an answered line leaves them unchanged, too
pub others_after : (bytes : List ℕ) (line : Line) (old new : Held) (answer : Answer) → ParsesAs bytes (Ok line) → new ≡ held_after old line answer
    → (desk : Desk) → desk.number ≢ desk_of bytes → rows_of new desk ≡ rows_of old desk
others_after bytes line old new (answers.Reply reply) reads is = others_held bytes line old new (batch_after (rows_of old line.desk) line.request reply) reads is
others_after bytes line old new (answers.Sheet sheet is_final) reads is = λ desk other. ap (λ (held : Held). rows_of held desk) is
