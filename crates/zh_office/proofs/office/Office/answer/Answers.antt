use Rattle.std.proofs.Common.{◌<◌, ℕ, length, map, take, ap, subst, refl}
use Rattle.std.specs.Io.KnownBytes.{Appends}
use Rattle.std.proofs.lemmas.Result.{err_from_is_err_and}
use Rattle.zh_film.specs.Frames.{frame_of, frames}
use Rattle.zh_ledger.specs.Submissions.{OnDisk, on_disk}
use Rattle.zh_office.specs.Exchanges.{answer_text}
use Rattle.zh_office.specs.Office.{Office}
use Rattle.zh_office.specs.Served.{Session, session}
use Rattle.zh_office.proofs.FilmLemmas.{films_answer, films_front}
use Rattle.zh_office.proofs.office.Office.answer.Goals as goal

pub returns-in_err-write_answer : goal.returns-in_err-write_answer
returns-in_err-write_answer g c =
    let p = err_from_is_err_and c.from_residual.result c.from_residual.ensures.1 in
    let contents = g.W.Write.contents in
    let history = g.D.Disk.history in
    let left = g.R.Read.remaining c.args.reader.now in
    let shown = frames g.R.Read g.W.Write g.D.Disk in
    let answer = c.line-answer.result in
    let after : OnDisk Office = on_disk c.line-answer.new.self (history c.line-answer.new.disk) in
    let old : Session = session (contents c.args.writer.now) c.args.self.now (history c.args.disk.now) left (shown c.args.film.now) in
    let mid : Session = session (contents c.args.writer.now) after.holder after.history left (shown c.note.new.self) in
    let new : Session = session (contents c.write_answer.new.writer) after.holder after.history left (shown c.note.new.self) in
    let front = subst (λ (desk : ℕ). (n : ℕ) × (n < length (answer_text desk after.holder.ledger.tally.accepted answer))
    × Appends mid.written new.written (take n (answer_text desk after.holder.ledger.tally.accepted answer))) c.desk_of-desk.ensures c.in_err-write_answer.ensures.front in
    rw p.1 (films_front c.args.bytes.now answer old mid new c.line-answer.ensures.turn refl refl refl refl
    (ap (map (frame_of g.R.Read g.W.Write g.D.Disk)) c.note.ensures) refl front.0 front.1 front.2)

pub returns : goal.returns
returns g c =
    let contents = g.W.Write.contents in
    let history = g.D.Disk.history in
    let left = g.R.Read.remaining c.args.reader.now in
    let shown = frames g.R.Read g.W.Write g.D.Disk in
    let answer = c.line-answer.result in
    let after : OnDisk Office = on_disk c.line-answer.new.self (history c.line-answer.new.disk) in
    let old : Session = session (contents c.args.writer.now) c.args.self.now (history c.args.disk.now) left (shown c.args.film.now) in
    let mid : Session = session (contents c.args.writer.now) after.holder after.history left (shown c.note.new.self) in
    let new : Session = session (contents c.write_answer.new.writer) after.holder after.history left (shown c.note-2.new.self) in
    let written = subst (λ (desk : ℕ). Appends mid.written new.written (answer_text desk after.holder.ledger.tally.accepted answer)) c.desk_of-desk.ensures c.in_ok-write_answer.ensures.all in
    films_answer c.args.bytes.now answer old mid new c.line-answer.ensures.turn refl refl refl refl
    (ap (map (frame_of g.R.Read g.W.Write g.D.Disk)) c.note.ensures) (ap (map (frame_of g.R.Read g.W.Write g.D.Disk)) c.note-2.ensures) written
