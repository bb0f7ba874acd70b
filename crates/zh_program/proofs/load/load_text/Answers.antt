use Rattle.std.proofs.Common.{rules, ◌≡◌, [], ap, map, Err, subst, false}
use Rattle.zh_commands.specs.declared.replies.Reply.{Reply}
use Rattle.zh_commands.specs.declared.replies.Reply.TheVariants as replies
use Rattle.zh_csv.specs.Noted.{has_failed, inner_reader}
use Rattle.zh_film.specs.Frames.{frame_of}
use Rattle.zh_film.specs.Scenes.{scenes}
use Rattle.zh_ledger.specs.Submissions.{on_disk}
use Rattle.zh_office.specs.Served.{session}
use Rattle.zh_program.specs.Load.{Loaded, given_text}
use Rattle.zh_program.specs.declared.fault.TaskFault.TheVariants as faults
use Rattle.zh_program.proofs.TaskOrderLemmas.{replied_part, replied_whole}
use Rattle.zh_program.proofs.load.load_text.Goals as goal

pub returns-in_err-print_reply : goal.returns-in_err-print_reply
returns-in_err-print_reply g c =
    let is : c.from_residual.result ≡ Err faults.Write = search rules in
    let text = given_text (g.R.Read.remaining (inner_reader c.args.reader.now)) (has_failed c.load-reply.new.reader) in
    let start = on_disk c.args.office.now (g.D.Disk.history c.args.disk.now) in
    let end = on_disk c.load-reply.new.self (g.D.Disk.history c.load-reply.new.disk) in
    let shown = map (frame_of g.I.Read g.O.Write g.D.Disk) in
    let replied = replied_part text _ _ (g.I.Read.remaining c.args.input.now) start end c.load-reply.result c.load-reply.ensures.turn _ _ _
    (ap shown c.requires.film) (ap shown c.note.ensures) (ap shown c.note-2.ensures) c.in_err-print_reply.ensures.front in
    rw is (record {
      disk = record { kept = c.load-reply.ensures.disk.kept; later = c.load-reply.ensures.disk.later; cause = λ none. absurd none };
      loaded = (c.load-reply.result, replied, c.in_err-print_reply.ensures.front);
    })

pub returns-then-faulted : goal.returns-then-faulted
returns-then-faulted g c =
    let text = given_text (g.R.Read.remaining (inner_reader c.args.reader.now)) (has_failed c.load-reply.new.reader) in
    let start = on_disk c.args.office.now (g.D.Disk.history c.args.disk.now) in
    let end = on_disk c.load-reply.new.self (g.D.Disk.history c.load-reply.new.disk) in
    let shown = map (frame_of g.I.Read g.O.Write g.D.Disk) in
    let replied = replied_whole text _ _ (g.I.Read.remaining c.args.input.now) start end c.load-reply.result c.load-reply.ensures.turn _ _ _
    (ap shown c.requires.film) (ap shown c.note.ensures) (ap shown c.note-2.ensures) _ (ap shown c.note-3.ensures) c.in_ok-print_reply.ensures.all in
    record {
      disk = record { kept = c.load-reply.ensures.disk.kept; later = c.load-reply.ensures.disk.later; cause = λ _. c.load-reply.ensures.disk.cause c.requires.whole (search rules) };
      loaded = (c.load-reply.result, record { replied = replied; written = c.in_ok-print_reply.ensures.all; device = search rules });
    }

pub returns-in-Refused : goal.returns-in-Refused
returns-in-Refused g c =
    let text = given_text (g.R.Read.remaining (inner_reader c.args.reader.now)) (has_failed c.load-reply.new.reader) in
    let start = on_disk c.args.office.now (g.D.Disk.history c.args.disk.now) in
    let end = on_disk c.load-reply.new.self (g.D.Disk.history c.load-reply.new.disk) in
    let shown = map (frame_of g.I.Read g.O.Write g.D.Disk) in
    let replied = replied_whole text _ _ (g.I.Read.remaining c.args.input.now) start end c.load-reply.result c.load-reply.ensures.turn _ _ _
    (ap shown c.requires.film) (ap shown c.note.ensures) (ap shown c.note-2.ensures) _ (ap shown c.note-3.ensures) c.in_ok-print_reply.ensures.all in
    let is : c.load-reply.result ≡ replies.Refused c.in-Refused.field-0 = search rules in
    let old = session (g.O.Write.contents c.args.out.now) start.holder start.history (g.I.Read.remaining c.args.input.now) [] in
    let new = session (g.O.Write.contents c.print_reply.new.out) end.holder end.history (g.I.Read.remaining c.args.input.now) (shown (scenes c.note-3.new.self)) in
    let loaded : Loaded text c.load-reply.result false old new = record { replied = replied; written = c.in_ok-print_reply.ensures.all; device = search rules } in
    record {
      disk = record { kept = c.load-reply.ensures.disk.kept; later = c.load-reply.ensures.disk.later; cause = λ none. absurd none };
      loaded = (c.in-Refused.field-0, subst (λ (r : Reply). Loaded text r false old new) is loaded);
    }

pub returns-in_default : goal.returns-in_default
returns-in_default g c =
    let text = given_text (g.R.Read.remaining (inner_reader c.args.reader.now)) (has_failed c.load-reply.new.reader) in
    let start = on_disk c.args.office.now (g.D.Disk.history c.args.disk.now) in
    let end = on_disk c.load-reply.new.self (g.D.Disk.history c.load-reply.new.disk) in
    let shown = map (frame_of g.I.Read g.O.Write g.D.Disk) in
    let replied = replied_whole text _ _ (g.I.Read.remaining c.args.input.now) start end c.load-reply.result c.load-reply.ensures.turn _ _ _
    (ap shown c.requires.film) (ap shown c.note.ensures) (ap shown c.note-2.ensures) _ (ap shown c.note-3.ensures) c.in_ok-print_reply.ensures.all in
    record {
      disk = record { kept = c.load-reply.ensures.disk.kept; later = c.load-reply.ensures.disk.later; cause = tt };
      loaded = (c.load-reply.result, c.in_default.not-Refused, record { replied = replied; written = c.in_ok-print_reply.ensures.all; device = search rules });
    }
