use Rattle.std.proofs.Common.{◌∷◌, ◌∙◌, ap}
use Rattle.zh_film.specs.Past.{items}
use Rattle.zh_file.proofs.stored.locked.Locked.write_at.Goals as goal

pub returns-clause-call : goal.returns-clause-call
returns-clause-call g c = record {
  noted = c.push.ensures ∙ ap (λ d. d ∷ items c.args.self.now.before) c.of.ensures;
  failed = c.note.ensures;
  kept = c.write_at-done.ensures.clean;
  counted = c.write_at-done.ensures.faults;
  seen = c.write_at-done.ensures.others;
  leaves = c.write_at-done.ensures.crash;
}
