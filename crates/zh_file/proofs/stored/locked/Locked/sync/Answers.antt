use Rattle.std.proofs.Common.{◌∷◌, ◌∙◌, ap}
use Rattle.zh_film.specs.Past.{items}
use Rattle.zh_file.proofs.LockedLemmas.{follows_stays}
use Rattle.zh_file.proofs.stored.locked.Locked.sync.Goals as goal

pub returns-clause-call : goal.returns-clause-call
returns-clause-call g c = record {
  noted = c.push.ensures ∙ ap (λ d. d ∷ items c.args.self.now.before) c.of.ensures;
  failed = c.note.ensures;
  kept = c.sync-done.ensures.clean;
  counted = c.sync-done.ensures.faults;
  seen = c.sync-done.ensures.seen;
  leaves = follows_stays _ _ c.sync-done.ensures.crash;
}
