use Rattle.std.proofs.Common.{◌∙◌, subst}
use Rattle.zh_districts.specs.Canton.{IsCanton}
use Rattle.zh_csv.proofs.RunningLemmas.{can_take, has_taken, fit_of, change_is}
use Rattle.zh_csv.proofs.SumLemmas.{Follows}
use Rattle.zh_csv.proofs.held_sums.RunningSums.note.Goals as goal

pub note-requires : goal.note-requires
note-requires c =
    let canton = c.requires.taken.0 in
    let rows = c.requires.taken.1 in
    let has = c.requires.taken.2 in
    let row = c.args.row.now in
    let follows : Follows canton rows row = record {
      limits = subst IsCanton has.setup c.setup.ensures.limits.canton;
      readable = c.requires.readable;
      fit = fit_of canton c.setup.result.now row c.unwrap_or-votes.result c.unfit.result (c.setup.ensures.setup ∙ has.setup) c.unwrap_or-votes.ensures c.unfit.ensures.first c.in_default.is;
      fresh = let free = rw c.in_ok-note_key.was at (c.note_key.ensures rows has.keys) in free.0;
    } in
    can_take canton rows row c.args.self.now.totals _ follows has.held has.totals
    (change_is canton c.setup-2.result.now row c.constituency_of.result c.unwrap_or-votes.result (c.setup-2.ensures.setup ∙ has.setup) c.constituency_of.ensures.number c.unwrap_or-votes.ensures)

pub returns : goal.returns
returns c canton rows has =
    let row = c.args.row.now in
    let free = rw c.in_ok-note_key.was at (c.note_key.ensures rows has.keys) in
    let follows : Follows canton rows row = record {
      limits = subst IsCanton has.setup c.setup.ensures.limits.canton;
      readable = c.requires.readable;
      fit = fit_of canton c.setup.result.now row c.unwrap_or-votes.result c.unfit.result (c.setup.ensures.setup ∙ has.setup) c.unwrap_or-votes.ensures c.unfit.ensures.first c.in_default.is;
      fresh = free.0;
    } in
    has_taken canton rows row c.args.self.now _ _ follows has
    (change_is canton c.setup-2.result.now row c.constituency_of.result c.unwrap_or-votes.result (c.setup-2.ensures.setup ∙ has.setup) c.constituency_of.ensures.number c.unwrap_or-votes.ensures)
    c.note.ensures free.1
