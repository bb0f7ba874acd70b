use Rattle.std.proofs.Common.{◌≡◌, ◌+◌, ◌∙◌, ap, arith, sym}
use Rattle.zh_districts.specs.Canton.{constituency_of, stands}
use Rattle.zh_tables.specs.Returns.{due_of}
use Rattle.zh_tables.proofs.DueLemmas.{length_more, length_next, none_due, one_due}
use Rattle.zh_tables.proofs.held_rows.due_in.Goals as goal
use Rattle.zh_tables.proofs.held_rows.due_in.Goals.{then-stands, else-stands}

pub loop-place-preserved : goal.loop-place-preserved
loop-place-preserved c =
    let n = c.loop-place.place in
    let canton = c.args.setup.now in
    let m = c.args.municipality in
    let stands_there : stands canton (constituency_of canton m) (n + 1) ≡ c.stands.result =
    sym (c.stands.ensures ∙ ap (λ d. stands canton d (n + 1)) c.constituency_of-constituency.ensures.number) in
    elim c.if-stands.branch [
      | then-stands w ↦ record {
        so_far = w.due-is ∙ length_next (due_of canton m) n c.loop-place.due 1 c.loop-place.invariant.so_far (one_due canton m (n + 1) (stands_there ∙ w.if-stands.true));
        few = omega (arith, w.due-is, c.loop-place.invariant.few);
      }
      | else-stands w ↦ record {
        so_far = w.due-is ∙ length_more (due_of canton m) n c.loop-place.due c.loop-place.invariant.so_far (none_due canton m (n + 1) (stands_there ∙ w.if-stands.false));
        few = omega (arith, w.due-is, c.loop-place.invariant.few);
      }
    ]
