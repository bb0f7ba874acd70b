use Rattle.std.proofs.Common.{◌++◌, ◌∙◌, ℕ, List, ap}
use Rattle.zh_text.proofs.EachLemmas.{gathered-next}
use Rattle.zh_text.specs.Shown.{shown_at}
use Rattle.zh_text.proofs.shown.push_shown.Goals as goal

pub loop-place-preserved : goal.loop-place-preserved
loop-place-preserved c =
    gathered-next (shown_at c.args.named c.args.shown.now) c.args.text.now.items c.loop-place.text.items c.extend_from_slice.new.self.items c.loop-place.place
    c.loop-place.invariant (c.in_ok-extend_from_slice.ensures.items ∙ ap (λ (l : List ℕ). c.loop-place.text.items ++ l) c.shown_at.ensures.shown)
