use Rattle.std.proofs.Common.{◌∙◌, ℕ, List, ap, inl, subst}
use Rattle.zh_file.specs.MemoryFolder.{standing_at}
use Rattle.zh_file.specs.Places.{IsSameOrMade, Standing}
use Rattle.zh_file.proofs.memory_folder.MemoryFolder.make_at.Goals as goal

pub returns-in_err-pass-clause-made : goal.returns-in_err-pass-clause-made
returns-in_err-pass-clause-made g c = inl (ap (λ f. standing_at f c.args.path.now) c.pass.ensures.same)

pub returns-in_err-pass-clause-others : goal.returns-in_err-pass-clause-others
returns-in_err-pass-clause-others g c = λ place far. ap (λ f. standing_at f place) c.pass.ensures.same

pub returns-in_err-place-clause-made : goal.returns-in_err-place-clause-made
returns-in_err-place-clause-made g c =
    subst (λ (stands : List ℕ → Standing). IsSameOrMade (stands c.args.path.now) (standing_at c.place.new.self c.args.path.now)) (ap standing_at c.pass.ensures.same) c.place.ensures.made

pub returns-in_err-place-clause-others : goal.returns-in_err-place-clause-others
returns-in_err-place-clause-others g c = λ place far. c.place.ensures.others place far ∙ ap (λ f. standing_at f place) c.pass.ensures.same

pub returns-clause-made : goal.returns-clause-made
returns-clause-made g c =
    subst (λ (stands : List ℕ → Standing). IsSameOrMade (stands c.args.path.now) (standing_at c.place.new.self c.args.path.now)) (ap standing_at c.pass.ensures.same) c.place.ensures.made

pub returns-clause-others : goal.returns-clause-others
returns-clause-others g c = λ place far. c.place.ensures.others place far ∙ ap (λ f. standing_at f place) c.pass.ensures.same
