use Rattle.std.proofs.Common.{ap, ◌∙◌, length}
use Rattle.std.proofs.lemmas.List.{length-replicate}
use Rattle.zh_matrices.specs.Asked.{asked}
use Rattle.zh_lower.proofs.FilledLemmas.{started-replicate}
use Rattle.zh_lower.proofs.alternating_scaling.SearchState.new.Goals as goal

pub returns : goal.returns
returns c = record {
  rows = ap length (c.in_ok-vec.ensures.items_if_clones_equal (λ y e. e)) ∙ length-replicate c.args.question.now.rows 0;
  columns = c.in_ok-vec-2.ensures.items_if_clones_equal (λ y e. e) ∙ started-replicate (asked c.args.question.now);
}
