use Rattle.std.proofs.Common.{◌∙◌, List, ℕ, OnOk, subst}
use Rattle.std.specs.Io.KnownBytes.{Appends}
use Rattle.zh_program.proofs.LoadLemmas.{put_front}
use Rattle.zh_program.proofs.load.print_reply.Goals as goal

pub returns-clause-all : goal.returns-clause-all
returns-clause-all g c =
    subst (λ (t : List ℕ). OnOk c.put.result (Appends (g.O.Write.contents c.args.out.now) (g.O.Write.contents c.put.new.out) t)) (c.deref.ensures.0 ∙ c.answer_line.ensures) c.put.ensures.all

pub returns-clause-front : goal.returns-clause-front
returns-clause-front g c = put_front c.put.result _ _ _ _ (c.deref.ensures.0 ∙ c.answer_line.ensures) c.put.ensures.front
