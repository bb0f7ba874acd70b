use Rattle.std.proofs.Common.{codes}
use Rattle.zh_verdicts.specs.Wrong.{differs_text}
use Rattle.zh_verdicts.proofs.PutLemmas.{put_after}
use Rattle.zh_verdicts.proofs.verdict_text.push_off_form.Goals as goal

pub returns : goal.returns
returns c =
    put_after c.extend_from_slice.result c.args.text.now.items c.push_differs.new.text.items c.extend_from_slice.new.self.items (differs_text c.args.wrong.now) (codes "sheet wrong\n")
    c.in_ok-push_differs.ensures c.extend_from_slice.ensures.items
