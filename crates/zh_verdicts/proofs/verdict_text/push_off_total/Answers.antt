use Rattle.std.proofs.Common.{◌++◌, ℕ, List, codes}
use Rattle.zh_verdicts.specs.Parts.{form_and_votes}
use Rattle.zh_verdicts.specs.Wrong.{total_text}
use Rattle.zh_verdicts.proofs.PutLemmas.{put_after, put_more}
use Rattle.zh_verdicts.proofs.verdict_text.push_off_total.Goals as goal

pub returns : goal.returns
returns c =
    let old : List ℕ = c.args.text.now.items in
    let above : List ℕ = form_and_votes c.args.held in
    let line : List ℕ = total_text c.args.off.now in
    put_after c.extend_from_slice.result old c.push_total.new.text.items c.extend_from_slice.new.self.items (above ++ line) (codes "sheet wrong\n")
    (put_more old c.push_form_and_votes.new.text.items c.push_total.new.text.items above line c.in_ok-push_form_and_votes.ensures c.in_ok-push_total.ensures) c.extend_from_slice.ensures.items
