use Rattle.std.proofs.Common.{◌++◌, take, sym, ap, ◌∙◌}
use Rattle.zh_office.proofs.TextLemmas.{truncated-room}
use Rattle.zh_office.proofs.line_cutter.extend_line.Goals as goal

pub returns : goal.returns
returns c =
    let line = c.args.line.now.items in
    let more = c.args.more.now in
    let taken = rw c.unwrap.ensures at c.try_extend_from_slice.ensures.ok in
    taken ∙ ap (λ n. line ++ take n more) c.min-count.ensures ∙ sym (truncated-room 121 c.remaining_capacity.result line more c.remaining_capacity.ensures)
