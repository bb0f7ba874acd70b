use Rattle.std.proofs.Common.{append_assoc}
use Rattle.zh_tables.proofs.view.push_progress.Goals as goal

pub returns : goal.returns
returns c =
    rw (c.push-4.ensures, c.push-3.ensures, c.would_be.ensures, c.push-2.ensures, c.push_numeral.ensures.text, c.push.ensures, c.push_numbered-4.ensures.text, c.push_numbered-3.ensures.text, c.push_numbered-2.ensures.text, c.push_numbered.ensures.text) simp (append_assoc)
