use Rattle.std.proofs.Common.{◌+◌, ◌-◌, ◌∙◌, arith}
use Rattle.zh_text.specs.declared.signs.Sign.TheVariants.{Mark, Control, Further, Byte}
use Rattle.zh_text.proofs.ShownLemmas.{byte_from, shown_as}
use Rattle.zh_text.proofs.shown.shown_at.Goals as goal

pub returns-in-Mark-clause-shown : goal.returns-in-Mark-clause-shown
returns-in-Mark-clause-shown c = c.mark.ensures.shown ∙ shown_as c.args.named c.args.text.now c.args.place Mark c.in-Mark.ensures

pub returns-in-Control-clause-shown : goal.returns-in-Control-clause-shown
returns-in-Control-clause-shown c = shown_as c.args.named c.args.text.now c.args.place Control c.in-Control.ensures

pub returns-in-Further-clause-shown : goal.returns-in-Further-clause-shown
returns-in-Further-clause-shown c = shown_as c.args.named c.args.text.now c.args.place Further c.in-Further.ensures

pub returns-in-Byte-clause-shown : goal.returns-in-Byte-clause-shown
returns-in-Byte-clause-shown c =
    byte_from c.args.named c.args.text.now c.byte_shown.result.now c.args.place (c.args.place + 1 - c.args.place) c.byte_shown.ensures.shown (omega arith)
    ∙ shown_as c.args.named c.args.text.now c.args.place Byte c.in-Byte.ensures
