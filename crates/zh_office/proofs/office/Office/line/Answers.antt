use Rattle.std.proofs.Common.{rules, refl, Ok}
use Rattle.zh_office.proofs.OtherDeskLemmas.{others_after}
use Rattle.zh_office.proofs.office.Office.line.Goals as goal

pub returns-in-Ok-clause-others : goal.returns-in-Ok-clause-others
returns-in-Ok-clause-others g c =
    others_after c.args.bytes.now c.in-Ok.line c.args.self.now.held c.answer_to.new.self.held c.answer_to.result c.in-Ok.ensures.reads c.answer_to.ensures.held

pub returns-in-Ok-clause-turn : goal.returns-in-Ok-clause-turn
returns-in-Ok-clause-turn g c =
    record {
      reading = Ok c.in-Ok.line;
      turn = record { reads = c.in-Ok.ensures.reads; command = refl; acts = c.answer_to.ensures.acts; held = c.answer_to.ensures.held; count = refl; disk = refl };
    }

pub returns-in-Err-Syntax-clause-turn : goal.returns-in-Err-Syntax-clause-turn
returns-in-Err-Syntax-clause-turn g c = search rules
