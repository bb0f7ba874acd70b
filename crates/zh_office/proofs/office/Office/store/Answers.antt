use Rattle.std.proofs.Common.{rules, refl}
use Rattle.zh_office.proofs.ContinuesLemmas.{none_continues, submission_continues}
use Rattle.zh_office.proofs.LoadLemmas.{empty_turn, submitted_turn}
use Rattle.zh_office.proofs.office.Office.store.Goals as goal

pub returns-then-len-eq0-clause-turn : goal.returns-then-len-eq0-clause-turn
returns-then-len-eq0-clause-turn g c = λ text failed loads. empty_turn _ text failed c.args.batch.now c.requires.whole (search rules) loads

pub returns-clause-turn : goal.returns-clause-turn
returns-clause-turn g c = λ text failed loads.
    let whole = rw (← c.self.view_is) at c.requires.whole in
    let read = rw (← c.self.view_is) at loads in
    rw (← c.self.view_is) (submitted_turn _ _ text failed _ _ whole (search rules) refl read c.submit_rows.ensures.reported)

pub returns-then-len-eq0-clause-disk : goal.returns-then-len-eq0-clause-disk
returns-then-len-eq0-clause-disk g c = none_continues _ _ refl

pub returns-clause-disk : goal.returns-clause-disk
returns-clause-disk g c =
    let by = c.submit_rows.ensures.reported in
    rw (← c.self.view_is) (submission_continues _ _ by.outcome _ by.submission)

pub returns-clause-untouched : goal.returns-clause-untouched
returns-clause-untouched g c = c.submit_rows.ensures.untouched
