use Rattle.std.proofs.Common.{◌≡◌, rules, ◌∙◌, refl, sym, subst, Ok, Err}
use Rattle.zh_csv.specs.Load.{LoadsFrom}
use Rattle.zh_csv.specs.Noted.{has_failed, inner_reader}
use Rattle.zh_districts.specs.Canton.{Canton}
use Rattle.zh_office.proofs.ContinuesLemmas.{none_continues}
use Rattle.zh_office.proofs.LoadLemmas.{broken_turn, refused_turn}
use Rattle.zh_office.proofs.office.Office.load.Goals as goal

pub returns-then-faulted-clause-turn : goal.returns-then-faulted-clause-turn
returns-then-faulted-clause-turn g c = broken_turn _ _ _ (sym c.faulted.ensures ∙ c.if-faulted.true)

pub returns-in-Err-clause-turn : goal.returns-in-Err-clause-turn
returns-in-Err-clause-turn g c =
    let own : c.setup.result.now ≡ c.args.self.now.ledger.tally.canton = search rules in
    let From = λ (canton : Canton). LoadsFrom canton (g.R.Read.remaining (inner_reader c.args.reader.now)) (has_failed c.read_batch.new.text) (Err c.in-Err.fault) in
    let loads : From c.setup.result.now = record { rows = tt; read = c.in-Err.ensures.read; known = c.in-Err.ensures.loads } in
    rw c.load_refusal.ensures (refused_turn _ _ _ c.in-Err.fault (sym c.faulted.ensures ∙ c.if-faulted.false) (subst From own loads))

pub returns-in-Ok-clause-turn : goal.returns-in-Ok-clause-turn
returns-in-Ok-clause-turn g c =
    let own : c.setup.result.now ≡ c.args.self.now.ledger.tally.canton = search rules in
    let From = λ (canton : Canton). LoadsFrom canton (g.R.Read.remaining (inner_reader c.args.reader.now)) (has_failed c.read_batch.new.text) (Ok c.in-Ok.batch) in
    let loads : From c.setup.result.now = record { rows = c.in-Ok.ensures.loaded; read = λ is. absurd (cc is); known = c.in-Ok.ensures.loads } in
    c.store.ensures.turn _ _ (subst From own loads)

pub returns-then-faulted-clause-disk : goal.returns-then-faulted-clause-disk
returns-then-faulted-clause-disk g c = none_continues _ _ refl

pub returns-in-Err-clause-disk : goal.returns-in-Err-clause-disk
returns-in-Err-clause-disk g c = none_continues _ _ refl

pub returns-in-Ok-clause-disk : goal.returns-in-Ok-clause-disk
returns-in-Ok-clause-disk g c = c.store.ensures.disk

pub returns-then-faulted-clause-unread : goal.returns-then-faulted-clause-unread
returns-then-faulted-clause-unread g c = search rules
