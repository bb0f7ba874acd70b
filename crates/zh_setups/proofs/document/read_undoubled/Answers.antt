use Rattle.std.proofs.Common.{◌∙◌, refl, sym}
use Rattle.std.proofs.lemmas.Result.{err_from_is_err_and}
use Rattle.toml.specs.View.{table_view}
use Rattle.zh_setups.specs.Document.{setup_of, has_double, undoubled}
use Rattle.zh_districts.specs.Parts.{draft}
use Rattle.zh_setups.proofs.EachLemmas.{said_ok, fails_within}
use Rattle.zh_setups.proofs.SetupLemmas.{IsCanton-from_document}
use Rattle.zh_setups.proofs.document.read_undoubled.Goals as goal

pub assembled-requires : goal.assembled-requires
assembled-requires c =
    let document = table_view c.args.document.now in
    IsCanton-from_document document (draft c.in_ok-draft.draft) (said_ok (setup_of document) (draft c.in_ok-draft.draft) c.in_ok-draft.ensures) (sym c.in_ok-has_double.ensures ∙ c.if-branch.false)

pub returns-in_err-draft : goal.returns-in_err-draft
returns-in_err-draft c =
    let document = table_view c.args.document.now in
    let p = err_from_is_err_and c.from_residual.result c.from_residual.ensures.1 in
    rw (p.1, p.2) (fails_within c.in_err-draft.field-0.0 (setup_of document) (undoubled (has_double document) (setup_of document)) (λ none. rw none refl) c.in_err-draft.ensures)
