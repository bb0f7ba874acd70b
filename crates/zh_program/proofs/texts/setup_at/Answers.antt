use Rattle.std.proofs.Common.{◌≡◌, subst, List, ℕ, Ok}
use Rattle.zh_setups.specs.SetupText.{reading_of}
use Rattle.zh_program.proofs.SetupLemmas.{setup_known, setup_refused}
use Rattle.zh_program.proofs.texts.setup_at.Goals as goal

pub returns-in-Ok-clause-setup : goal.returns-in-Ok-clause-setup
returns-in-Ok-clause-setup g c =
    let known = g.F.Files.text_at c.args.files.now c.args.path.now in
    let read = subst (λ (l : List ℕ). reading_of l ≡ Ok c.in-Ok.setup) c.deref.ensures.value c.in-Ok.ensures.set_up in
    setup_known known c.in_ok-text.text.items c.in-Ok.setup c.in_ok-text.ensures.front read c.in-Ok.ensures.limits

pub returns-clause-fault : goal.returns-clause-fault
returns-clause-fault g c =
    let known = g.F.Files.text_at c.args.files.now c.args.path.now in
    setup_refused known c.in_ok-text.text.items _ c.in-Err.refusal c.in_ok-text.ensures.front c.deref.ensures.value c.in-Err.ensures.fault c.in-Err.ensures.place
