use Rattle.std.proofs.Common.{◌≡◌, ap, sym, ◌∙◌}
use Rattle.zh_setups.specs.SetupText.{reading_of}
use Rattle.zh_setups.proofs.RehearsalTextLemmas.{rehearsal_text, is_rehearsal, is_no_fault}
use Rattle.zh_setups.proofs.example.rehearsal.Goals as goal

pub returns-in-Ok : goal.returns-in-Ok
returns-in-Ok c =
    let text : c.as_bytes.result.now ≡ rehearsal_text = c.as_bytes.ensures.value in
    is_rehearsal c.in-Ok.setup (ap reading_of (sym text) ∙ c.in-Ok.ensures.set_up)

pub unreachable-requires : goal.unreachable-requires
unreachable-requires c =
    let text : c.as_bytes.result.now ≡ rehearsal_text = c.as_bytes.ensures.value in
    is_no_fault c.in-Err.refusal.fault (ap reading_of (sym text) ∙ c.in-Err.ensures.fault c.in_default.not-Memory)
