use Rattle.zh_ledger.proofs.SubmissionLemmas.{submits_logged}
use Rattle.zh_ledger.proofs.laws.submissions.Goals as goal

pub returns : goal.returns
returns c = submits_logged
