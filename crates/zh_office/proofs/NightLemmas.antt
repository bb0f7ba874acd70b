-- A night of an office: each event submits one command or none.
use Rattle.std.proofs.Common.{sym, subst}
use Rattle.zh_ledger.specs.Submissions.{Log}
use Rattle.zh_ledger.proofs.CallerLemmas.{SubmitsOneOrNone, Serves, night_law}
use Rattle.zh_office.specs.Night.{office, OfficeLaw}
use Rattle.zh_office.specs.Office.{its_ledger}
use Rattle.zh_office.specs.Runs.{exchange}
use Rattle.zh_office.proofs.LoggedLemmas.{turn_submitted}

serves : Serves office
serves old given answer log new honest (turn, is) =
    subst (λ (l : Log). SubmitsOneOrNone (its_ledger old) l (its_ledger new)) (sym is) (turn_submitted old (exchange old given answer new) new turn)

pub law : OfficeLaw
law = night_law office serves
