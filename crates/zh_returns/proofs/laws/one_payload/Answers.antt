use Rattle.std.proofs.Common.{refl}
use Rattle.zh_returns.specs.Payload.{payload_spelling}
use Rattle.zh_returns.proofs.OnePayloadLemmas.{tally_once, one_format, format_at, said_in_two}
use Rattle.zh_returns.proofs.PayloadLemmas.{parts}
use Rattle.zh_returns.proofs.laws.one_payload.Goals as goal

pub returns-clause-length : goal.returns-clause-length
returns-clause-length c = λ format tally. (parts format tally (payload_spelling format tally) refl).whole

pub returns-clause-format : goal.returns-clause-format
returns-clause-format c = format_at

pub returns-clause-one_format : goal.returns-clause-one_format
returns-clause-one_format c = one_format

pub returns-clause-said : goal.returns-clause-said
returns-clause-said c = said_in_two

pub returns-clause-same : goal.returns-clause-same
returns-clause-same c = tally_once
