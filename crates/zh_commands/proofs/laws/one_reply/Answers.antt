use Rattle.zh_commands.proofs.ReplyLemmas.{reply_same}
use Rattle.zh_commands.proofs.laws.one_reply.Goals as goal

pub returns : goal.returns
returns c = reply_same
