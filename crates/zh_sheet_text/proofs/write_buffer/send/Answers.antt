use Rattle.std.proofs.Common.{rules}
use Rattle.zh_sheet_text.proofs.write_buffer.send.Goals as goal

pub returns-clause-sends : goal.returns-clause-sends
returns-clause-sends g c = search rules
