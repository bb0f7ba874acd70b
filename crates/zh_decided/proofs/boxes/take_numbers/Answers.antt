use Rattle.zh_decided.proofs.BoxLemmas.{least-within}
use Rattle.zh_decided.proofs.boxes.take_numbers.Goals as goal

pub antilogarithm-requires-clause-room : goal.antilogarithm-requires-clause-room
antilogarithm-requires-clause-room c = least-within c.args.bits c.args.most c.requires.few c.requires.room
