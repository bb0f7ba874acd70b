use Rattle.std.proofs.Common.{◌<◌, ◌≤◌, length, take, length-take, arith}
use Rattle.zh_csv.specs.Front.{most_read}
use Rattle.zh_csv.proofs.FrontLemmas.{consumes_front, consumes_none, ends_front, none_left, none_passed}
use Rattle.zh_csv.proofs.front_reader.FrontReaderRead.read.Goals as goal

pub returns-then-self-eq0-clause-bytes : goal.returns-then-self-eq0-clause-bytes
returns-then-self-eq0-clause-bytes g c =
    let limit = c.args.self.now.limit in
    (consumes_none _, λ _ _. none_left most_read limit.point limit.left (g.R.Read.remaining c.args.self.now.inner) c.if-self-eq0.true)

pub returns-clause-bytes : goal.returns-clause-bytes
returns-clause-bytes g c =
    let old = c.args.self.now.limit in
    let new = c.pass.new.self in
    let buffer = c.read.new.buf in
    let (consumes, ends) = c.in_ok-count.ensures.bytes in
    let count = c.in_ok-count.count in
    let passed = c.pass.result in
    let before = g.R.Read.remaining c.args.self.now.inner in
    let after = g.R.Read.remaining c.read.new.self in
    let taken = length-take count buffer in
    let within : passed ≤ count = omega (arith, c.pass.ensures.count.0, taken) in (
      consumes_front most_read old.point new.point old.left new.left count passed before after buffer consumes within c.pass.ensures.front,
      λ none room.
          let some : 0 < old.left = omega (arith, c.if-self-eq0.false) in
          let few = c.pass.ensures.count.1 some in
          let nothing = none_passed (length (take count buffer)) count (length buffer) passed taken few none room in
          ends_front most_read new.point new.left after (ends nothing room),
    )
