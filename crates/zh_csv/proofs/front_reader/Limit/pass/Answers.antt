use Rattle.std.proofs.Common.{◌<◌, ℕ, List, ◌++◌, take, drop, sym, ap, ◌∙◌, arith}
use Rattle.zh_csv.specs.Front.{most_read}
use Rattle.zh_csv.proofs.FrontLemmas.{front_none, pass_more}
use Rattle.zh_csv.proofs.front_reader.Limit.pass.Goals as goal

pub loop-place-preserved : goal.loop-place-preserved
loop-place-preserved c = record {
  some = λ first more. absurd (omega (arith, first));
  passed = λ rest.
      let some : 0 < c.loop-place.self.left = omega (arith, c.if-self-eq0.false) in
      let old = c.args.self.now in
      let now = c.loop-place.self in
      let place = c.loop-place.place in
      let bytes = c.args.bytes.now in
      let passed = c.loop-place.invariant.passed rest in
      rw (c.count.ensures.0, c.count.ensures.1)
      (pass_more most_read old.point now.point old.left now.left place bytes rest c.loop-place-test.true some passed);
}

pub returns-then-self-eq0-clause-front : goal.returns-then-self-eq0-clause-front
returns-then-self-eq0-clause-front c rest =
    let none = front_none most_read c.loop-place.self.point c.loop-place.self.left (drop c.loop-place.place c.args.bytes.now ++ rest) c.if-self-eq0.true in
    let same = none ∙ sym (front_none most_read c.loop-place.self.point c.loop-place.self.left rest c.if-self-eq0.true) in
    c.loop-place.invariant.passed rest ∙ ap (λ (l : List ℕ). take c.loop-place.place c.args.bytes.now ++ l) same
