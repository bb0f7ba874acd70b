use Rattle.std.proofs.Common.{◌≡◌, ◌<◌, ◌+◌, ◌-◌, ◌*◌, ◌∙◌, ℕ, length, take, drop, ap, arith}
use Rattle.zh_returns.specs.EntryBytes.{entry_spelling}
use Rattle.zh_returns.proofs.BlockLemmas.{blocks_more}
use Rattle.zh_returns.proofs.EntryBytesLemmas.{held_more, place_refused}
use Rattle.zh_returns.proofs.payload.read_entries.Goals as goal

pub returns-in-None-clause-refused : goal.returns-in-None-clause-refused
returns-in-None-clause-refused c = λ _ other len limits spelled.
    place_refused c.args.format c.args.setup.now c.args.bytes.now other c.loop-place.place (omega arith) limits spelled c.in-None.ensures.refused

pub loop-place-preserved : goal.loop-place-preserved
loop-place-preserved c =
    let at = c.loop-place.place in
    let within : at < length c.loop-place.table = omega arith in
    let width : 16 * at + 16 - 16 * at ≡ 16 = omega arith in
    record {
      spelled = blocks_more entry_spelling 16 c.args.bytes.now c.loop-place.table at c.in-Some.held within c.loop-place.invariant.spelled
          (c.in-Some.ensures.read.1 ∙ ap (λ (n : ℕ). take n (drop (16 * at) c.args.bytes.now)) width);
      held = held_more c.args.format c.args.setup.now c.loop-place.table at c.in-Some.held within c.in-Some.ensures.read.0 c.loop-place.invariant.held;
    }
