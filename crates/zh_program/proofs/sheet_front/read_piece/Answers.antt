use Rattle.std.proofs.Common.{◌+◌, ◌≤◌, length, take, drop, [], arith}
use Rattle.std.proofs.KnownBytes.{Consumes-kept, Consumes-nil}
use Rattle.std.proofs.lemmas.List.{length-take}
use Rattle.std.proofs.lemmas.Result.{err_from_is_err_and}
use Rattle.zh_program.proofs.TaskFrontLemmas.{nothing_read, some_read}
use Rattle.zh_program.proofs.sheet_front.read_piece.Goals as goal

pub returns-in_err-extend_from_slice-in-Ok-clause-read : goal.returns-in_err-extend_from_slice-in-Ok-clause-read
returns-in_err-extend_from_slice-in-Ok-clause-read g c =
    let failed = err_from_is_err_and c.from_residual.result c.from_residual.ensures.1 in
    let few : length c.args.text.now.items + length c.read.new.buf ≤ 280065 = omega (arith, c.read.auto.buf, length-take c.min-most.result c.room-piece.result) in
    let bytes = take c.in-Ok.length c.read.new.buf in
    (bytes, c.in-Ok.ensures.bytes.0, omega (arith, few, length-take c.in-Ok.length c.read.new.buf), rw failed.1 tt)

pub returns-in-Ok-eq0-clause-read : goal.returns-in-Ok-eq0-clause-read
returns-in-Ok-eq0-clause-read g c =
    nothing_read _ _ c.args.text.now.items c.read.new.buf c.in-Ok-eq0.field-0 c.in-Ok-eq0.field-0-test c.in-Ok-eq0.ensures.bytes.0 c.requires.few

pub returns-in_ok-extend_from_slice-in-Ok-clause-read : goal.returns-in_ok-extend_from_slice-in-Ok-clause-read
returns-in_ok-extend_from_slice-in-Ok-clause-read g c =
    let few : length c.args.text.now.items + length c.read.new.buf ≤ 280065 = omega (arith, c.read.auto.buf, length-take c.min-most.result c.room-piece.result) in
    let rest = drop c.min-most.result c.room-piece.result in
    let items = c.in_ok-extend_from_slice-in-Ok.ensures.items in
    some_read _ _ c.args.text.now.items c.extend_from_slice.new.self.items c.read.new.buf rest c.in-Ok.length c.in-Ok.ensures.bytes.0 c.in-Ok.ensures.bound.0 few items

pub returns-in-Err-clause-read : goal.returns-in-Err-clause-read
returns-in-Err-clause-read g c =
    ([], Consumes-kept _ _ _ [] (Consumes-nil _) c.in-Err.ensures.bytes, omega (arith, c.requires.few), tt)
