use Rattle.std.proofs.Common.{◌≡◌, ◌<◌, ◌∙◌, List, [], IsTrue, arith, inl, subst, sym}
use Rattle.std.specs.IoError.{error_kind}
use Rattle.std.specs.declared.io.ErrorKind.{ErrorKind}
use Rattle.sqlite_disk.specs.Disk.{Cut}
use Rattle.zh_film.specs.Past.{items}
use Rattle.zh_file.specs.Locked.{IsAmong}
use Rattle.zh_file.specs.Steps.{IsSetBack}
use Rattle.zh_file.proofs.LockedLemmas.{asked_leaves, cut_short, empty_short, err_map, filling_leaves, kept_leaves, no_bytes_of, set_back, short_call}
use Rattle.zh_file.proofs.NoteLemmas.{kinds_before}
use Rattle.zh_file.proofs.stored.locked.Locked.fill.Goals as goal

pub returns-in_err-len-clause-left : goal.returns-in_err-len-clause-left
returns-in_err-len-clause-left g c = λ before. kept_leaves g.D.Disk (g.D.Disk.seen c.args.self.now.file) c.args.self.now c.len.new.self
    (asked_leaves g.D.Disk _ c.args.self.now c.len.new.self c.in_err-len.ensures.call) before

pub returns-then-branch-ne0-clause-left : goal.returns-then-branch-ne0-clause-left
returns-then-branch-ne0-clause-left g c = λ before. kept_leaves g.D.Disk (g.D.Disk.seen c.args.self.now.file) c.args.self.now c.len.new.self
    (asked_leaves g.D.Disk _ c.args.self.now c.len.new.self c.len.ensures.call) before

pub returns-then-may_be_used-clause-left : goal.returns-then-may_be_used-clause-left
returns-then-may_be_used-clause-left g c = λ before.
    let found = g.D.Disk.seen c.args.self.now.file in
    let none : IsTrue (g.D.Disk.is_clean c.len.new.self.file) → found ≡ [] = λ clean.
    no_bytes_of c.in_ok-len.field-0 found (c.in_ok-len.ensures.told clean) (omega (arith, c.if-branch-ne0.false)) in
    filling_leaves g.D.Disk found c.set_len-also_failed.new.self (λ clean. none (c.take_space-taken.ensures.kept (c.set_len-also_failed.ensures.call.kept clean)))
    (short_call g.D.Disk _ c.take_space-taken.new.locked c.set_len-also_failed.new.self (Cut 0) (λ old new was cut. cut_short 0 old new (omega arith) was cut)
    c.set_len-also_failed.ensures.call
    (c.take_space-taken.ensures.short (empty_short g.D.Disk found c.args.self.now c.len.new.self none (asked_leaves g.D.Disk _ c.args.self.now c.len.new.self c.len.ensures.call) before)))

pub returns-else-is_err-clause-left : goal.returns-else-is_err-clause-left
returns-else-is_err-clause-left g c = λ before.
    let found = g.D.Disk.seen c.args.self.now.file in
    let none : IsTrue (g.D.Disk.is_clean c.len.new.self.file) → found ≡ [] = λ clean.
    no_bytes_of c.in_ok-len.field-0 found (c.in_ok-len.ensures.told clean) (omega (arith, c.if-branch-ne0.false)) in
    filling_leaves g.D.Disk found c.take_space-taken.new.locked (λ clean. none (c.take_space-taken.ensures.kept clean))
    (c.take_space-taken.ensures.short (empty_short g.D.Disk found c.args.self.now c.len.new.self none (asked_leaves g.D.Disk _ c.args.self.now c.len.new.self c.len.ensures.call) before))

pub returns-then-may_be_used-clause-same : goal.returns-then-may_be_used-clause-same
returns-then-may_be_used-clause-same g c = λ clean.
    inl (no_bytes_of c.in_ok-len.field-0 (g.D.Disk.seen c.args.self.now.file)
    (c.in_ok-len.ensures.told (c.take_space-taken.ensures.kept (c.set_len-also_failed.ensures.call.kept clean))) (omega (arith, c.if-branch-ne0.false)))

pub returns-else-is_err-clause-same : goal.returns-else-is_err-clause-same
returns-else-is_err-clause-same g c = λ clean.
    inl (no_bytes_of c.in_ok-len.field-0 (g.D.Disk.seen c.args.self.now.file)
    (c.in_ok-len.ensures.told (c.take_space-taken.ensures.kept clean)) (omega (arith, c.if-branch-ne0.false)))

pub returns-then-may_be_used-clause-set_back : goal.returns-then-may_be_used-clause-set_back
returns-then-may_be_used-clause-set_back g c =
    let file = g.D.Disk in
    let old = c.args.self.now.file in
    let new = c.set_len-also_failed.new.self.file in
    let filled = c.take_space-taken.new.locked.file in
    err_map (λ error. file.faults c.len.new.self.file ≡ 0 → 0 < file.faults filled)
    (λ error. IsTrue (file.is_clean new) → IsSetBack file.seen file.is_usable file.faults old new) c.take_space-taken.result
    (λ error failed clean usable zero. set_back c.set_len-also_failed.result (file.seen old) (file.seen new) (file.faults filled) (file.faults new)
    c.set_len-also_failed.ensures.long c.set_len-also_failed.ensures.call.counted
    (no_bytes_of c.in_ok-len.field-0 (file.seen old) (c.in_ok-len.ensures.told (c.take_space-taken.ensures.kept (c.set_len-also_failed.ensures.call.kept clean)))
    (omega (arith, c.if-branch-ne0.false)))
    (failed (c.in_ok-len.ensures.call.counted ∙ zero)))
    c.take_space-taken.ensures.failed

pub returns-then-may_be_used-clause-met : goal.returns-then-may_be_used-clause-met
returns-then-may_be_used-clause-met g c =
    let filled = items c.take_space-taken.new.locked.failed in
    err_map (λ error. IsAmong (error_kind error) filled) (λ error. IsAmong (error_kind error) (items c.set_len-also_failed.new.self.failed)) c.take_space-taken.result
    (λ error among. subst (λ (kinds : List ErrorKind). IsAmong (error_kind error) kinds) (sym c.set_len-also_failed.ensures.call.failed)
    (kinds_before c.set_len-also_failed.result (error_kind error) filled among))
    c.take_space-taken.ensures.met
