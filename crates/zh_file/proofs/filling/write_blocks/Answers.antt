use Rattle.std.proofs.Common.{◌≡◌, ◌∙◌, ◌+◌, ◌*◌, ℕ, subst, arith, length}
use Rattle.sqlite_disk.specs.Disk.{Torn}
use Rattle.zh_file.specs.declared.filling.TheConstants.{BLOCK}
use Rattle.zh_file.proofs.LockedLemmas.{short_call, torn_short}
use Rattle.zh_file.proofs.ZeroLemmas.{IsZeroedTo, zeroed_more}
use Rattle.zh_file.proofs.filling.write_blocks.Goals as goal

pub loop-block-preserved : goal.loop-block-preserved
loop-block-preserved g c =
    let done = c.in_ok-write_at.ensures in
    let before = c.loop-block.invariant in
    let at = c.loop-block.block * BLOCK in
    let next : at + BLOCK ≡ (c.loop-block.block + 1) * BLOCK = omega arith in
    let seen = g.D.Disk.seen in (
      done.usable,
      λ clean. before.1 (done.call.kept clean),
      done.call.counted ∙ before.2,
      subst (λ (n : ℕ). IsZeroedTo n (seen c.write_at.new.self.file)) next
          (zeroed_more BLOCK at c.args.zeros.now (seen c.loop-block.locked.file) (seen c.write_at.new.self.file) c.requires.block (omega arith)
          (omega (arith, c.loop-block-test.true)) c.requires.zeros before.3 done.call.seen done.written),
      λ short. short_call g.D.Disk _ c.loop-block.locked c.write_at.new.self (Torn at (length c.args.zeros.now))
          (λ old new was torn. torn_short at (length c.args.zeros.now) old new (omega (arith, c.loop-block-test.true, c.requires.block)) was torn)
          done.call (before.4 short),
    )

pub returns-in_err-write_at-clause-short : goal.returns-in_err-write_at-clause-short
returns-in_err-write_at-clause-short g c =
    let at = c.loop-block.block * BLOCK in
    λ short. short_call g.D.Disk _ c.loop-block.locked c.write_at.new.self (Torn at (length c.args.zeros.now))
    (λ old new was torn. torn_short at (length c.args.zeros.now) old new (omega (arith, c.loop-block-test.true, c.requires.block)) was torn)
    c.in_err-write_at.ensures.call (c.loop-block.invariant.4 short)
