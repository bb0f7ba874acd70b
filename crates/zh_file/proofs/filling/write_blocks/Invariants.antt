use Rattle.std.proofs.Common.{◌≡◌, ◌*◌, IsTrue}
use Rattle.zh_file.specs.Locked.{IsShort, LeavesOnly}
use Rattle.zh_file.specs.declared.filling.TheConstants.{BLOCK}
use Rattle.zh_file.proofs.ZeroLemmas.{IsZeroedTo}
use Rattle.zh_file.proofs.filling.write_blocks.Given as goal

abbrev pub invariant-loop-block : goal.invariant-loop-block
invariant-loop-block g l =
    IsTrue (g.D.Disk.is_usable l.locked.file) × (IsTrue (g.D.Disk.is_clean l.locked.file) → IsTrue (g.D.Disk.is_clean l.fn.locked.file))
    × (g.D.Disk.faults l.locked.file ≡ g.D.Disk.faults l.fn.locked.file) × IsZeroedTo (l.block * BLOCK) (g.D.Disk.seen l.locked.file)
    × (LeavesOnly g.D.Disk IsShort l.fn.locked → LeavesOnly g.D.Disk IsShort l.locked)
