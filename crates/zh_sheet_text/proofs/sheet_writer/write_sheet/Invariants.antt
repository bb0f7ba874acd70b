use Rattle.std.proofs.Common.{◌+◌, ◌≤◌, [], length, take}
use Rattle.std.specs.List.{flat_map}
use Rattle.zh_sheet_text.specs.Layout.{sheet_lines}
use Rattle.zh_sheet_text.specs.Printing.{Prints}
use Rattle.zh_sheet_text.specs.SheetText.{line_text, part_text}
use Rattle.zh_sheet_text.specs.declared.write_buffer.TheConstants.{LINE, ROOM}
use Rattle.zh_sheet_text.proofs.sheet_writer.write_sheet.Given as goal

-- the lines so far are printed, and the buffer has room for one more
abbrev pub invariant-loop-place : goal.invariant-loop-place
invariant-loop-place g l =
    Prints (g.W.Write.contents l.fn.out) [] (g.W.Write.contents l.out) l.buffer.items (flat_map (line_text (part_text l.sheet l.head)) (take l.place (sheet_lines l.sheet.totals.canton)))
    × (length l.buffer.items + LINE ≤ ROOM)
