use Rattle.std.proofs.Common.{◌≡◌, ◌+◌, ◌*◌, ◌≤◌, ◌++◌, drop, length}
use Rattle.zh_sheet_text.specs.SheetText.{part_text, joined_parts}
use Rattle.zh_sheet_text.proofs.line.push_parts.Given as goal

-- what was appended so far, followed by the remaining parts
abbrev pub invariant-loop-place : goal.invariant-loop-place
invariant-loop-place l = record {
  text : l.text.items ++ joined_parts (part_text l.sheet l.head) (drop l.place l.parts) ≡ l.fn.text.items ++ joined_parts (part_text l.sheet l.head) l.parts;
  short : length l.text.items ≤ length l.fn.text.items + 42 * l.place;
}
