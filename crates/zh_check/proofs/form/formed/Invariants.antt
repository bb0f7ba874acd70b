use Rattle.std.proofs.Common.{◌≡◌, ◌++◌, drop}
use Rattle.zh_sheet_text.specs.Layout.{sheet_lines}
use Rattle.zh_check.specs.Form.{formed, in_forms}
use Rattle.zh_check.proofs.form.formed.Given as goal

-- what was appended so far, followed by the remaining lines
abbrev pub invariant-loop-place : goal.invariant-loop-place
invariant-loop-place l = l.found.items ++ in_forms l.setup (drop l.place (sheet_lines l.setup)) l.lines ≡ formed l.setup l.text
