use Rattle.std.proofs.Common.{◌≡◌, ◌++◌, drop}
use Rattle.zh_check.specs.Form.{parts_form}
use Rattle.zh_check.proofs.form.push_parts.Given as goal

-- what was appended so far, followed by the remaining parts
abbrev pub invariant-loop-place : goal.invariant-loop-place
invariant-loop-place l = l.text.items ++ parts_form l.setup (drop l.place l.parts) l.rest ≡ l.fn.text.items ++ parts_form l.setup l.parts l.line
