use Rattle.std.proofs.Common.{drop}
use Rattle.zh_sheet_text.specs.Layout.{sheet_lines}
use Rattle.zh_check.specs.Reading.{AddsWords, IsRead, words_at}
use Rattle.zh_check.specs.declared.recomputed.Values.{Values}
use Rattle.zh_check.proofs.recomputed.read.Given as goal

-- with the remaining lines, all values are read
abbrev pub invariant-loop-place : goal.invariant-loop-place
invariant-loop-place l =
    (read : Values) → AddsWords (λ test. words_at test (drop l.place (sheet_lines l.setup)) l.lines) l.values read → IsRead l.setup l.text read
