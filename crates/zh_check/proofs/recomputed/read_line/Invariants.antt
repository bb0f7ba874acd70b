use Rattle.std.proofs.Common.{drop}
use Rattle.zh_check.specs.Reading.{AddsWords, words_in}
use Rattle.zh_check.specs.declared.recomputed.Values.{Values}
use Rattle.zh_check.proofs.recomputed.read_line.Given as goal

-- with the remaining words, all values of the line are read
abbrev pub invariant-loop-place : goal.invariant-loop-place
invariant-loop-place l =
    (read : Values) → AddsWords (λ test. words_in test (drop l.place l.parts) l.rest) l.values read → AddsWords (λ test. words_in test l.parts l.line) l.fn.values read
