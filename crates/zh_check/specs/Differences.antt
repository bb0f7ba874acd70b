-- The first line that differs between two texts.
use Rattle.std.specs.Prelude.{◌≡◌, ◌≢◌, ℕ, ◌+◌, ◌<◌, List}
use Rattle.zh_check.specs.Lines.{after_lines, first_line, whole_line}
use Rattle.zh_check.specs.declared.checked.WrongLine.{WrongLine}

-- this is the first line, including its end, that differs; what it should be is taken from a third text
pub record DiffersAt (text expected shown : List ℕ) (wrong : WrongLine) : Type 0 where
  pub before : ℕ
  pub same : (k : ℕ) → k < before → whole_line (after_lines k text) ≡ whole_line (after_lines k expected)
  pub differ : whole_line (after_lines before text) ≢ whole_line (after_lines before expected)
  pub line : wrong.line ≡ before + 1
  pub found : wrong.found.items ≡ first_line (after_lines before text)
  pub should : wrong.should.items ≡ first_line (after_lines before shown)
