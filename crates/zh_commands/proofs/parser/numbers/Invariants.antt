use Rattle.std.proofs.Common.{◌≡◌, ◌<◌, ◌^◌, ℕ, List, ◌++◌, length, take, drop, All}
use Rattle.zh_commands.specs.Words.{AreNumerals, numerals}
use Rattle.zh_commands.proofs.parser.numbers.Given as goal

-- the numbers so far have been read, and what is left is the same as in any other reading of the text
abbrev pub invariant-loop-number : goal.invariant-loop-number
invariant-loop-number g l = record {
  sized : length l.number-items ≡ g.row.N;
  fit : All (λ n. n < 2 ^ 32) l.number-items;
  read : l.text ≡ numerals (take l.number-index l.number-items) ++ l.rest;
  only : (ns : List ℕ) → length ns ≡ g.row.N → AreNumerals ns → l.text ≡ numerals ns → l.rest ≡ numerals (drop l.number-index ns);
}
