use Rattle.std.proofs.Common.{◌≡◌, ◌++◌, drop, take}
use Rattle.csv.specs.Records.{fields_of}
use Rattle.zh_office.specs.JudgementText.{after_commas}
use Rattle.zh_office.proofs.judgement_lines.push_others.Given as goal

abbrev pub invariant-loop-place : goal.invariant-loop-place
invariant-loop-place l = l.line.items ≡ l.fn.line.items ++ after_commas (drop 1 (take l.place (fields_of l.csv_record)))
