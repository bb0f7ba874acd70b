use Rattle.std.proofs.Common.{◌≡◌, drop}
use Rattle.std.specs.List.{list_all}
use Rattle.zh_verdicts.specs.Reports.{is_bare}
use Rattle.zh_verdicts.proofs.reports.are_bare.Given as goal

abbrev pub invariant-loop-byte : goal.invariant-loop-byte
invariant-loop-byte l = list_all is_bare (drop l.byte-index l.name) ≡ list_all is_bare l.name
