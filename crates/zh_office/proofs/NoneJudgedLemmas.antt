-- A text of which no record was judged.
use Rattle.std.proofs.Common.{List, ℕ, [], Option, refl, inl, arith}
use Rattle.csv.specs.Reading.{Reached, strip_bom}
use Rattle.csv.specs.declared.parser.State.TheVariants as states
use Rattle.zh_csv.specs.Front.{front_of}
use Rattle.zh_returns.specs.Tally.{Tally}
use Rattle.zh_office.specs.Findings.{begun}
use Rattle.zh_office.specs.Judged.{IsBrokenOff}
use Rattle.zh_office.specs.JudgementText.{finding_lines}
use Rattle.zh_office.proofs.FrontLemmas.{none_written}

-- no record of a text was judged
pub nothing_judged : (tally : Tally) (IsText : List ℕ → Type 0) (w : Option (List ℕ)) → IsBrokenOff tally IsText w w 0 0
unfolding Reached
nothing_judged tally IsText w = record {
  records = [];
  first = λ bytes is. (states.StartRecord, strip_bom (front_of bytes), (refl, refl));
  enough = omega arith;
  written = inl (none_written 0 w (finding_lines (begun tally [])) refl);
}
