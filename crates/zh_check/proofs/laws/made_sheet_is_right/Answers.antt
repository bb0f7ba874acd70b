use Rattle.std.proofs.Common.{ap, refl}
use Rattle.zh_sheet.proofs.CallerLemmas.{made_open}
use Rattle.zh_check.proofs.laws.made_sheet_is_right.Goals as goal

pub returns : goal.returns
returns c totals sheet desk accepted is_final made hidden low high few = record {
  desk = (low, high);
  accepted = few;
  same_setup = ap (λ t. t.canton) made.sheet.votes;
  meets = made_open totals sheet made hidden;
  votes = ap (λ t. t.votes) made.sheet.votes;
  text = refl;
}
