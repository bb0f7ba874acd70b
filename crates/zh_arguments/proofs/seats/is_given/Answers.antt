use Rattle.std.proofs.Common.{◌≡◌, ◌∙◌, ap, refl, Option, Some, None, is_some, option_map}
use Rattle.clap.specs.Words.{Text, found_of}
use Rattle.clap.proofs.WalkLemmas.{first_value-rows}
use Rattle.zh_arguments.proofs.seats.is_given.Goals as goal

is_some-mapped : {A B : Type 0} (f : A → B) (o : Option A) → is_some o ≡ is_some (option_map f o)
is_some-mapped f None = refl
is_some-mapped f (Some x) = refl

pub returns : goal.returns
returns c =
    let found = found_of c.args.given.now in
    c.is_some.ensures ∙ is_some-mapped (λ s. s.now) c.get_str.result ∙ ap (λ (o : Option Text). is_some o) (c.get_str.ensures ∙ first_value-rows found c.args.name.now)
