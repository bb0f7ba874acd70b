use Rattle.std.proofs.Common.{inr, refl, sym, ap, ◌∙◌, option_map}
use Rattle.csv.specs.Reading.{Reached, strip_bom}
use Rattle.zh_csv.proofs.records.reader_of.Goals as goal

pub returns : goal.returns
unfolding Reached
returns g c front known =
    let from = c.from_reader.ensures in
    let set = c.flexible.ensures in
    let before = c.has_headers.ensures in
    record {
      config = from.config ∙ ap (λ b. b.config) set ∙ ap (λ b. b.config) before ∙ c.new.ensures.config;
      trim = from.trim ∙ ap (λ b. b.trim) set ∙ ap (λ b. b.trim) before ∙ c.new.ensures.trim;
      flexible = from.flexible ∙ ap (λ b. b.flexible) set;
      ready = inr (inr (from.has_headers ∙ ap (λ b. b.has_headers) set ∙ ap (λ b. b.has_headers) before, from.headers));
      rest = strip_bom front;
      source = from.source ∙ ap (option_map strip_bom) (c.new-front.ensures ∙ known);
      leaves = (sym from.state, refl);
    }
