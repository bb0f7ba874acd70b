use Rattle.std.proofs.Common.{rules, ◌≡◌, ◌∙◌, ◌*◌, ◌-◌, true, false, List, [], ℕ, OnOk, ap, slice_get, subst, sym}
use Rattle.zh_districts.specs.Canton.{constituency_of}
use Rattle.zh_record_text.specs.Names.{name_of_municipality}
use Rattle.zh_record_text.specs.Records.{PutsText}
use Rattle.zh_record_text.proofs.CallerLemmas.{Puts-none}
use Rattle.zh_tables.specs.Implausible.{implausible_row, neighbours}
use Rattle.zh_tables.specs.Progress.{progress_over, within}
use Rattle.zh_tables.specs.declared.progress.Region.TheVariants.{Others}
use Rattle.zh_tables.proofs.ImplausibleLemmas.{name_found, outweighing_none, outweighing_one}
use Rattle.zh_tables.proofs.implausible.write_outweighing.Goals as goal

pub returns-then-not-outweighs : goal.returns-then-not-outweighs
returns-then-not-outweighs g c =
    let tally = c.args.count.now in
    let m = c.args.municipality in
    let home : c.constituency_of-constituency.result ≡ constituency_of tally.canton m = c.constituency_of-constituency.ensures.number ∙ ap (λ t. constituency_of t m) c.setup-setup.ensures in
    let others : c.progress_within-others.result ≡ neighbours tally m = c.progress_within-others.ensures.progress ∙ ap (λ d. progress_over tally (within tally.canton (Others d m))) home in
    let lighter : c.outweighs.result ≡ false = search rules in
    let none = outweighing_none tally m c.progress_of-own.result c.progress_within-others.result c.progress_of-own.ensures.progress others (sym c.outweighs.ensures ∙ lighter) in
    subst (λ (text : List ℕ). PutsText g.W.Write.contents text c.args.writer.now c.args.writer.now) none (Puts-none g.W.Write.contents c.args.writer.now c.requires.ready)

pub returns : goal.returns
returns g c =
    let tally = c.args.count.now in
    let m = c.args.municipality in
    let home : c.constituency_of-constituency.result ≡ constituency_of tally.canton m = c.constituency_of-constituency.ensures.number ∙ ap (λ t. constituency_of t m) c.setup-setup.ensures in
    let others : c.progress_within-others.result ≡ neighbours tally m = c.progress_within-others.ensures.progress ∙ ap (λ d. progress_over tally (within tally.canton (Others d m))) home in
    let heavier : c.outweighs.result ≡ true = search rules in
    let one = outweighing_one tally m c.progress_of-own.result c.progress_within-others.result c.progress_of-own.ensures.progress others (sym c.outweighs.ensures ∙ heavier) in
    let name : c.municipality_name-name.result.now ≡ name_of_municipality tally.canton m =
    name_found (λ x. x.name) (slice_get tally.canton.municipalities (m - 1)) c.municipality_name-name.result.now (rw c.setup-setup.ensures at c.municipality_name-name.ensures) in
    let row = ap (λ n. implausible_row m [] c.progress_of-own.result.votes (10 * c.progress_within-others.result.votes) n []) name ∙ one in
    subst (λ (text : List ℕ). OnOk c.write_implausible.result (PutsText g.W.Write.contents text c.args.writer.now c.write_implausible.new.writer)) row c.write_implausible.ensures
