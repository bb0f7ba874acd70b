use Rattle.std.proofs.Common.{◌∙◌, List, ℕ, Some, ap, map, sym}
use Rattle.std.specs.List.{list_any}
use Rattle.std.specs.Prelude.{string_bytes}
use Rattle.std.specs.Str.{bytes_eq}
use Rattle.toml.specs.View.{members_view, view}
use Rattle.zh_setups.specs.Keys.{first_other}
use Rattle.zh_setups.proofs.KeyLemmas.{other_here, other_later}
use Rattle.zh_setups.proofs.keys.first_other.Goals as goal

pub returns-then-not-is_among : goal.returns-then-not-is_among
returns-then-not-is_among c =
    let keys = map (λ k. k.now) c.args.keys.now in
    let tested = c.is_among.ensures ∙ ap (λ (key : List ℕ). list_any (λ known. bytes_eq known key) keys) c.as_str.ensures.value in
    ap Some c.as_str-then-not-is_among.ensures.value
    ∙ other_here keys (string_bytes c.in-Some.name.now) (view c.in-Some.field-0-1.now) (members_view c.next.new.self) c.is_among.result tested c.if-not-is_among.true
    ∙ ap (λ entries. first_other keys (members_view entries)) (sym c.in-Some.ensures.steps) ∙ c.loop-name.invariant

pub loop-name-preserved : goal.loop-name-preserved
loop-name-preserved c =
    let keys = map (λ k. k.now) c.args.keys.now in
    let tested = c.is_among.ensures ∙ ap (λ (key : List ℕ). list_any (λ known. bytes_eq known key) keys) c.as_str.ensures.value in
    other_later keys (string_bytes c.in-Some.name.now) (view c.in-Some.field-0-1.now) (members_view c.next.new.self) c.is_among.result tested c.if-not-is_among.false
    ∙ ap (λ entries. first_other keys (members_view entries)) (sym c.in-Some.ensures.steps) ∙ c.loop-name.invariant
