use Rattle.std.proofs.Common.{◌≡◌, ◌∙◌, Bool, true, false, cond, not, ◌||◌, refl, sym, ap, ℕ}
use Rattle.std.specs.Ordering.{eq_by_cmp}
use Rattle.zh_returns.specs.Keys.{key_cmp}
use Rattle.zh_returns.proofs.CallerLemmas.{keys_alike}
use Rattle.zh_csv.specs.Running.{has_seen}
use Rattle.zh_csv.proofs.held_sums.note_key.Goals as goal

not_back : (a b : Bool) → a ≡ not b → b ≡ not a
not_back a true e = ap not (sym e)
not_back a false e = ap not (sym e)

cond_or : (a b : Bool) → cond a true b ≡ (a || b)
cond_or true b = refl
cond_or false b = refl

pub returns-in-Ok-true : goal.returns-in-Ok-true
returns-in-Ok-true c rows are =
    let key : ℕ × ℕ = (c.args.municipality, c.args.list) in
    let old = c.args.keys.now in
    let added = not_back c.in-Ok-true.field-0 (has_seen old key) c.in-Ok-true.ensures.added in
    let fresh : has_seen old key ≡ false = added ∙ ap not c.in-Ok-true.field-0-test in (
      sym (are key) ∙ fresh,
      λ q.
          c.in-Ok-true.ensures.updates.0 q
          ∙ cond_or (eq_by_cmp key_cmp key q) (has_seen old q)
          ∙ ap (λ b. b || has_seen old q) (keys_alike.symm key q)
          ∙ ap (λ b. eq_by_cmp key_cmp q key || b) (are q),
    )
