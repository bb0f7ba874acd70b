use Rattle.std.proofs.Common.{rules, arith, ◌≡◌, ◌<◌, ◌∙◌, ◌∷◌, ◌++◌, [], false, ap, sym, subst, List, ℕ, length}
use Rattle.std.specs.Map.{values_of}
use Rattle.std.proofs.lemmas.Bool.Decides.{nat_tests}
use Rattle.std.proofs.lemmas.List.{map-append}
use Rattle.indexmap.proofs.CallerLemmas.{insert_entry-new}
use Rattle.zh_returns.specs.declared.row.Row.{Row}
use Rattle.zh_returns.specs.Rows.{row_key, has_key, AreRows}
use Rattle.zh_returns.specs.Batches.{AreKeyed}
use Rattle.zh_returns.proofs.BatchRowLemmas.{not_found, keyed_more, batch_more, taken_by, on_no_error}
use Rattle.zh_returns.proofs.batch.Batch.push.Goals as goal

-- no row with this key was held
fresh : (c : goal.Else-is_err) → has_key (values_of c.self.inside.rows.entries) (row_key c.args.row) ≡ false
fresh c = ap (λ (rows : List Row). has_key rows (row_key c.args.row)) c.self.view_is ∙ (taken_by c.args.self.now c.args.row c.requires.taken).0

-- the row comes after the others
grown : (c : goal.Else-is_err) → c.insert-inserted.new.self.entries ≡ c.self.inside.rows.entries ++ (row_key c.args.row, c.args.row) ∷ []
grown c =
    on_no_error c.insert-inserted.result _ (sym c.is_err.ensures.value ∙ c.if-is_err.false) c.insert-inserted.ensures.entries
    ∙ insert_entry-new _ c.self.inside.rows (row_key c.args.row) c.args.row (not_found c.args.row.municipality c.args.row.list c.self.inside.rows.entries c.self.invariant.0 (fresh c))

grown_rows : (c : goal.Else-is_err) → values_of c.insert-inserted.new.self.entries ≡ values_of c.self.inside.rows.entries ++ c.args.row ∷ []
grown_rows c = ap values_of (grown c) ∙ map-append (λ (e : (ℕ × ℕ) × Row). e.1) c.self.inside.rows.entries ((row_key c.args.row, c.args.row) ∷ [])

pub returns-clause-pushed : goal.returns-clause-pushed
returns-clause-pushed c = grown_rows c ∙ ap (λ (rows : List Row). rows ++ c.args.row ∷ []) c.self.view_is

-- fewer than 1,000 rows were held
was_few : (c : goal.Else-is_err) → length c.args.self.now < 1000
was_few c = let room = (taken_by c.args.self.now c.args.row c.requires.taken).1 in grind (arith, nat_tests)

pub invariant_of-self-2 : goal.invariant_of-self-2
invariant_of-self-2 c =
    let few : length (values_of c.self.inside.rows.entries) < 1000 = subst (λ (rows : List Row). length rows < 1000) (sym c.self.view_is) (was_few c) in (
      subst AreKeyed (sym (grown c)) (keyed_more c.self.inside.rows.entries c.args.row c.self.invariant.0),
      subst AreRows (sym (grown_rows c)) (batch_more (values_of c.self.inside.rows.entries) c.args.row c.self.invariant.1 few (fresh c) c.requires.speakable),
    )

pub returns-then-is_err-clause-pushed : goal.returns-then-is_err-clause-pushed
returns-then-is_err-clause-pushed c = search rules
