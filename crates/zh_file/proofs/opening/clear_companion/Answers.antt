use Rattle.std.proofs.Common.{◌≡◌, Ok, Err, rules}
use Rattle.std.specs.Prelude.{IfOk}
use Rattle.std.specs.String.{string_bytes}
use Rattle.zh_file.specs.Places.{Places, found_at, companion_of}
use Rattle.zh_file.specs.Places.Standing.{nothing}
use Rattle.zh_file.proofs.PlaceLemmas.{goes_both}
use Rattle.zh_file.specs.Failures.{asked_with}
use Rattle.zh_file.specs.Folder.{ActsAt, Folders, IsKind, LooksAt, Removes}
use Rattle.zh_file.specs.Steps.{IsRidOfCompanion, LeavesCompanion}
use Rattle.zh_file.specs.declared.folder.Found.{Found}
use Rattle.zh_file.specs.declared.folder.Found.TheVariants as kinds
use Rattle.zh_file.proofs.CompanionLemmas.{Asks, failed_last, gone_or_failed, known_some, left_alone, look_failed, name_unknown, not_empty, removed, some_all, with_ok, with_some}
use Rattle.zh_file.proofs.FolderLemmas.{chain, chain_three}
use Rattle.zh_file.proofs.NoteLemmas.{call_goes}
use Rattle.zh_file.proofs.opening.clear_companion.Goals as goal

pub returns-in_err-companion-clause-goes : goal.returns-in_err-companion-clause-goes
returns-in_err-companion-clause-goes g c = call_goes c.args.path.now asked_with c.companion.result _ _ c.companion.ensures.noted

pub returns-in_err-found-clause-goes : goal.returns-in_err-found-clause-goes
returns-in_err-found-clause-goes g c =
    let at = g.F.Folder.failed in
    goes_both (at c.args.folder.now) (at c.companion.new.self) (at c.kind.new.self) (call_goes c.args.path.now asked_with c.companion.result _ _ c.companion.ensures.noted)
    (call_goes c.as_str-name.result.now asked_with c.kind.result _ _ c.kind.ensures.noted)

pub returns-then-is_empty-clause-goes : goal.returns-then-is_empty-clause-goes
returns-then-is_empty-clause-goes g c =
    let at = g.F.Folder.failed in
    goes_both (at c.args.folder.now) (at c.kind.new.self) (at c.remove.new.self)
    (goes_both (at c.args.folder.now) (at c.companion.new.self) (at c.kind.new.self) (call_goes c.args.path.now asked_with c.companion.result _ _ c.companion.ensures.noted)
    (call_goes c.as_str-name.result.now asked_with c.kind.result _ _ c.kind.ensures.noted))
    (call_goes c.as_str-name.result.now asked_with c.remove.result _ _ c.remove.ensures.noted)

pub returns-clause-goes : goal.returns-clause-goes
returns-clause-goes g c =
    let at = g.F.Folder.failed in
    goes_both (at c.args.folder.now) (at c.companion.new.self) (at c.kind.new.self) (call_goes c.args.path.now asked_with c.companion.result _ _ c.companion.ensures.noted)
    (call_goes c.as_str-name.result.now asked_with c.kind.result _ _ c.kind.ensures.noted)

pub returns-in_err-companion-clause-cleared : goal.returns-in_err-companion-clause-cleared
returns-in_err-companion-clause-cleared g c = some_all _ _ (name_unknown c.args.path.now c.in_err-companion.field-0.0 _ _ c.in_err-companion.ensures.noted)

pub returns-in_err-found-clause-cleared : goal.returns-in_err-found-clause-cleared
returns-in_err-found-clause-cleared g c =
    let path = c.args.path.now in
    let name = c.as_str-name.result.now in
    let companion = c.in_ok-companion.companion in
    let is : name ≡ string_bytes companion = search rules in
    let at = g.F.Folder.known in
    let failed = g.F.Folder.failed in
    let asks = with_some (λ (now : Folders). now.places.leads (companion_of now.places path) ≡ companion_of now.places path)
    (LooksAt (λ (places : Places) own. string_bytes own ≡ companion_of places path) (Ok companion)) (at c.args.folder.now) (at c.companion.new.self) c.requires c.in_ok-companion.ensures.call in
    let error = c.in_err-found.field-0.0 in
    let here = failed_last {T = Found} name (Err error) (failed c.args.folder.now) (failed c.companion.new.self) (failed c.kind.new.self) (call_goes path asked_with c.companion.result (failed c.args.folder.now) (failed c.companion.new.self) c.companion.ensures.noted) c.in_err-found.ensures.noted in
    known_some (IsRidOfCompanion path (failed c.args.folder.now) (failed c.kind.new.self)) (at c.args.folder.now) (at c.kind.new.self)
    (chain (Asks string_bytes path name companion is) (LooksAt (λ (places : Places). IsKind (found_at places name)) (Err error)) (λ w y. IsRidOfCompanion path (failed c.args.folder.now) (failed c.kind.new.self) y)
    (at c.args.folder.now) (at c.companion.new.self) (at c.kind.new.self)
    (λ w x y one two. look_failed string_bytes path name companion is (λ (places : Places). IsKind (found_at places name)) error (asked_with error) (failed c.args.folder.now) (failed c.kind.new.self) w x y one two here)
    asks c.in_err-found.ensures.call)

pub returns-then-is_empty-clause-clears : goal.returns-then-is_empty-clause-clears
returns-then-is_empty-clause-clears g c =
    let path = c.args.path.now in
    let name = c.as_str-name.result.now in
    let companion = c.in_ok-companion.companion in
    let is : name ≡ string_bytes companion = search rules in
    let at = g.F.Folder.known in
    let failed = g.F.Folder.failed in
    let asks = with_some (λ (now : Folders). now.places.leads (companion_of now.places path) ≡ companion_of now.places path)
    (LooksAt (λ (places : Places) own. string_bytes own ≡ companion_of places path) (Ok companion)) (at c.args.folder.now) (at c.companion.new.self) c.requires c.in_ok-companion.ensures.call in
    let empty = c.is_empty.ensures.0 c.if-is_empty.true in
    chain_three (Asks string_bytes path name companion is) (LooksAt (λ (places : Places). IsKind (found_at places name)) (Ok c.in_ok-found.found)) (ActsAt (Removes name) c.remove.result) (LeavesCompanion path)
    (at c.args.folder.now) (at c.companion.new.self) (at c.kind.new.self) (at c.remove.new.self)
    (λ w x y z one two three. removed string_bytes path name companion is c.in_ok-found.found w x y one two c.remove.result z empty three)
    asks c.in_ok-found.ensures.call c.remove.ensures.call

pub returns-then-is_empty-clause-cleared : goal.returns-then-is_empty-clause-cleared
returns-then-is_empty-clause-cleared g c =
    let path = c.args.path.now in
    let name = c.as_str-name.result.now in
    let companion = c.in_ok-companion.companion in
    let is : name ≡ string_bytes companion = search rules in
    let at = g.F.Folder.known in
    let failed = g.F.Folder.failed in
    let asks = with_some (λ (now : Folders). now.places.leads (companion_of now.places path) ≡ companion_of now.places path)
    (LooksAt (λ (places : Places) own. string_bytes own ≡ companion_of places path) (Ok companion)) (at c.args.folder.now) (at c.companion.new.self) c.requires c.in_ok-companion.ensures.call in
    let empty = c.is_empty.ensures.0 c.if-is_empty.true in
    let before = goes_both (failed c.args.folder.now) (failed c.companion.new.self) (failed c.kind.new.self) (call_goes path asked_with c.companion.result (failed c.args.folder.now) (failed c.companion.new.self) c.companion.ensures.noted)
    (call_goes name asked_with c.kind.result (failed c.companion.new.self) (failed c.kind.new.self) c.kind.ensures.noted) in
    let here = failed_last name c.remove.result (failed c.args.folder.now) (failed c.kind.new.self) (failed c.remove.new.self) before c.remove.ensures.noted in
    let Gone = λ (y z : Folders). ActsAt (Removes name) c.remove.result y z × IfOk c.remove.result (λ _. z.places.stands name ≡ nothing) in
    known_some (IsRidOfCompanion path (failed c.args.folder.now) (failed c.remove.new.self)) (at c.args.folder.now) (at c.remove.new.self)
    (chain_three (Asks string_bytes path name companion is) (LooksAt (λ (places : Places). IsKind (found_at places name)) (Ok c.in_ok-found.found)) Gone
    (λ w z. IsRidOfCompanion path (failed c.args.folder.now) (failed c.remove.new.self) z)
    (at c.args.folder.now) (at c.companion.new.self) (at c.kind.new.self) (at c.remove.new.self)
    (λ w x y z one two three. gone_or_failed string_bytes path name companion is c.in_ok-found.found w x y one two c.remove.result z empty three.0
    (failed c.args.folder.now) (failed c.remove.new.self) three.1 here)
    asks c.in_ok-found.ensures.call
    (with_ok (λ (now : Folders). now.places.stands name ≡ nothing) (ActsAt (Removes name) c.remove.result) c.remove.result (at c.kind.new.self) (at c.remove.new.self) c.remove.ensures.gone c.remove.ensures.call))

pub returns-clause-clears : goal.returns-clause-clears
returns-clause-clears g c =
    let path = c.args.path.now in
    let name = c.as_str-name.result.now in
    let companion = c.in_ok-companion.companion in
    let is : name ≡ string_bytes companion = search rules in
    let at = g.F.Folder.known in
    let failed = g.F.Folder.failed in
    let asks = with_some (λ (now : Folders). now.places.leads (companion_of now.places path) ≡ companion_of now.places path)
    (LooksAt (λ (places : Places) own. string_bytes own ≡ companion_of places path) (Ok companion)) (at c.args.folder.now) (at c.companion.new.self) c.requires c.in_ok-companion.ensures.call in
    chain (Asks string_bytes path name companion is) (LooksAt (λ (places : Places). IsKind (found_at places name)) (Ok c.in_ok-found.found)) (LeavesCompanion path)
    (at c.args.folder.now) (at c.companion.new.self) (at c.kind.new.self)
    (λ w x y one two. left_alone string_bytes path name companion is c.in_ok-found.found w x y one two)
    asks c.in_ok-found.ensures.call

pub returns-clause-cleared : goal.returns-clause-cleared
returns-clause-cleared g c =
    let path = c.args.path.now in
    let name = c.as_str-name.result.now in
    let companion = c.in_ok-companion.companion in
    let is : name ≡ string_bytes companion = search rules in
    let at = g.F.Folder.known in
    let failed = g.F.Folder.failed in
    let asks = with_some (λ (now : Folders). now.places.leads (companion_of now.places path) ≡ companion_of now.places path)
    (LooksAt (λ (places : Places) own. string_bytes own ≡ companion_of places path) (Ok companion)) (at c.args.folder.now) (at c.companion.new.self) c.requires c.in_ok-companion.ensures.call in
    let full : c.in_ok-found.found ≡ kinds.File 0 → ⊥ = λ empty. let yes = c.is_empty.ensures.1 empty in let no = c.if-is_empty.false in absurd cc in
    known_some (IsRidOfCompanion path (failed c.args.folder.now) (failed c.kind.new.self)) (at c.args.folder.now) (at c.kind.new.self)
    (chain (Asks string_bytes path name companion is) (LooksAt (λ (places : Places). IsKind (found_at places name)) (Ok c.in_ok-found.found)) (λ w y. IsRidOfCompanion path (failed c.args.folder.now) (failed c.kind.new.self) y)
    (at c.args.folder.now) (at c.companion.new.self) (at c.kind.new.self)
    (λ w x y one two. not_empty string_bytes path name companion is c.in_ok-found.found w x y one two (failed c.args.folder.now) (failed c.kind.new.self) full)
    asks c.in_ok-found.ensures.call)
