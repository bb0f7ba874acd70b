-- What becomes of a companion, which is removed if it is empty.
use Rattle.std.proofs.Common.{◌≡◌, ◌∙◌, ◌∷◌, ◌≤◌, ℕ, List, [], length, Option, Some, None, Result, Ok, Err, IfOk, refl, sym, ap, subst, inl, inr, ⊎_elim, arith}
use Rattle.std.specs.Prelude.{◌⊎◌, ◌++◌, IfErr, IfSome, codes}
use Rattle.std.specs.declared.io.Error.{Error}
use Rattle.zh_file.specs.Failures.{FailedCall, ForgetsNone, FailsBetween, asked_with}
use Rattle.zh_file.specs.Places.{IfKnown, Places, Standing, companion_of, found_at}
use Rattle.zh_file.specs.Places.Standing.{nothing, file, folder, other}
use Rattle.zh_file.proofs.PlaceLemmas.{failed_within, goes_itself, just_failed}
use Rattle.zh_file.specs.declared.notes.Setback.{Setback}
use Rattle.zh_file.specs.Folder.{ActsAt, Folders, IsKind, LooksAt, Removes, failed_after, noted_at}
use Rattle.zh_file.specs.Steps.{GoesAhead, IsRidOfCompanion, LeavesCompanion}
use Rattle.zh_file.specs.declared.folder.Found.{Found}
use Rattle.zh_file.specs.declared.folder.Found.TheVariants as kinds

no_byte : (xs : List ℕ) → 0 ≡ length xs → xs ≡ []
no_byte [] is = refl
no_byte (a ∷ more) is = absurd (omega (arith, is))

empty_file : (standing : Standing) → IsKind standing (kinds.File 0) → standing ≡ file []
empty_file nothing is = absurd is
empty_file (file bytes) is = ap file (no_byte bytes is)
empty_file folder is = absurd is
empty_file other is = absurd is

file_empty : (found : Found) → IsKind (file []) found → found ≡ kinds.File 0
file_empty (kinds.File n) is = ap kinds.File is
file_empty kinds.Folder is = absurd is
file_empty kinds.Other is = absurd is

counted_goes : {T : Type 0} (result : Result T Error) (n : ℕ) → n ≤ failed_after result n
counted_goes (Ok done) n = omega arith
counted_goes (Err error) n = omega arith

-- the companion was looked for at its place
module _ {N : Type 0} (bytes : N → List ℕ) (path name : List ℕ) (companion : N) (is : name ≡ bytes companion) where
  abbrev pub Asks : Folders → Folders → Type 0
  Asks w x = (w.places.leads (companion_of w.places path) ≡ companion_of w.places path)
      × LooksAt (λ (places : Places) (own : N). bytes own ≡ companion_of places path) (Ok companion) w x

  named : (w x : Folders) → Asks w x → name ≡ companion_of x.places path
  named w x asks = is ∙ asks.1.said ∙ ap (λ (p : Places). companion_of p path) (sym asks.1.same)

  -- a call there failed
  pub name_failed : (setback : Setback) (old new : List FailedCall) (x : Folders) → name ≡ companion_of x.places path
      → FailsBetween (record { path = name; setback = setback }) old new → IsRidOfCompanion path old new x
  name_failed setback old new x at failed = inr (record { call = record { path = name; setback = setback }; at = inr at; failed = failed })

  pub look_failed : {T : Type 0} (says : Places → T → Type 0) (error : Error) (setback : Setback) (old new : List FailedCall) (w x y : Folders) → Asks w x
      → LooksAt says (Err error) x y → FailsBetween (record { path = name; setback = setback }) old new → IsRidOfCompanion path old new y
  look_failed says error setback old new w x y asks seen failed =
      name_failed setback old new y (named w x asks ∙ ap (λ (p : Places). companion_of p path) (sym seen.same)) failed

  -- this was found there
  module _ (found : Found) (w x y : Folders) (asks : Asks w x) (seen : LooksAt (λ (places : Places). IsKind (found_at places name)) (Ok found) x y) where
    same : y.places ≡ w.places
    same = seen.same ∙ asks.1.same

    at : name ≡ companion_of w.places path
    at = is ∙ asks.1.said

    kind : IsKind (w.places.stands (companion_of w.places path)) found
    kind = subst (λ (s : Standing). IsKind s found)
        (ap (λ (p : Places). found_at p name) asks.1.same ∙ ap (λ (n : List ℕ). w.places.stands (w.places.leads n)) at ∙ ap w.places.stands asks.0) seen.said

    goes_seen : GoesAhead w y
    goes_seen =
        let one = asks.1.counted.failed in
        let two = seen.counted.failed in
        record { failed = omega (arith, one, two); refused = seen.counted.refused ∙ asks.1.counted.refused }

    -- it is not an empty file, and stays
    pub left_alone : LeavesCompanion path w y
    left_alone = record {
      clears = record {
        leads = ap (λ (p : Places). p.leads) same;
        companion = inl (ap (λ (p : Places). p.stands (companion_of w.places path)) same);
        others = λ place off. ap (λ (p : Places). p.stands place) same;
      };
      goes = goes_seen;
    }

    pub not_empty : (old new : List FailedCall) → (found ≡ kinds.File 0 → ⊥) → IsRidOfCompanion path old new y
    not_empty old new differs = inl (λ empty.
        let here : w.places.stands (companion_of w.places path) ≡ file [] = ap (λ (p : Places). p.stands (companion_of p path)) (sym same) ∙ empty in
        differs (file_empty found (subst (λ (s : Standing). IsKind s found) here kind)))

    -- it is an empty file, and a call was to remove it
    module _ {T : Type 0} (result : Result T Error) (z : Folders) (empty : found ≡ kinds.File 0) (acts : ActsAt (Removes name) result y z) where
      was_empty : w.places.stands (companion_of w.places path) ≡ file []
      was_empty = empty_file (w.places.stands (companion_of w.places path)) (subst (λ (f : Found). IsKind (w.places.stands (companion_of w.places path)) f) empty kind)

      leads : z.places.leads ≡ w.places.leads
      leads = acts.done.leads ∙ ap (λ (p : Places). p.leads) same

      pub removed : LeavesCompanion path w z
      removed = record {
        clears = record {
          leads = leads;
          companion = subst (λ (c : List ℕ). (z.places.stands c ≡ w.places.stands c) ⊎ ((w.places.stands c ≡ file []) × (z.places.stands c ≡ nothing))) at (⊎_elim
              (λ kept. inl (kept ∙ ap (λ (p : Places). p.stands name) same))
              (λ gone. inr (ap w.places.stands at ∙ was_empty, gone))
              acts.done.removed);
          others = λ place off. acts.done.others place (λ here. off (here ∙ at)) ∙ ap (λ (p : Places). p.stands place) same;
        };
        goes =
            let one = goes_seen.failed in
            let two = acts.counted.failed in
            let three = counted_goes result y.failed in
            record { failed = omega (arith, one, two, three); refused = acts.counted.refused ∙ goes_seen.refused };
      }

      there : name ≡ companion_of z.places path
      there = at ∙ ap (λ (l : List ℕ → List ℕ). l path ++ codes "-wal") (sym leads)

      pub gone_or_failed : (old new : List FailedCall) → IfOk result (λ _. z.places.stands name ≡ nothing)
          → IfErr result (λ error. FailsBetween (record { path = name; setback = asked_with error }) old new) → IsRidOfCompanion path old new z
      gone_or_failed old new = by result
        where
          by : (r : Result T Error) → IfOk r (λ _. z.places.stands name ≡ nothing)
              → IfErr r (λ error. FailsBetween (record { path = name; setback = asked_with error }) old new) → IsRidOfCompanion path old new z
          by (Ok done) gone failed = inl (λ empty. let wrong : nothing ≡ file [] = sym gone ∙ ap z.places.stands there ∙ empty in absurd cc)
          by (Err error) gone failed = name_failed (asked_with error) old new z there failed

-- for two values that can be unknown: a property of one of them, added to their relation
pub with_some : {A : Type 0} (Q : A → Type 0) (P : A → A → Type 0) (a b : Option A) → IfSome a Q → IfKnown P a b → IfKnown (λ x y. Q x × P x y) a b
with_some Q P None b q p = p
with_some Q P (Some x) None q p = p
with_some Q P (Some x) (Some y) q p = (q, p)

pub with_ok : {A T E : Type 0} (Q : A → Type 0) (P : A → A → Type 0) (r : Result T E) (a b : Option A) → IfOk r (λ _. IfSome b Q) → IfKnown P a b
    → IfKnown (λ x y. P x y × IfOk r (λ _. Q y)) a b
with_ok Q P r None b q p = p
with_ok Q P r (Some x) None q p = p
with_ok Q P r (Some x) (Some y) q p = (p, q)

pub known_some : {A : Type 0} (Q : A → Type 0) (a b : Option A) → IfKnown (λ x y. Q y) a b → IfSome b Q
known_some {A} Q None b is = subst (λ (k : Option A). IfSome k Q) (sym is) tt
known_some Q (Some x) None is = absurd is
known_some Q (Some x) (Some y) is = is

pub some_all : {A : Type 0} (Q : A → Type 0) (a : Option A) → ((x : A) → Q x) → IfSome a Q
some_all Q None all = tt
some_all Q (Some x) all = all x

-- the call for the name of the companion failed
pub name_unknown : (path : List ℕ) (error : Error) (old new : List FailedCall) → new ≡ record { path = path; setback = asked_with error } ∷ old → (now : Folders) → IsRidOfCompanion path old new now
name_unknown path error old new is now = inr (record {
  call = record { path = path; setback = asked_with error };
  at = inl refl;
  failed = subst (λ (calls : List FailedCall). FailsBetween (record { path = path; setback = asked_with error }) old calls) (sym is) (just_failed (record { path = path; setback = asked_with error }) old);
})

-- the last of several calls failed
pub failed_last : {T : Type 0} (path : List ℕ) (result : Result T Error) (old mid new : List FailedCall) → ForgetsNone old mid → new ≡ noted_at path asked_with result mid
    → IfErr result (λ error. FailsBetween (record { path = path; setback = asked_with error }) old new)
failed_last path (Ok done) old mid new goes is = tt
failed_last path (Err error) old mid new goes is = subst (λ (calls : List FailedCall). FailsBetween (record { path = path; setback = asked_with error }) old calls) (sym is)
    (failed_within (record { path = path; setback = asked_with error }) old mid (record { path = path; setback = asked_with error } ∷ mid) (record { path = path; setback = asked_with error } ∷ mid)
    goes (goes_itself (record { path = path; setback = asked_with error } ∷ mid)) (just_failed (record { path = path; setback = asked_with error }) mid))

-- the same over calls before and after
cleared_within : (path : List ℕ) (a b c d : List FailedCall) (now : Folders) → ForgetsNone a b → ForgetsNone c d → IsRidOfCompanion path b c now → IsRidOfCompanion path a d now
cleared_within path a b c d now one two cleared = ⊎_elim
    (λ none. inl none)
    (λ has. inr (record { call = has.call; at = has.at; failed = failed_within has.call a b c d one two has.failed }))
    cleared

pub known_cleared : (path : List ℕ) (a b c d : List FailedCall) (known : Option Folders) → ForgetsNone a b → ForgetsNone c d → IfSome known (IsRidOfCompanion path b c) → IfSome known (IsRidOfCompanion path a d)
known_cleared path a b c d None one two cleared = tt
known_cleared path a b c d (Some now) one two cleared = cleared_within path a b c d now one two cleared

pub ok_cleared : {T E : Type 0} (path : List ℕ) (a b c d : List FailedCall) (old new : Option Folders) (result : Result T E) → new ≡ old → ForgetsNone a b → ForgetsNone c d
    → IfSome old (IsRidOfCompanion path b c) → IfOk result (λ _. IfSome new (IsRidOfCompanion path a d))
ok_cleared path a b c d old new (Ok it) is one two cleared = subst (λ (k : Option Folders). IfSome k (IsRidOfCompanion path a d)) (sym is) (known_cleared path a b c d old one two cleared)
ok_cleared path a b c d old new (Err fault) is one two cleared = tt
