-- A forecast, by whether a record is refused and whether one would be stored.
use Rattle.std.proofs.Common.{◌≡◌, ℕ, nat_lt, List, [], ◌∷◌, length, Bool, true, false, if◌then◌else◌, refl, sym, ap, subst, ◌∙◌, arith, Option, None}
use Rattle.std.specs.List.{find, list_any}
use Rattle.std.specs.Prelude.{count_by, filter, unwrap_or}
use Rattle.std.proofs.lemmas.Bool.Decides.{nat_tests}
use Rattle.std.proofs.lemmas.List.Sums.{length-filter}
use Rattle.zh_commands.specs.declared.replies.Refusal.{Refusal}
use Rattle.zh_commands.specs.declared.replies.Reply.TheVariants as replies
use Rattle.zh_returns.specs.Judgement.{is_accept, is_refusal, of_all}
use Rattle.zh_returns.specs.declared.judgement.Verdict.{Verdict}
use Rattle.zh_returns.specs.declared.judgement.Verdict.TheVariants.{Accept, Same}
use Rattle.zh_office.specs.Answered.{IsAnswered, IsAnsweredWhere}
use Rattle.zh_office.specs.Findings.{Finding, forecast_of, refuses, stores}

abbrev pub any_refused : List Finding → Bool
any_refused found = list_any (λ finding. refuses finding.judgement) found

abbrev pub any_stored : List Finding → Bool
any_stored found = list_any (λ finding. stores finding.judgement) found

-- an element passes the test exactly if the count of those that pass is above 0
filter_any : (p : Finding → Bool) (found : List Finding) → nat_lt 0 (length (filter p found)) ≡ list_any p found
filter_any p [] = refl
filter_any p (one ∷ found) = by (p one) refl (filter_any p found)
  where
    by : (b : Bool) → p one ≡ b → nat_lt 0 (length (filter p found)) ≡ list_any p found → nat_lt 0 (length (filter p (one ∷ found))) ≡ list_any p (one ∷ found)
    by true is rest = rw is (grind (arith, nat_tests))
    by false is rest = rw is rest

count_any : (p : Finding → Bool) (found : List Finding) → nat_lt 0 (count_by p found) ≡ list_any p found
count_any p found = ap (λ (n : ℕ). nat_lt 0 n) (sym (length-filter p found)) ∙ filter_any p found

-- the forecast counts a refused record exactly if one is refused
refused_is : (found : List Finding) (refused : Bool) → any_refused found ≡ refused → refused ≡ nat_lt 0 (forecast_of found).refused
refused_is found refused is = sym (count_any (λ f. refuses f.judgement) found ∙ is)

pub answered_refused : (found : List Finding) (refusal : Refusal) → any_refused found ≡ true → IsAnswered (forecast_of found) (replies.Refused refusal)
answered_refused found refusal is =
    subst (λ (b : Bool). IsAnsweredWhere b (any_stored found) (replies.Refused refusal)) (refused_is found true is) tt

pub answered_stored : (found : List Finding) (accepted : ℕ) → any_refused found ≡ false → any_stored found ≡ true → IsAnswered (forecast_of found) (replies.Stored accepted)
answered_stored found accepted none is =
    subst (λ (b : Bool). IsAnsweredWhere b (any_stored found) (replies.Stored accepted)) (refused_is found false none)
    (subst (λ (b : Bool). IsAnsweredWhere false b (replies.Stored accepted)) (sym is) tt)

pub answered_same : (found : List Finding) → any_refused found ≡ false → any_stored found ≡ false → IsAnswered (forecast_of found) replies.Same
answered_same found none not =
    subst (λ (b : Bool). IsAnsweredWhere b (any_stored found) replies.Same) (refused_is found false none)
    (subst (λ (b : Bool). IsAnsweredWhere false b replies.Same) (sym not) tt)

-- the first verdict that refuses, or this one if none does
abbrev first_refusal : List Verdict → Verdict → Verdict
first_refusal verdicts d = unwrap_or (find is_refusal verdicts) d

-- the verdict on all refuses if one of them does
some_found : (verdicts : List Verdict) (d : Verdict) → list_any is_refusal verdicts ≡ true → is_refusal (first_refusal verdicts d) ≡ true
some_found [] d is = cc is
some_found (v ∷ verdicts) d is = by (is_refusal v) refl (λ later. some_found verdicts d later) is
  where
    by : (b : Bool) → is_refusal v ≡ b → (list_any is_refusal verdicts ≡ true → is_refusal (first_refusal verdicts d) ≡ true)
        → list_any is_refusal (v ∷ verdicts) ≡ true → is_refusal (first_refusal (v ∷ verdicts) d) ≡ true
    by true here rest is = rw here here
    by false not rest is = rw not (rest (rw not at is))

none_found : (verdicts : List Verdict) → list_any is_refusal verdicts ≡ false → find is_refusal verdicts ≡ None
none_found [] is = refl
none_found (v ∷ verdicts) is = by (is_refusal v) refl (λ later. none_found verdicts later) is
  where
    by : (b : Bool) → is_refusal v ≡ b → (list_any is_refusal verdicts ≡ false → find is_refusal verdicts ≡ None)
        → list_any is_refusal (v ∷ verdicts) ≡ false → find is_refusal (v ∷ verdicts) ≡ None
    by true here rest is = let wrong : true ≡ false = rw here at is in cc wrong
    by false not rest is = rw not (rest (rw not at is))

pub all_refused : (verdicts : List Verdict) → list_any is_refusal verdicts ≡ true → is_refusal (of_all verdicts) ≡ true
all_refused verdicts is = some_found verdicts (if list_any is_accept verdicts then Accept else Same) is

pub all_taken : (verdicts : List Verdict) → list_any is_refusal verdicts ≡ false → of_all verdicts ≡ (if list_any is_accept verdicts then Accept else Same)
all_taken verdicts is = ap (λ (o : Option Verdict). unwrap_or o (if list_any is_accept verdicts then Accept else Same)) (none_found verdicts is)
