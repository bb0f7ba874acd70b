use Rattle.std.proofs.Common.{◌≡◌, ℕ, ◌+◌, ◌-◌, ◌*◌, ◌<◌, ◌≤◌, ◌++◌, [], ◌∷◌, List, append_assoc, get_or, length, map, ap, sym, ◌∙◌, arith}
use Rattle.std.proofs.lemmas.List.{map_push}
use Rattle.zh_sheet.proofs.CallerLemmas.{first_seated, seated_no, seated_yes}
use Rattle.zh_totals.specs.Totals.{place_in}
use Rattle.zh_check.proofs.recomputed.push_columns.Goals as goal
use Rattle.zh_check.proofs.recomputed.push_columns.Goals.{then-divisors-place-gt0+in_ok-push, else-divisors-place-gt0}

pub loop-place-preserved : goal.loop-place-preserved
loop-place-preserved c =
    let p : ℕ = c.loop-place.place in
    let divisors : List ℕ = c.args.divisors.now in
    let old : List ℕ = c.args.columns.now.items in
    let f : ℕ → ℕ = λ g. get_or c.args.seats.now (place_in c.args.setup.now c.args.constituency g) 0 in
    let done : List ℕ = map f (first_seated divisors p) in
    let place : p + 1 - 1 ≡ p = omega arith in
    elim c.if-divisors-place-gt0.branch [
      | then-divisors-place-gt0+in_ok-push w ↦
          let some : 0 < get_or divisors (p + 1 - 1) 0 = rw place w.if-divisors-place-gt0.true in
          let at : (c.args.constituency - 1) * c.groups-groups.result + p ≡ place_in c.args.setup.now c.args.constituency (p + 1)
          = ap (λ m. (c.args.constituency - 1) * m + p) c.groups-groups.ensures.count
          ∙ ap (λ q. (c.args.constituency - 1) * length c.args.setup.now.groups + q) (sym place) in
          ap (λ v. v.items) w.columns-is ∙ (w.in_ok-push.ensures.items
          ∙ (ap (λ xs. xs ++ get_or c.args.seats.now ((c.args.constituency - 1) * c.groups-groups.result + p) 0 ∷ []) c.loop-place.invariant
          ∙ (append_assoc old done (get_or c.args.seats.now ((c.args.constituency - 1) * c.groups-groups.result + p) 0 ∷ [])
          ∙ (ap (λ k. old ++ (done ++ get_or c.args.seats.now k 0 ∷ [])) at
          ∙ ap (λ xs. old ++ xs) (sym (map_push f (first_seated divisors p) (p + 1)) ∙ ap (map f) (sym (seated_yes divisors p some)))))))
      | else-divisors-place-gt0 w ↦
          let none : get_or divisors (p + 1 - 1) 0 ≤ 0 = rw place w.if-divisors-place-gt0.false in
          ap (λ v. v.items) w.columns-is ∙ (c.loop-place.invariant ∙ ap (λ gs. old ++ map f gs) (sym (seated_no divisors p none)))
    ]
