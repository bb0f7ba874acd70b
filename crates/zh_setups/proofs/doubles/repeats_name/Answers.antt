use Rattle.std.proofs.Common.{◌≡◌, ℕ, suc, ◌+◌, ◌<◌, Bool, true, false, cond, not, ◌||◌, List, [], ◌∷◌, map, drop, length, get_or, refl, sym, ap, ◌∙◌, arith, drop-cons, add-one}
use denote.Ref.{Bor}
use Rattle.std.proofs.Math.Bool.{or_assoc, or_comm}
use Rattle.std.proofs.lemmas.Grind.{common_steps}
use Rattle.std.proofs.lemmas.Map.Text.{is_eq-slice_cmp}
use Rattle.std.specs.BTreeSet.{BTreeSet, contains_by}
use Rattle.std.specs.Cmp.Lexicographic.{slice_cmp}
use Rattle.std.specs.List.{list_any}
use Rattle.std.specs.Ordering.{is_eq, nat_cmp}
use Rattle.std.specs.Str.{bytes_eq}
use Rattle.toml.specs.Data.{Data}
use Rattle.toml.specs.View.{view}
use Rattle.zh_setups.specs.Document.{name_in, same_name, repeats}
use Rattle.zh_setups.proofs.FoundLemmas.{or_swap}
use Rattle.zh_setups.proofs.doubles.repeats_name.Goals as goal

any_none : (f : List ℕ → Bool) → ((q : List ℕ) → f q ≡ false) → (rest : List Data) → list_any (λ d. f (name_in d)) rest ≡ false
any_none f none [] = refl
any_none f none (d ∷ rest) = ap (λ b. b || list_any (λ x. f (name_in x)) rest) (none (name_in d)) ∙ any_none f none rest

any_more : (f g : List ℕ → Bool) (v : Data) → ((q : List ℕ) → g q ≡ (bytes_eq (name_in v) q || f q)) → (rest : List Data)
    → (list_any (λ d. f (name_in d)) rest || list_any (same_name v) rest) ≡ list_any (λ d. g (name_in d)) rest
any_more f g v more [] = refl
any_more f g v more (d ∷ rest) =
    or_swap (f (name_in d)) (list_any (λ x. f (name_in x)) rest) (same_name v d) (list_any (same_name v) rest)
    ∙ ap (λ b. b || (list_any (λ x. f (name_in x)) rest || list_any (same_name v) rest)) (or_comm (f (name_in d)) (same_name v d) ∙ sym (more (name_in d)))
    ∙ ap (λ b. g (name_in d) || b) (any_more f g v more rest)

-- a new name is among the seen names from now on
goes_on : (f g : List ℕ → Bool) (v : Data) (rest : List Data) → f (name_in v) ≡ false → ((q : List ℕ) → g q ≡ (bytes_eq (name_in v) q || f q)) →
    (list_any (λ d. f (name_in d)) (v ∷ rest) || repeats same_name (v ∷ rest)) ≡ (list_any (λ d. g (name_in d)) rest || repeats same_name rest)
goes_on f g v rest fresh more =
    ap (λ b. (b || list_any (λ d. f (name_in d)) rest) || (list_any (same_name v) rest || repeats same_name rest)) fresh
    ∙ sym (or_assoc (list_any (λ d. f (name_in d)) rest) (list_any (same_name v) rest) (repeats same_name rest))
    ∙ ap (λ b. b || repeats same_name rest) (any_more f g v more rest)

drop_one : {X : Type 0} (h : X → Data) (xs : List X) (i : ℕ) (x : X) → i < length xs → x ≡ get_or xs i x → map h (drop i xs) ≡ h x ∷ map h (drop (i + 1) xs)
drop_one h xs i x lt is = ap (map h) (drop-cons xs i x lt) ∙ ap (λ y. h y ∷ map h (drop (suc i) xs)) (sym is) ∙ ap (λ n. h x ∷ map h (drop n xs)) (sym (add-one i))

not_back : (a b : Bool) → a ≡ not b → b ≡ not a
not_back a true e = ap not (sym e)
not_back a false e = ap not (sym e)

cond_or : (a b : Bool) → cond a true b ≡ (a || b)
cond_or true b = refl
cond_or false b = refl

seen : BTreeSet (Bor (List ℕ)) → List ℕ → Bool
seen names q = contains_by (λ k. slice_cmp nat_cmp q k.now) names

pub loop-value-init : goal.loop-value-init
unfolding seen
loop-value-init c = ap (λ b. b || repeats same_name (map view c.args.values.now))
    (any_none (seen c.new-names.result) (λ q. ap (list_any (λ k. is_eq (slice_cmp nat_cmp q k.now))) c.new-names.ensures.empty)
    (map view c.args.values.now))

pub loop-value-preserved : goal.loop-value-preserved
unfolding seen
loop-value-preserved c =
    let values = c.args.values.now in
    let i = c.loop-value.value-index in
    let v = c.value-item.result in
    let names = c.loop-value.names in
    let key = c.name_in.result.now in
    let fresh : seen names key ≡ false = not_back c.in_ok-insert.field-0 (seen names key) c.in_ok-insert.ensures.added ∙ ap not c.if-not-branch.false in
    let more : (q : List ℕ) → seen c.insert.new.self q ≡ (bytes_eq (name_in (view v)) q || seen names q) = λ q.
    c.in_ok-insert.ensures.updates.0 (record { ref_ptr = (0, 0); now = q })
    ∙ cond_or (is_eq (slice_cmp nat_cmp key q)) (seen names q)
    ∙ ap (λ b. b || seen names q) (is_eq-slice_cmp key q ∙ ap (λ n. bytes_eq n q) c.name_in.ensures) in
    let parts = drop_one view values i v c.loop-value-test.true c.value-item.is in
    sym (goes_on (seen names) (seen c.insert.new.self) (view v) (map view (drop (i + 1) values)) (ap (seen names) (sym c.name_in.ensures) ∙ fresh) more)
    ∙ ap (λ ds. list_any (λ d. seen names (name_in d)) ds || repeats same_name ds) (sym parts)
    ∙ c.loop-value.invariant

pub returns-then-not-branch : goal.returns-then-not-branch
unfolding seen
returns-then-not-branch c =
    let values = c.args.values.now in
    let i = c.loop-value.value-index in
    let v = c.value-item.result in
    let names = c.loop-value.names in
    let key = c.name_in.result.now in
    let rest = map view (drop (i + 1) values) in
    let there : seen names key ≡ true = not_back c.in_ok-insert.field-0 (seen names key) c.in_ok-insert.ensures.added ∙ ap not c.if-not-branch.true in
    let parts = drop_one view values i v c.loop-value-test.true c.value-item.is in
    sym (ap (λ b. (b || list_any (λ d. seen names (name_in d)) rest) || repeats same_name (view v ∷ rest)) (ap (seen names) (sym c.name_in.ensures) ∙ there))
    ∙ ap (λ ds. list_any (λ d. seen names (name_in d)) ds || repeats same_name ds) (sym parts)
    ∙ c.loop-value.invariant

pub returns : goal.returns
returns c =
    let values = c.args.values.now in
    let done : drop c.loop-value.value-index values ≡ [] = grind (arith, common_steps) in
    sym (ap (λ ds. list_any (λ d. contains_by (λ k. slice_cmp nat_cmp (name_in d) k.now) c.loop-value.names) ds || repeats same_name ds) (ap (map view) done)) ∙ c.loop-value.invariant
