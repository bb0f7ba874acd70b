-- Reading values one after another, as a loop does.
use Rattle.std.proofs.Common.{◌≡◌, ◌==◌, ℕ, ◌+◌, ◌<◌, List, [], ◌∷◌, ◌++◌, length, get_or, drop, map, Option}
use Rattle.std.proofs.Common.{Some, None, Result, Ok, Err, option_map, refl, sym, ap, ◌∙◌, append_assoc, arith}
use Rattle.std.proofs.lemmas.List.{drop_more}
use Rattle.std.proofs.lemmas.List.FromFn.{map-range_with_len_more}
use Rattle.std.specs.List.{list_any}
use Rattle.toml.specs.View.{view}
use Rattle.toml.specs.Data.{Data}
use Rattle.toml.specs.declared.value.Value.{Value}
use Rattle.zh_setups.specs.Document.{◌>>=◌, each, stands_of}
use Rattle.zh_setups.specs.Outcomes.{Fails, within_range}
use Rattle.zh_setups.specs.declared.text.SetupFault.{SetupFault}
use Rattle.zh_setups.specs.declared.text.SetupFault.TheVariants.{Memory, Range}

-- the values read so far, followed by those still to be read
abbrev pub joined : {X : Type 0} → List X → Option (List X) → Option (List X)
joined front wanted = option_map (λ xs. front ++ xs) wanted

-- a value that is within its range
pub said_ok : {X : Type 0} (o : Option X) (x : X) → within_range o ≡ Ok x → o ≡ Some x
said_ok None x e = absurd cc
said_ok (Some y) x e = cc

-- equal errors have equal faults
pub same_fault : {X : Type 0} (a b : SetupFault) → ◌≡◌ {A = Result X SetupFault} (Err a) (Err b) → a ≡ b
same_fault a b e = cc

-- the fault `Range` is the wanted one if no value is left
pub fails_within : {X Y : Type 0} (fault : SetupFault) (o : Option X) (wanted : Result Y SetupFault) → (o ≡ None → wanted ≡ Err Range) → Fails fault (within_range o) → Fails fault wanted
fails_within Memory o wanted h e = tt
fails_within fault None wanted h e = h refl ∙ ap (λ (f : SetupFault). Err f) (same_fault Range fault e)
fails_within fault (Some x) wanted h e = absurd cc

-- a fault is passed on if no value is left
pub fails_through : {X Y : Type 0} (fault : SetupFault) (o : Option X) (p : Option Y) → (o ≡ None → p ≡ None) → Fails fault (within_range o) → Fails fault (within_range p)
fails_through fault o p h e = fails_within fault o (within_range p) (λ none. ap within_range (h none)) e

regroup : {X : Type 0} (front : List X) (x : X) (wanted : Option (List X)) → joined front (wanted >>= λ xs. Some (x ∷ xs)) ≡ joined (front ++ x ∷ []) wanted
regroup front x None = refl
regroup front x (Some xs) = ap (λ ys. Some ys) (simp append_assoc)

-- the value at place i, and the values after it
turn : {X : Type 0} (f : Data → Option X) (vs : List Value) (i : ℕ) (v : Value) → i < length vs → v ≡ get_or vs i v
    → each f (map view (drop i vs)) ≡ (f (view v) >>= λ x. each f (map view (drop (i + 1) vs)) >>= λ xs. Some (x ∷ xs))
turn f vs i v within v_is = rw (drop_more vs i v within, ← v_is) refl

pub goes_on : {X : Type 0} (f : Data → Option X) (front : List X) (vs : List Value) (i : ℕ) (v : Value) (x : X) (total : Option (List X))
    → i < length vs → v ≡ get_or vs i v → within_range (f (view v)) ≡ Ok x
    → joined front (each f (map view (drop i vs))) ≡ total → joined (front ++ x ∷ []) (each f (map view (drop (i + 1) vs))) ≡ total
goes_on f front vs i v x total within v_is read so_far =
    let one : joined front (each f (map view (drop i vs))) ≡ joined (front ++ x ∷ []) (each f (map view (drop (i + 1) vs))) =
    rw (turn f vs i v within v_is, said_ok (f (view v)) x read) (regroup front x (each f (map view (drop (i + 1) vs)))) in
    sym one ∙ so_far

pub ends : {X : Type 0} (f : Data → Option X) (front : List X) (vs : List Value) (i : ℕ) (v : Value) (fault : SetupFault)
    (total : Option (List X)) → i < length vs → v ≡ get_or vs i v → Fails fault (within_range (f (view v)))
    → joined front (each f (map view (drop i vs))) ≡ total → Fails fault (within_range total)
ends f front vs i v fault total within v_is read so_far =
    fails_through fault (f (view v)) total (λ nothing. sym so_far ∙ rw (turn f vs i v within v_is, nothing) refl) read

-- one more constituency
pub stands_of-more : (numbers : List ℕ) (n : ℕ) → stands_of (n + 1) numbers ≡ stands_of n numbers ++ list_any (λ m. m == n + 1) numbers ∷ []
stands_of-more numbers n = map-range_with_len_more (λ d. list_any (λ m. m == d) numbers) 1 n (n + 1) (omega arith)
