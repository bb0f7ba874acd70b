-- Lists made of blocks of the same length.
use Rattle.std.proofs.Common.{◌≡◌, ◌<◌, ◌+◌, ◌*◌, ◌∙◌, ℕ, zero, suc, List, [], ◌∷◌, ◌++◌, length, get_or, take, drop, set, sym, ap, arith, length-append}
use Rattle.std.specs.List.{flat_map}
use Rattle.std.proofs.Math.Nat.{mul-suc}
use Rattle.std.proofs.lemmas.List.{append-nil, take_at, drop_at, drop-drop, take_more_set, get_or-take, get_or-drop}
use Rattle.std.proofs.lemmas.List.Concat.{flat_map-append}
use Rattle.std.proofs.Math.Seq.{take-add}

-- each block has `width` places
pub record HasWidth {X A : Type 0} (f : X → List A) (width : ℕ) : Type 0 where
  pub at : (x : X) → length (f x) ≡ width

pub length-blocks : {X A : Type 0} (f : X → List A) (width : ℕ) → HasWidth f width → (xs : List X) → length (flat_map f xs) ≡ width * length xs
length-blocks f width wide [] = omega arith
length-blocks f width wide (x ∷ xs) =
    let e = length-blocks f width wide xs in
    let one = wide.at x in
    let step = mul-suc width (length xs) in
    length-append (f x) (flat_map f xs) ∙ omega arith

-- the block of a place
pub block_at : {X A : Type 0} (f : X → List A) (width : ℕ) → HasWidth f width → (xs : List X) (i : ℕ) (d : X) → i < length xs → take width (drop (width * i) (flat_map f xs)) ≡ f (get_or xs i d)
block_at f width wide [] i d within = absurd (omega arith)
block_at f width wide (x ∷ xs) zero d within =
    let start : width * 0 ≡ 0 = omega arith in
    ap (λ (n : ℕ). take width (drop n (f x ++ flat_map f xs))) start ∙ take_at (f x) (flat_map f xs) width (wide.at x)
block_at f width wide (x ∷ xs) (suc i) d within =
    let next : width * suc i ≡ width + width * i = let e = mul-suc width i in omega arith in
    ap (λ (n : ℕ). take width (drop n (f x ++ flat_map f xs))) next
    ∙ ap (take width) (sym (drop-drop (width * i) width (f x ++ flat_map f xs)))
    ∙ ap (λ rest. take width (drop (width * i) rest)) (drop_at (f x) (flat_map f xs) width (wide.at x))
    ∙ block_at f width wide xs i d (omega arith)

-- a place in a block
pub in_block : {X A : Type 0} (f : X → List A) (width : ℕ) → HasWidth f width → (xs : List X) (i j : ℕ) (d : X) (e : A) → i < length xs
    → j < width → get_or (flat_map f xs) (width * i + j) e ≡ get_or (f (get_or xs i d)) j e
in_block f width wide xs i j d e within small =
    sym (get_or-drop (width * i) (flat_map f xs) j e) ∙ sym (get_or-take width (drop (width * i) (flat_map f xs)) j e small)
    ∙ ap (λ block. get_or block j e) (block_at f width wide xs i d within)

-- one more block
pub blocks_more : {X A : Type 0} (f : X → List A) (width : ℕ) (all : List A) (xs : List X) (i : ℕ) (x : X) → i < length xs →
    take (width * i) all ≡ flat_map f (take i xs) → f x ≡ take width (drop (width * i) all) → take (width * (i + 1)) all ≡ flat_map f (take (i + 1) (set xs i x))
blocks_more f width all xs i x within before block =
    let next : width * (i + 1) ≡ width * i + width = let e = mul-suc width i in omega arith in
    ap (λ (n : ℕ). take n all) next ∙ take-add (width * i) width all
    ∙ ap (λ front. front ++ take width (drop (width * i) all)) before
    ∙ ap (λ back. flat_map f (take i xs) ++ back) (sym block ∙ sym (append-nil (f x)))
    ∙ sym (flat_map-append f (take i xs) (x ∷ []))
    ∙ ap (flat_map f) (sym (take_more_set xs i x within))
