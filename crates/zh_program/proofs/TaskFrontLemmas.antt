-- The first bytes of a sheet's file.
use Rattle.std.proofs.Common.{◌≡◌, ◌∙◌, ◌++◌, ◌+◌, ◌≤◌, ◌⊎◌, ℕ, List, [], length, take, Option, Some, None, sym, ap, subst, arith, inl, inr, append-nil}
use Rattle.std.proofs.KnownBytes.{Consumes-trans}
use Rattle.std.proofs.lemmas.List.{length-append, length-take, take-append-le, take_all}
use Rattle.std.specs.Io.KnownBytes.{Consumes, IsAtEnd}
use Rattle.zh_program.specs.Check.{IsSheetAt}

-- More was read.
pub read_on : (r mid r' : Option (List ℕ)) (text more text' : List ℕ)
    → Consumes r mid text → Consumes mid r' more → text' ≡ text ++ more → Consumes r r' text'
read_on r mid r' text more text' before read is = subst (λ (l : List ℕ). Consumes r r' l) (sym is) (Consumes-trans r mid r' text more before read)

pub few_on : (text more text' : List ℕ) → length text + length more ≤ 280065 → text' ≡ text ++ more → length text' ≤ 280065
few_on text more text' few is = omega (arith, few, ap length is, length-append text more)

-- Nothing was read.
pub nothing_read : (r r' : Option (List ℕ)) (text buffer : List ℕ) (n : ℕ) → n ≡ 0 → Consumes r r' (take n buffer) → length text ≤ 280065
    → (bytes : List ℕ) × Consumes r r' bytes × (length text + length bytes ≤ 280065) × (text ≡ text ++ bytes)
nothing_read r r' text buffer n none read few =
    ([], subst (λ (k : ℕ). Consumes r r' (take k buffer)) none read, omega arith, sym (append-nil text))

-- The first bytes of a buffer were read and appended to the text.
pub some_read : (r r' : Option (List ℕ)) (text text' buffer rest : List ℕ) (n : ℕ) → Consumes r r' (take n buffer) → n ≤ length buffer
    → length text + length buffer ≤ 280065 → text' ≡ text ++ take n (buffer ++ rest)
    → (bytes : List ℕ) × Consumes r r' bytes × (length text + length bytes ≤ 280065) × (text' ≡ text ++ bytes)
some_read r r' text text' buffer rest n read within few is = (
  take n buffer,
  read,
  omega (arith, few, length-take n buffer),
  is ∙ ap (λ (l : List ℕ). text ++ l) (take-append-le n buffer rest within),
)

-- What was read up to the end, or up to 280,065 bytes, is the sheet's prefix.
pub front_read : (r r' : Option (List ℕ)) (text : List ℕ) → Consumes r r' text → length text ≤ 280065 → IsAtEnd r' ⊎ (length text ≡ 280065) → IsSheetAt r text
front_read None r' text read few ends = tt
front_read (Some all) None text read few ends = absurd read
front_read (Some all) (Some rest) text read few (inl none) =
    let is : all ≡ text = read ∙ ap (λ (l : List ℕ). text ++ l) none ∙ append-nil text in
    sym (ap (take 280065) is ∙ take_all 280065 text few)
front_read (Some all) (Some rest) text read few (inr enough) =
    sym (ap (take 280065) read ∙ take-append-le 280065 text rest (omega (arith, enough)) ∙ take_all 280065 text few)
