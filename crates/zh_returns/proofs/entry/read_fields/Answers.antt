use Rattle.std.proofs.Common.{◌≡◌, ◌<◌, ◌≤◌, ◌+◌, ◌++◌, ◌∙◌, ℕ, List, [], ◌∷◌, length, get_or, take, drop, ap, sym, refl, arith}
use Rattle.std.specs.Int.{w32, to_be_bytes}
use Rattle.std.proofs.lemmas.List.{take-append-drop, get_or-drop, length-take, length-drop}
use Rattle.byteorder.specs.Endian.{big_number}
use Rattle.zh_returns.specs.declared.entry.EntryFields.{EntryFields}
use Rattle.zh_returns.specs.EntryBytes.{fields_spelling}
use Rattle.zh_returns.specs.Origin.{origin_spelling}
use Rattle.zh_returns.proofs.NumeralLemmas.{first_fit, four_read}
use Rattle.zh_returns.proofs.ZeroLemmas.{four_zeros}
use Rattle.zh_returns.proofs.entry.read_fields.Goals as goal

-- four bytes at a place are those of the number that is read from them
number_read : (bytes : List ℕ) (at n : ℕ) → at + 4 ≤ length bytes → ((i : ℕ) → get_or bytes i 0 < 256) → n ≡ big_number 4 (take 4 (drop at bytes)) →
    to_be_bytes w32 n ≡ take 4 (take 4 (drop at bytes))
number_read bytes at n room fit is =
    four_read (take 4 (drop at bytes)) n (omega (arith, length-take 4 (drop at bytes), length-drop at bytes))
    (first_fit 4 (drop at bytes) (λ i. omega (arith, get_or-drop at bytes i 0, fit (at + i)))) is

-- the first n bytes and the rest, joined again
joined : (n : ℕ) (front back bytes : List ℕ) → front ≡ take n bytes → back ≡ drop n bytes → front ++ back ≡ bytes
joined n front back bytes first rest =
    ap (λ (t : List ℕ). t ++ back) first ∙ ap (λ (t : List ℕ). take n bytes ++ t) rest ∙ take-append-drop n bytes

fields_read : (bytes : List ℕ) (fields : EntryFields) → length bytes ≡ 16 → fields.state ≡ get_or bytes 0 0 → origin_spelling fields.origin ≡ take 3 (drop 1 bytes) →
    to_be_bytes w32 fields.number ≡ take 4 (take 4 (drop 4 bytes)) → to_be_bytes w32 fields.votes ≡ take 4 (take 4 (drop 8 bytes)) →
    take 4 (drop 12 bytes) ≡ 0 ∷ 0 ∷ 0 ∷ 0 ∷ [] → fields_spelling fields ≡ bytes
fields_read (a ∷ b ∷ c ∷ d ∷ e ∷ f ∷ g ∷ h ∷ i ∷ j ∷ k ∷ l ∷ m ∷ n ∷ o ∷ p ∷ []) fields whole state origin number votes zeros =
    let bytes = a ∷ b ∷ c ∷ d ∷ e ∷ f ∷ g ∷ h ∷ i ∷ j ∷ k ∷ l ∷ m ∷ n ∷ o ∷ p ∷ [] in
    joined 1 (fields.state ∷ []) _ bytes (ap (λ (s : ℕ). s ∷ []) state) (
    joined 3 (origin_spelling fields.origin) _ (drop 1 bytes) origin (
    joined 4 (to_be_bytes w32 fields.number) _ (drop 4 bytes) number (
    joined 4 (to_be_bytes w32 fields.votes) _ (drop 8 bytes) votes (sym zeros))))
fields_read _ fields whole state origin number votes zeros = absurd (omega arith)

pub returns : goal.returns
returns c =
    let bytes = c.args.bytes.now in
    let fit : (i : ℕ) → get_or bytes i 0 < 256 = λ i. omega (arith, c.type_inv.bytes i) in
    record {
      read = (
        c.in_ok-read.ensures.read.0,
        fields_read bytes _ c.requires refl c.in_ok-read.ensures.read.1
            (number_read bytes 4 c.read_u32.result (omega arith) fit c.read_u32.ensures)
            (number_read bytes 8 c.read_u32-2.result (omega arith) fit c.read_u32-2.ensures)
            (four_zeros (take 4 (drop 12 bytes)) (omega (arith, length-take 4 (drop 12 bytes), length-drop 12 bytes))
            (sym c.is_zero.ensures ∙ c.if-not-is_zero.false)),
      );
      refused = tt;
    }
