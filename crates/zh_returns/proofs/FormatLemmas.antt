-- The format of a payload in its bytes.
use Rattle.std.proofs.Common.{◌≡◌, ◌∙◌, ◌==◌, ℕ, suc, true, refl, slice_set, List, [], ◌∷◌, length, get_or, drop, Option, Some, None, sym, ap, arith}
use Rattle.std.specs.Prelude.{IfSome}
use Rattle.std.specs.List.{list_all}
use Rattle.zh_returns.specs.declared.command.Format.{Format}
use Rattle.zh_returns.specs.Payload.{format_byte, zeros}
use Rattle.zh_returns.proofs.ZeroLemmas.{zeros_from_all}

-- the byte of a format, followed by zeros
format_whole : (format : Format) (bytes : List ℕ) → length bytes ≡ 175 → list_all (λ byte. byte == 0) (drop 1 bytes) ≡ true
    → format_byte format ≡ get_or bytes 0 0 → (format_byte format ∷ zeros 174) ≡ bytes
format_whole format [] len zero byte = absurd (omega arith)
format_whole format (first ∷ rest) len zero byte =
    let whole : length rest ≡ 174 = omega arith in
    ap (λ (b : ℕ). b ∷ zeros 174) byte ∙ ap (λ (r : List ℕ). first ∷ r) (sym (zeros_from_all rest zero ∙ ap zeros whole))

pub format_read : (bytes : List ℕ) (read : Option Format) → length bytes ≡ 175 → list_all (λ byte. byte == 0) (drop 1 bytes) ≡ true →
    IfSome read (λ format. format_byte format ≡ get_or bytes 0 0) → IfSome read (λ format. (format_byte format ∷ zeros 174) ≡ bytes)
format_read bytes None len zero is = tt
format_read bytes (Some format) len zero is = format_whole format bytes len zero is

-- a byte written to the front of zeros
pub format_written : (n byte : ℕ) → slice_set (zeros (suc n)) 0 byte ≡ byte ∷ zeros n
unfolding zeros
format_written n byte = refl
