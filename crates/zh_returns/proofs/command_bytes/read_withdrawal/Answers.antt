use Rattle.std.proofs.Common.{◌≡◌, ◌<◌, ◌≤◌, ◌+◌, ◌-◌, ◌∙◌, ℕ, List, [], ◌∷◌, ◌++◌, length, get_or, take, drop, ap, refl, arith}
use Rattle.std.specs.Int.{w16, w32, to_be_bytes}
use Rattle.std.proofs.lemmas.List.{get_or-drop, length-drop, take_rest}
use Rattle.byteorder.specs.Endian.{big_number}
use Rattle.zh_returns.proofs.NumeralLemmas.{two_read, four_read}
use Rattle.zh_returns.proofs.command_bytes.read_withdrawal.Goals as goal

-- seven bytes, split into the fields of a withdrawal
seven : (bytes : List ℕ) → length bytes ≡ 7 → take 2 bytes ++ (get_or bytes 2 0 ∷ take 4 (drop 3 bytes)) ≡ bytes
seven (a ∷ b ∷ c ∷ d ∷ e ∷ f ∷ g ∷ []) whole = refl
seven _ whole = absurd (omega arith)

-- a withdrawal read from its bytes
withdrawal_read : (bytes : List ℕ) (m n : ℕ) → length bytes ≡ 7 → ((i : ℕ) → get_or bytes i 0 < 256) →
    m ≡ big_number 2 bytes → n ≡ big_number 4 (take (length bytes - 3) (drop 3 bytes)) → to_be_bytes w16 m ++ (get_or bytes 2 0 ∷ to_be_bytes w32 n) ≡ bytes
withdrawal_read bytes m n whole fit em en =
    let fit3 : (i : ℕ) → get_or (drop 3 bytes) i 0 < 256 = λ i. omega (arith, get_or-drop 3 bytes i 0, fit (3 + i)) in
    let room3 : 4 ≤ length (drop 3 bytes) = omega (arith, length-drop 3 bytes) in
    ap (λ (front : List ℕ). front ++ (get_or bytes 2 0 ∷ to_be_bytes w32 n)) (two_read bytes m (omega arith) fit em)
    ∙ ap (λ (back : List ℕ). take 2 bytes ++ (get_or bytes 2 0 ∷ back)) (four_read (drop 3 bytes) n room3 fit3 (en ∙ ap (big_number 4) (take_rest bytes 3)))
    ∙ seven bytes whole

pub returns-clause-read : goal.returns-clause-read
returns-clause-read c =
    let bytes = c.args.bytes.now in (
      (omega arith, omega (arith, c.type_inv.bytes 2), omega arith, omega arith),
      withdrawal_read bytes c.read_u16-municipality.result c.read_u32-number.result (omega arith) (λ i. omega (arith, c.type_inv.bytes i)) c.read_u16-municipality.ensures c.read_u32-number.ensures,
    )
