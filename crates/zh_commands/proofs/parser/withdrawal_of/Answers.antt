use Rattle.std.proofs.Common.{◌≡◌, refl, length, get_or, ap, arith, sym, ◌∙◌, List, ℕ, [], ◌∷◌, subst}
use Rattle.zh_commands.specs.Words.{numerals, AreNumerals}
use Rattle.zh_commands.proofs.RequestLemmas.{numerals_injective}
use Rattle.zh_commands.proofs.parser.withdrawal_of.Goals as goal

pub returns-in_err-municipality : goal.returns-in_err-municipality
returns-in_err-municipality c = rw c.from_residual.ensures (λ m l n is e. c.in_err-municipality.ensures (m ∷ l ∷ n ∷ []) refl is.0 e)

pub returns-then-number-eq0 : goal.returns-then-number-eq0
returns-then-number-eq0 c m l n is e =
    let found = c.in_ok-municipality.ensures in
    let same = numerals_injective (m ∷ l ∷ n ∷ []) c.in_ok-municipality.field-0 is.0 found.1 (sym e ∙ found.2) in
    absurd (omega (arith, ap (λ (ns : List ℕ). get_or ns 2 0) same, is.1, c.if-number-eq0.true))

-- a list of length three consists of its three numbers
three : (ns : List ℕ) → length ns ≡ 3 → ns ≡ get_or ns 0 0 ∷ get_or ns 1 0 ∷ get_or ns 2 0 ∷ []
three (m ∷ l ∷ n ∷ []) e = refl
three ns e = absurd (omega (arith, e))

pub returns : goal.returns
returns c =
    let found = c.in_ok-municipality.ensures in
    let whole = three c.in_ok-municipality.field-0 found.0 in
    ((subst AreNumerals whole found.1, omega (arith, c.if-number-eq0.false)), found.2 ∙ ap numerals whole)
