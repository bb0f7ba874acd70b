-- How a text is shown, byte by byte.
use Rattle.std.proofs.Common.{◌≡◌, ◌<◌, ◌+◌, ◌-◌, ◌∙◌, ℕ, List, ap, arith, drop, get_or, take}
use Rattle.std.proofs.lemmas.List.{get_or-drop, get_or-take}
use Rattle.zh_text.specs.Shown.{byte_shown, shown_at, sign_shown}
use Rattle.zh_text.specs.Signs.{sign_at}
use Rattle.zh_text.specs.declared.shown.ShownNames.{ShownNames}
use Rattle.zh_text.specs.declared.signs.Sign.{Sign}

-- how the byte at a place, counted from 0, is shown by its kind
pub shown_as : (named : ShownNames) (text : List ℕ) (place : ℕ) (sign : Sign) → sign ≡ sign_at text place → sign_shown named sign (get_or text place 0) ≡ shown_at named text (place + 1)
shown_as named text place sign is =
    let same : place ≡ place + 1 - 1 = omega arith in
    ap (λ s. sign_shown named s (get_or text place 0)) is ∙ ap (λ n. sign_shown named (sign_at text n) (get_or text n 0)) same

-- how the first byte of a slice that begins at a place is shown
pub byte_from : (named : ShownNames) (text shown : List ℕ) (place n : ℕ) → shown ≡ byte_shown named (get_or (take n (drop place text)) 0 0) → 0 < n
    → shown ≡ byte_shown named (get_or text place 0)
byte_from named text shown place n is some =
    is ∙ ap (byte_shown named) (get_or-take n (drop place text) 0 0 some ∙ get_or-drop place text 0 0 ∙ ap (λ (i : ℕ). get_or text i 0) (omega arith))
