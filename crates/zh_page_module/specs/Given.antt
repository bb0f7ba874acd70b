-- The texts of a caller.
use Rattle.std.specs.Prelude.{ℕ, List, Bool, Some, None, if◌then◌else◌}
use Rattle.zh_page.specs.Answers.{Texts}

-- the texts of a set-up and of a sheet, and that of an export if there is one
abbrev pub texts_given : List ℕ → List ℕ → Bool → List ℕ → Texts
texts_given setup sheet is_held held = record { setup = setup; sheet = sheet; held = if is_held then Some held else None }
