-- What a text describes, by what was parsed from it.
use Rattle.std.proofs.Common.{◌≡◌, ◌≢◌, ℕ, ◌≤◌, true, leb, List, length, Some, None, Result, Ok, Err, refl, le-leb, inl, inr}
use Rattle.std.specs.Prelude.{IfErr, IsUtf8}
use Rattle.std.specs.Str.{is_utf8}
use Rattle.std.proofs.lemmas.Bool.{cases_Bool}
use Rattle.std.proofs.lemmas.Str.{is_utf8-from_IsUtf8, IsUtf8-from_is_utf8}
use Rattle.toml.specs.Data.{Members}
use Rattle.toml.specs.Parse.{parse_document}
use Rattle.zh_districts.specs.Canton.{Canton}
use Rattle.zh_setups.specs.Document.{checked}
use Rattle.zh_setups.specs.Outcomes.{Gives}
use Rattle.zh_setups.specs.SetupText.{reading_of}
use Rattle.zh_setups.specs.declared.text.SetupFault.{SetupFault}
use Rattle.zh_setups.specs.declared.text.SetupFault.TheVariants.{Memory, Text, Missing, Unknown, Range, Double}

-- a text that parses to a table
pub reading_of-table : (text : List ℕ) (document : Members) → length text ≤ 1048576 → IsUtf8 text → parse_document text ≡ Some document → reading_of text ≡ checked document
reading_of-table text document short utf8 read =
    let fits : leb (length text) 1048576 ≡ true = le-leb (length text) 1048576 short in
    let is_text : is_utf8 text ≡ true = is_utf8-from_IsUtf8 text utf8 in
    rw (fits, is_text, read) refl

-- a text that does not parse
pub reading_of-none : (text : List ℕ) → length text ≤ 1048576 → (IsUtf8 text → parse_document text ≡ None) → reading_of text ≡ Err Text
reading_of-none text short none =
    let fits : leb (length text) 1048576 ≡ true = le-leb (length text) 1048576 short in
    elim (cases_Bool (is_utf8 text)) [
      | inl is_text ↦ rw (fits, is_text, none (IsUtf8-from_is_utf8 text is_text)) refl
      | inr is_none ↦ rw (fits, is_none) refl
    ]

-- a fault that is returned is the wanted one, unless memory was refused
pub given_fault : (r wanted : Result Canton SetupFault) → Gives (λ s. s) r wanted → IfErr r (λ fault. fault ≢ Memory → wanted ≡ Err fault)
given_fault (Ok s) wanted h = tt
given_fault (Err Memory) wanted h = λ other. absurd (other refl)
given_fault (Err Text) wanted h = λ other. h
given_fault (Err Missing) wanted h = λ other. h
given_fault (Err Unknown) wanted h = λ other. h
given_fault (Err Range) wanted h = λ other. h
given_fault (Err Double) wanted h = λ other. h
