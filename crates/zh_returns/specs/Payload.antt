-- The bytes of a count. Numbers are big endian.
use Rattle.std.specs.Prelude.{◌≡◌, ℕ, zero, suc, ◌+◌, ◌*◌, Bool, true, false, Option, List, [], ◌∷◌, ◌++◌, map}
use Rattle.std.specs.Int.{w64, to_be_bytes}
use Rattle.std.specs.List.{flat_map}
use Rattle.std.specs.FinSet as set
use Rattle.zh_districts.specs.Spelling.{mask_of}
use Rattle.zh_returns.specs.declared.command.Format.{Format}
use Rattle.zh_returns.specs.declared.command.Format.TheVariants.{One, Two}
use Rattle.zh_returns.specs.declared.entry.Entry.{Entry}
use Rattle.zh_returns.specs.EntryBytes.{entry_spelling}
use Rattle.zh_returns.specs.Limits.{IsTally, IsSaidIn}
use Rattle.zh_returns.specs.Tally.{Tally, empty, held}

-- n consecutive numbers, from the first one on
unfoldable pub numbers : ℕ → ℕ → List ℕ
numbers first zero = []
numbers first (suc n) = first ∷ numbers (first + 1) n

-- n zero bytes
unfoldable pub zeros : ℕ → List ℕ
zeros zero = []
zeros (suc n) = 0 ∷ zeros n

-- what is held in each of this many municipalities, in order, and there for each of the lists 1 to 32
abbrev pub table_of : Tally → ℕ → List (Option Entry)
table_of tally municipalities = flat_map (λ municipality. map (held tally municipality) (numbers 1 32)) (numbers 1 municipalities)

-- the byte with this number, from 0, of those that say which municipalities are closed: it has a bit for each of eight of them,
-- the lowest bit for municipality 8 * byte + 1
abbrev pub closed_byte : Tally → ℕ → ℕ
closed_byte tally byte = mask_of (map (set.contains tally.closed) (numbers (8 * byte + 1) 8))

-- the number of bytes of a count
abbrev pub payload_length : ℕ
payload_length = 8 + 64 + 175 + 16 * (32 * 512)

-- the byte of a format
abbrev pub format_byte : Format → ℕ
format_byte One = 0
format_byte Two = 2

-- how many commands were accepted, which of 512 municipalities are closed, the format and 174 zeros, and what is held
abbrev pub payload_spelling : Format → Tally → List ℕ
payload_spelling format tally =
    to_be_bytes w64 tally.accepted
    ++ (map (closed_byte tally) (numbers 0 64) ++ ((format_byte format ∷ zeros 174) ++ flat_map entry_spelling (table_of tally 512)))

-- these are the bytes of the count in this format, which can name the origins of its entries
pub record IsPayload (format : Format) (tally : Tally) (bytes : List ℕ) : Type 0 where
  pub said : IsSaidIn format tally
  pub spelling : payload_spelling format tally ≡ bytes

-- The count becomes the one that has these bytes in one of the formats. If there is none, it becomes the empty count. Its
-- set-up does not change.
pub record TakesPayload (old : Tally) (bytes : List ℕ) (is_read : Bool) (new : Tally) : Type 0 where
  pub canton : new.canton ≡ old.canton
  pub limits : IsTally new
  pub read : is_read ≡ true → (format : Format) × IsPayload format new bytes
  pub refused : is_read ≡ false → (format : Format) (tally : Tally) → tally.canton ≡ old.canton → IsTally tally →
      IsPayload format tally bytes → ⊥
  pub empty : is_read ≡ false → new ≡ empty old.canton
