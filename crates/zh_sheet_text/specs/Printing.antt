-- Text on its way to a writer, part of it still in a buffer.
use Rattle.std.specs.Prelude.{◌≡◌, ℕ, ◌+◌, ◌<◌, ◌≤◌, List, ◌++◌, Option, Result, OnErr, OnOk, length, take}
use Rattle.std.specs.Io.KnownBytes.{Appends}
use Rattle.zh_text.specs.declared.output.WriteFault.{WriteFault}
use Rattle.zh_sheet_text.specs.declared.write_buffer.TheConstants.{LINE, ROOM}

-- the text comes after what was in the buffer: the writer got a prefix of both, and the rest is in the buffer
pub record Prints (before : Option (List ℕ)) (waiting : List ℕ) (after : Option (List ℕ)) (left text : List ℕ) : Type 0 where
  pub sent : List ℕ
  pub appended : Appends before after sent
  pub whole : waiting ++ text ≡ sent ++ left

-- the writer got a proper prefix of the text
abbrev pub WritesFront : Option (List ℕ) → Option (List ℕ) → List ℕ → Type 0
WritesFront before after text = (n : ℕ) × (n < length text) × Appends before after (take n text)

-- The text comes after what was in the buffer, and there is room for one more line; or the writer failed and got a proper prefix of both.
pub record PrintsAll (text : List ℕ) (result : Result (Unit {0}) WriteFault) (before : Option (List ℕ)) (waiting : List ℕ)
    (after : Option (List ℕ)) (left : List ℕ) : Type 0 where
  pub all : OnOk result (Prints before waiting after left text)
  pub room : OnOk result (length left + LINE ≤ ROOM)
  pub front : OnErr result (WritesFront before after (waiting ++ text))
